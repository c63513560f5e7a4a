-- What a store of tiles shows.
use Rattle.std.specs.Prelude.{◌≡◌, ℕ, List, Option, option_map}
use Rattle.byte_formats.specs.Types.{Hash}
use Rattle.disk_core.specs.Times.{OnlyReads}
use Rattle.disk_core.specs.declared.disk.Disk.{Ghosts}
use Rattle.frame_pool.specs.Frames.{PoolState}
use Rattle.tile_store.specs.Frames.{IsHeld}
use Rattle.tile_store.specs.Layout.{IsFull, tile_level, tile_offset}
use Rattle.tile_store.specs.Sound.{leaves_with}
use Rattle.tile_store.specs.declared.store.Tiles.{Tiles}
use Rattle.tree_cache.specs.Rows.{HaveFilled, count_of, filled_of, filled_to, spare_of}
use Rattle.tree_core.specs.declared.hashing.TreeHash.{Ghosts as Hashes}

module _ {H T : Type 0} {hashes : Hashes H} {g : Ghosts T} where
  -- Its parts: the device, and the pool of frames.
  abbrev pub tiles_disk : Tiles H T hashes g → T
  tiles_disk tiles = tiles.disk

  abbrev pub tiles_pool : Tiles H T hashes g → PoolState
  tiles_pool tiles = tiles.pool

  -- how many leaves there are, and how many more need no memory
  abbrev pub tiles_count : Tiles H T hashes g → ℕ
  tiles_count tiles = count_of tiles.rows

  abbrev pub tiles_spare : Tiles H T hashes g → ℕ
  tiles_spare tiles = spare_of tiles.rows

  -- the nodes over the first so many leaves are made; and over how many they are, once the nodes
  -- over the first `size` leaves are made too
  abbrev pub tiles_filled : Tiles H T hashes g → ℕ
  tiles_filled tiles = filled_of tiles.rows

  abbrev pub tiles_filled_to : ℕ → Tiles H T hashes g → ℕ
  tiles_filled_to size tiles = filled_to size tiles.rows

  -- the tiles that the first so many leaves fill are adopted
  abbrev pub tiles_adopted : Tiles H T hashes g → ℕ
  tiles_adopted tiles = tiles.adopted

  -- and those that the first so many fill were stored or adopted
  abbrev pub tiles_stored : Tiles H T hashes g → ℕ
  tiles_stored tiles = tiles.stored

  -- the leaf hashes, if the model knows the bytes of the device
  abbrev pub tiles_leaves : Tiles H T hashes g → Option (List Hash)
  tiles_leaves tiles = option_map (leaves_with tiles.adopted tiles.rows) (g.contents tiles.disk)

  -- a node is in memory, or a frame holds its tile
  abbrev pub IsAvailable : Tiles H T hashes g → ℕ → ℕ → Type 0
  IsAvailable tiles level place =
      IsFull tiles.adopted (tile_level level) (tile_offset level place)
      → IsHeld tiles.pool (tile_level level) (tile_offset level place)

  -- The device was only read, and all but it, the frames and the nodes that are made or retained of
  -- their tiles is as it was.
  pub record TilesStay (old new : Tiles H T hashes g) : Type 0 where
    pub only_reads : OnlyReads g old.disk new.disk
    pub rows : HaveFilled hashes.hash old.rows new.rows
    pub adopted : new.adopted ≡ old.adopted
    pub stored : new.stored ≡ old.stored
