-- Why tiles are not adopted.
use Rattle.std.specs.Prelude.{◌≡◌, ℕ, ◌+◌, ◌≤◌, ◌<◌, List, length, IfSome}
use Rattle.byte_formats.specs.Types.{Hash, HashFunction, Text}
use Rattle.disk_core.specs.Disk.{part}
use Rattle.disk_core.specs.declared.disk.Disk.{Ghosts}
use Rattle.mtc_io.specs.Counts.{Rose}
use Rattle.tile_store.specs.Contents.{IsTile}
use Rattle.tile_store.specs.Layout.{IsFull, tile_at, tile_number}
use Rattle.tile_store.specs.Store.{tiles_adopted, tiles_disk, tiles_leaves}
use Rattle.tile_store.specs.declared.error.TileError.{TileError}
use Rattle.tile_store.specs.declared.error.TileError.TheVariants.{BadTile, Failed}
use Rattle.tile_store.specs.declared.store.Tiles.{Tiles}
use Rattle.tree_core.specs.declared.hashing.TreeHash.{Ghosts as Hashes}

-- The first `size` leaves fill the tile, and it isn't adopted.
pub record IsNewTile (adopted size level place : ℕ) : Type 0 where
  pub full : IsFull size level place
  pub other : IsFull adopted level place → ⊥

-- The file has the tile.
pub record StandsIn (h : HashFunction) (leaves : List Hash) (bytes : Text) (level place : ℕ)
    : Type 0 where
  pub there : tile_at level place + 8192 ≤ length bytes
  pub tile : IsTile h leaves level place (part (tile_at level place) 8192 bytes)

-- The tile is the first new one that the file has not.
pub record IsFirstBad (h : HashFunction) (leaves : List Hash) (bytes : Text)
    (adopted size level place : ℕ) : Type 0 where
  pub new : IsNewTile adopted size level place
  pub bad : StandsIn h leaves bytes level place → ⊥
  pub first : (l p : ℕ) → IsNewTile adopted size l p → tile_number l p < tile_number level place
      → StandsIn h leaves bytes l p

module _ {H T : Type 0} {hashes : Hashes H} {g : Ghosts T} where
  -- why the tiles of `size` leaves are not adopted, by the store before and the device after
  abbrev pub HasCauseOf : Tiles H T hashes g → T → ℕ → TileError → Type 0
  HasCauseOf old disk size Failed = Rose (g.faults (tiles_disk old)) (g.faults disk)
  HasCauseOf old disk size (BadTile level place) =
      (g.faults disk ≡ g.faults (tiles_disk old))
      × IfSome (g.contents (tiles_disk old)) (λ bytes. IfSome (tiles_leaves old) (λ leaves.
      IsFirstBad hashes.hash leaves bytes (tiles_adopted old) size level place))

-- Over any device a bad tile is one of the new ones, and it begins within the known length.
abbrev pub BeginsWithin : ℕ → ℕ → ℕ → TileError → Type 0
BeginsWithin adopted size known Failed = Unit {0}
BeginsWithin adopted size known (BadTile level place) =
    IsNewTile adopted size level place × (tile_at level place ≤ known)
