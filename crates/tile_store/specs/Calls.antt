-- What the calls of a store of tiles leave.
use Rattle.std.specs.Prelude.{◌≡◌, ◌⊎◌, ℕ, ◌+◌, ◌*◌, ◌/◌, ◌≤◌, max, [], ◌∷◌, ◌++◌}
use Rattle.std.specs.Prelude.{option_map, IfSome}
use Rattle.byte_formats.specs.Types.{Hash, Text}
use Rattle.disk_core.specs.Times.{LeavesOnly, OnlyReads}
use Rattle.disk_core.specs.declared.disk.Disk.{Ghosts}
use Rattle.tile_store.specs.Causes.{BeginsWithin, HasCauseOf, IsFirstBad, IsNewTile, StandsIn}
use Rattle.tile_store.specs.Contents.{HoldsTiles}
use Rattle.tile_store.specs.Layout.{tile_at, tiles_end, tiles_in}
use Rattle.tile_store.specs.Store.{TilesStay, tiles_adopted, tiles_count, tiles_disk, tiles_filled}
use Rattle.tile_store.specs.Store.{tiles_leaves, tiles_pool, tiles_spare, tiles_stored}
use Rattle.tile_store.specs.Writing.{IsCrashStateAfter, KeepsAfter}
use Rattle.tile_store.specs.declared.error.TileError.{TileError}
use Rattle.tile_store.specs.declared.store.Tiles.{Tiles}
use Rattle.tree_core.specs.declared.hashing.TreeHash.{Ghosts as Hashes}

module _ {H T : Type 0} {hashes : Hashes H} {g : Ghosts T} where
  -- The leaves stay, and the nodes over the first `made` of them are made.
  pub record HasSameLeaves (made : ℕ) (old new : Tiles H T hashes g) : Type 0 where
    pub list : tiles_leaves new ≡ tiles_leaves old
    pub count : tiles_count new ≡ tiles_count old
    pub filled : tiles_filled new ≡ made

  -- The device and the frames stay, and so do the sizes of the lists whose tiles are adopted and
  -- stored.
  pub record HasSameTiles (old new : Tiles H T hashes g) : Type 0 where
    pub disk : tiles_disk new ≡ tiles_disk old
    pub pool : tiles_pool new ≡ tiles_pool old
    pub adopted : tiles_adopted new ≡ tiles_adopted old
    pub stored : tiles_stored new ≡ tiles_stored old

  -- The leaf was appended, and no node over it is made.
  pub record HasLeafMore (leaf : Hash) (old new : Tiles H T hashes g) : Type 0 where
    pub list : tiles_leaves new ≡ option_map (λ list. list ++ leaf ∷ []) (tiles_leaves old)
    pub count : tiles_count new ≡ tiles_count old + 1
    pub filled : tiles_filled new ≡ 2 * (tiles_filled old / 2) + 1

  -- No memory was taken, no tile adopted and no frame changed. At any time a crash leaves what it
  -- might have left before, but for what follows the start of the tile of a number, and no more is
  -- known of the device than up to the end of the tiles that `size` leaves fill.
  pub record OnlyWrites (from size : ℕ) (old new : Tiles H T hashes g) : Type 0 where
    pub spare : tiles_spare new ≡ tiles_spare old
    pub adopted : tiles_adopted new ≡ tiles_adopted old
    pub pool : tiles_pool new ≡ tiles_pool old
    pub reach : g.known (tiles_disk new) ≤ max (tiles_end size) (g.known (tiles_disk old))
    pub any_time : LeavesOnly g (tiles_disk old) (tiles_disk new)
        (IsCrashStateAfter g (tiles_disk old) (8192 * from))

  -- So it is, and what follows the stored tiles is written.
  abbrev pub OnlyStores : ℕ → Tiles H T hashes g → Tiles H T hashes g → Type 0
  OnlyStores size old new = OnlyWrites (tiles_in (tiles_stored old)) size old new

  -- Each crash leaves the tiles that the first `size` leaves fill, and their end is known.
  pub record TilesAreStored (size : ℕ) (old new : Tiles H T hashes g) : Type 0 where
    pub stored : tiles_stored new ≡ max size (tiles_stored old)
    pub known : g.known (tiles_disk new) ≡ max (tiles_end size) (g.known (tiles_disk old))
    pub holds : IfSome (tiles_leaves old) (λ leaves. (c : Text) → g.may_leave (tiles_disk new) c
        → HoldsTiles hashes.hash leaves size c)

  -- The tiles that the first `size` leaves fill stand in the file, without a failure.
  pub record TilesAreAdopted (size : ℕ) (old new : Tiles H T hashes g) : Type 0 where
    pub adopted : tiles_adopted new ≡ max size (tiles_adopted old)
    pub stored : tiles_stored new ≡ max size (tiles_stored old)
    pub stands : IfSome (g.contents (tiles_disk old)) (λ bytes. IfSome (tiles_leaves old)
        (λ leaves. (level place : ℕ) → IsNewTile (tiles_adopted old) size level place
        → StandsIn hashes.hash leaves bytes level place))
    pub fine : g.faults (tiles_disk new) ≡ g.faults (tiles_disk old)

  -- All but the frames and the nodes that are made stays, and there is a cause.
  pub record TilesAreNotAdopted (size : ℕ) (old new : Tiles H T hashes g) (why : TileError)
      : Type 0 where
    pub stays : TilesStay old new
    pub cause : HasCauseOf old (tiles_disk new) size why
    pub within : BeginsWithin (tiles_adopted old) size (g.known (tiles_disk new)) why

  -- The tile was the first new one that the file didn't have. At any time a crash leaves what it
  -- might have left before, but for what follows the start of this tile.
  pub record WritesFromBadTile (size : ℕ) (old new : Tiles H T hashes g) : Type 0 where
    pub level : ℕ
    pub place : ℕ
    pub bad : IfSome (g.contents (tiles_disk old)) (λ bytes. IfSome (tiles_leaves old) (λ leaves.
        IsFirstBad hashes.hash leaves bytes (tiles_adopted old) size level place))
    pub any_time : LeavesOnly g (tiles_disk old) (tiles_disk new)
        (IsCrashStateAfter g (tiles_disk old) (tile_at level place))

  -- The device was only read, or written from its first bad tile on.
  abbrev pub RenewsTiles : ℕ → Tiles H T hashes g → Tiles H T hashes g → Type 0
  RenewsTiles size old new =
      OnlyReads g (tiles_disk old) (tiles_disk new) ⊎ WritesFromBadTile size old new

  -- Each crash leaves the tiles that the first `size` leaves fill, and their end is known. The
  -- bytes after them stay.
  pub record TilesAreRenewed (size : ℕ) (old new : Tiles H T hashes g) : Type 0 where
    pub stored : tiles_stored new ≡ max size (tiles_stored old)
    pub reach : tiles_end size ≤ g.known (tiles_disk new)
    pub holds : IfSome (tiles_leaves old) (λ leaves. (c : Text) → g.may_leave (tiles_disk new) c
        → HoldsTiles hashes.hash leaves size c)
    pub after : KeepsAfter g (tiles_end size) (tiles_disk old) (tiles_disk new)
