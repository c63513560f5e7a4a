-- A log as a state machine over its journal: what it keeps in addition to what it shows, and what
-- it has in addition to its records.
use Rattle.std.specs.Prelude.{◌≡◌, ◌≢◌, ℕ, ◌+◌, ◌≤◌, false, List, Option, Some, None}
use Rattle.std.specs.Prelude.{is_some, length}
use Rattle.byte_formats.specs.Types.{Text}
use Rattle.disk_core.specs.Times.{OnlyReads}
use Rattle.disk_core.specs.declared.disk.Disk.{Ghosts}
use Rattle.frame_pool.specs.Frames.{HoldsKey}
use Rattle.frame_pool.specs.declared.key.TileKey.{TileKey}
use Rattle.mtc_io.specs.Counts.{Rose}
use Rattle.tile_store.specs.Store.{tiles_disk, tiles_stored}
use Rattle.tile_store.specs.declared.error.TileError.{TileError}
use Rattle.tile_store.specs.declared.error.TileError.TheVariants.{Failed}
use Rattle.tree_core.specs.declared.hashing.TreeHash.{Ghosts as Hashes}
use Rattle.issuance_log.specs.Folds.{LogNumbers, LogView, next_view}
use Rattle.issuance_log.specs.Items.{AreBelow, AreKept, HasCapacityOf, items_leaves}
use Rattle.issuance_log.specs.Items.{items_offsets, items_tiles}
use Rattle.issuance_log.specs.Records.{added_in, mark_in}
use Rattle.issuance_log.specs.Results.{HasMarkCapacity}
use Rattle.issuance_log.specs.Sound.{HasSoundNumbers}
use Rattle.issuance_log.specs.declared.items.Items.{Items}
use Rattle.issuance_log.specs.declared.machine.LogMachine.{LogMachine}
use Rattle.issuance_log.specs.declared.machine.TileRest.{TileRest}
use Rattle.issuance_log.specs.declared.machine.TileSeed.{TileSeed}

-- ---- the tiles that a log begins with, and that it returns

-- no call of their disk has failed
abbrev pub IsUsable : Option TileError → Type 0
IsUsable refusal = refusal ≢ Some Failed

module _ {T : Type 0} (k : Ghosts T) (was now : TileRest T) where
  -- While records are read the disk of the tiles is only read, without a fault.
  pub record TilesAreRead : Type 0 where
    pub usable : IsUsable now.refusal
    pub only_reads : OnlyReads k was.disk now.disk
    pub fine : k.faults now.disk ≡ k.faults was.disk

  -- So it is where a record can't be taken, unless a call of the disk is the reason.
  pub record TilesAreLeft : Type 0 where
    pub only_reads : OnlyReads k was.disk now.disk
    pub fine : IsUsable now.refusal → k.faults now.disk ≡ k.faults was.disk
    pub failed : now.refusal ≡ Some Failed → Rose (k.faults was.disk) (k.faults now.disk)

-- the frames of a seed hold no tile
abbrev pub HasNoTiles : {T : Type 0} → TileSeed T → Type 0
HasNoTiles seed = (slot : ℕ) (key : TileKey) → HoldsKey seed.pool slot key → ⊥

-- what it returns
abbrev pub rest_of_seed : {T : Type 0} → TileSeed T → TileRest T
rest_of_seed seed = record { disk = seed.disk; refusal = None }

-- ---- a log that reads its records

module _ {H T : Type 0} {hashes : Hashes H} {k : Ghosts T} where
  -- what it shows over every disk
  abbrev pub machine_view : LogMachine H T hashes k → LogView
  machine_view it = it.numbers.view

  -- what it returns
  abbrev pub rest_in : LogMachine H T hashes k → TileRest T
  rest_in it = record { disk = tiles_disk (items_tiles it.items); refusal = it.refusal }

  -- These records make it, and its items are retained.
  abbrev pub KeepsRecords : LogMachine H T hashes k → List Text → Type 0
  KeepsRecords it list =
      AreKept hashes.hash (machine_view it) (items_offsets it.items) (items_leaves it.items) list

  -- The tiles of its last size are stored, unless tiles were refused.
  abbrev pub HasStored : LogMachine H T hashes k → Type 0
  HasStored it = is_some it.refusal ≡ false
      → (machine_view it).tiled ≤ tiles_stored (items_tiles it.items)

  -- Over any disk, where the next record's commit byte stands here: its numbers are sound, the
  -- offset of each item is below that commit byte, and the tiles are stored.
  pub record IsKeptWithin (it : LogMachine H T hashes k) (commit_offset : ℕ) : Type 0 where
    pub sound : HasSoundNumbers (machine_view it)
    pub below : AreBelow (items_offsets it.items) (commit_offset + 1)
    pub counted : length (items_offsets it.items) ≡ (machine_view it).size
    pub stored : HasStored it

  -- the items or the landmark of a record need no memory
  pub record HasCapacityFor (numbers : LogNumbers) (kept : Items H T hashes k) (body : Text)
      : Type 0 where
    pub items : (list : List (Text × Text)) → added_in body ≡ Some list
        → HasCapacityOf (length list) kept
    pub mark : added_in body ≡ None → HasMarkCapacity numbers (mark_in body)

  -- A record is taken with what is there: it needs no memory, and the tiles of the size that it
  -- makes are stored.
  pub record HasRecordCapacity (it : LogMachine H T hashes k) (body : Text) : Type 0 where
    pub capacity : HasCapacityFor it.numbers it.items body
    pub stored : (v : LogView) → next_view hashes.hash (machine_view it) body ≡ Some v
        → v.tiled ≤ tiles_stored (items_tiles it.items)
