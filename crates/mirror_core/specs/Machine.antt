-- A mirror as a state machine over its journal: what it keeps in addition to what it shows, and
-- what it has in addition to its records.
use Rattle.std.specs.Prelude.{◌≡◌, ℕ, ◌+◌, ◌*◌, ◌≤◌, false, List, Some, None, is_some}
use Rattle.std.specs.Prelude.{length}
use Rattle.byte_formats.specs.Types.{Text}
use Rattle.disk_core.specs.Times.{OnlyReads}
use Rattle.disk_core.specs.declared.disk.Disk.{Ghosts}
use Rattle.frame_pool.specs.Frames.{HoldsKey}
use Rattle.frame_pool.specs.declared.key.TileKey.{TileKey}
use Rattle.mtc_io.specs.Counts.{Rose}
use Rattle.tile_store.specs.Store.{tiles_disk, tiles_stored}
use Rattle.tile_store.specs.declared.error.TileError.TheVariants.{Failed}
use Rattle.tree_core.specs.declared.hashing.TreeHash.{Ghosts as Hashes}
use Rattle.issuance_log.specs.Machine.{IsUsable}
use Rattle.mirror_core.specs.Folds.{MirrorView, next_mirror_view}
use Rattle.mirror_core.specs.Kept.{HasBatchCapacity, IsMirrored, kept_count}
use Rattle.mirror_core.specs.Kept.{kept_leaves, kept_places, kept_tiles}
use Rattle.mirror_core.specs.Places.{ArePlaced}
use Rattle.mirror_core.specs.Records.{mirrored_in}
use Rattle.mirror_core.specs.declared.machine.MirrorMachine.{MirrorMachine}
use Rattle.mirror_core.specs.declared.machine.MirrorRest.{MirrorRest}
use Rattle.mirror_core.specs.declared.machine.MirrorSeed.{MirrorSeed}

-- ---- the tiles that a mirror begins with, and that it returns

module _ {T : Type 0} (k : Ghosts T) (was now : MirrorRest T) where
  -- While records are read the disk of the tiles is only read, without a fault.
  pub record MirrorReadsTiles : Type 0 where
    pub usable : IsUsable now.refusal
    pub only_reads : OnlyReads k was.disk now.disk
    pub fine : k.faults now.disk ≡ k.faults was.disk

  -- So it is where a record can't be taken, unless a call of the disk is the reason.
  pub record MirrorLeavesTiles : Type 0 where
    pub only_reads : OnlyReads k was.disk now.disk
    pub fine : IsUsable now.refusal → k.faults now.disk ≡ k.faults was.disk
    pub failed : now.refusal ≡ Some Failed → Rose (k.faults was.disk) (k.faults now.disk)

-- the frames of a seed hold no tile
abbrev pub HasBlankPool : {T : Type 0} → MirrorSeed T → Type 0
HasBlankPool seed = (slot : ℕ) (key : TileKey) → HoldsKey seed.pool slot key → ⊥

-- what it returns
abbrev pub rest_of_mirror_seed : {T : Type 0} → MirrorSeed T → MirrorRest T
rest_of_mirror_seed seed = record { disk = seed.disk; refusal = None }

-- ---- a mirror that reads its records

module _ {H T : Type 0} {hashes : Hashes H} {k : Ghosts T} where
  -- what it shows over every disk
  abbrev pub view_of_machine : MirrorMachine H T hashes k → MirrorView
  view_of_machine it = it.numbers

  -- what it returns
  abbrev pub rest_in_mirror : MirrorMachine H T hashes k → MirrorRest T
  rest_in_mirror it = record { disk = tiles_disk (kept_tiles it.kept); refusal = it.refusal }

  -- These records make it, and its items are retained.
  abbrev pub KeepsMirrored : MirrorMachine H T hashes k → List Text → Type 0
  KeepsMirrored it list =
      IsMirrored hashes.hash (view_of_machine it) (kept_places it.kept) (kept_leaves it.kept) list

  -- The tiles of its last size are stored, unless tiles were refused.
  abbrev pub HasStoredTiles : MirrorMachine H T hashes k → Type 0
  HasStoredTiles it = is_some it.refusal ≡ false
      → (view_of_machine it).tiled ≤ tiles_stored (kept_tiles it.kept)

  -- Over any disk, where the next record's commit byte stands here: each Batch begins before it,
  -- there are as many items as leaves, each item has four bytes of the journal at least, and the
  -- tiles are stored.
  pub record IsMirrorWithin (it : MirrorMachine H T hashes k) (commit_offset : ℕ) : Type 0 where
    pub placed : ArePlaced (kept_places it.kept) (view_of_machine it).size (commit_offset + 1)
    pub counted : kept_count it.kept ≡ (view_of_machine it).size
    pub long : 4 * (view_of_machine it).size ≤ commit_offset
    pub stored : HasStoredTiles it

  -- A record is taken with what is there: its items need no memory, and the tiles of the size that
  -- it makes are stored.
  pub record HasMirrorCapacity (it : MirrorMachine H T hashes k) (body : Text) : Type 0 where
    pub capacity : (items : List (Text × Text)) → mirrored_in body ≡ Some items
        → HasBatchCapacity (length items) it.kept
    pub stored : (v : MirrorView) → next_mirror_view hashes.hash (view_of_machine it) body ≡ Some v
        → v.tiled ≤ tiles_stored (kept_tiles it.kept)
