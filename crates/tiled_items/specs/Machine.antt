-- A journal of items as a state machine: what it keeps in addition to what it shows, and what it
-- has in addition to its records.
use Rattle.std.specs.Prelude.{◌≡◌, ℕ, ◌+◌, ◌≤◌, false, List, Some, None, is_some, length}
use Rattle.byte_formats.specs.Types.{Text}
use Rattle.disk_core.specs.Times.{OnlyReads}
use Rattle.disk_core.specs.declared.disk.Disk.{Ghosts}
use Rattle.frame_pool.specs.Frames.{HoldsKey}
use Rattle.frame_pool.specs.declared.key.TileKey.{TileKey}
use Rattle.issuance_log.specs.Machine.{IsUsable}
use Rattle.mtc_io.specs.Counts.{Rose}
use Rattle.tile_store.specs.Store.{tiles_disk, tiles_stored}
use Rattle.tile_store.specs.declared.error.TileError.TheVariants.{Failed}
use Rattle.tree_core.specs.declared.hashing.TreeHash.{Ghosts as Hashes}
use Rattle.tiled_items.specs.Blocks.{PlacesAreBelow, blocks_of}
use Rattle.tiled_items.specs.Held.{HasItemCapacity, ItemsAreHeld, held_count, held_leaves}
use Rattle.tiled_items.specs.Held.{held_places, held_tiles}
use Rattle.tiled_items.specs.declared.machine.TileRest.{TileRest}
use Rattle.tiled_items.specs.declared.machine.TileSeed.{TileSeed}
use Rattle.tiled_items.specs.declared.machine.TiledMachine.{TiledMachine}
use Rattle.tiled_items.specs.declared.rules.ItemRules.{Ghosts as Rules}

-- ---- the tiles that a machine begins with, and that it returns

module _ {T : Type 0} (k : Ghosts T) (was now : TileRest T) where
  -- While records are read the disk of the tiles is only read, without a fault.
  pub record TileDiskIsRead : Type 0 where
    pub usable : IsUsable now.refusal
    pub only_reads : OnlyReads k was.disk now.disk
    pub fine : k.faults now.disk ≡ k.faults was.disk

  -- So it is where a record can't be taken, unless a call of the disk is the reason.
  pub record TileDiskIsLeft : Type 0 where
    pub only_reads : OnlyReads k was.disk now.disk
    pub fine : IsUsable now.refusal → k.faults now.disk ≡ k.faults was.disk
    pub failed : now.refusal ≡ Some Failed → Rose (k.faults was.disk) (k.faults now.disk)

-- the frames of a seed hold no tile
abbrev pub SeedIsBlank : {T : Type 0} → TileSeed T → Type 0
SeedIsBlank seed = (slot : ℕ) (key : TileKey) → HoldsKey seed.pool slot key → ⊥

-- what it returns
abbrev pub rest_of_tile_seed : {T : Type 0} → TileSeed T → TileRest T
rest_of_tile_seed seed = record { disk = seed.disk; refusal = None }

-- what a machine returns
abbrev pub tiled_rest : {R H T : Type 0} {hashes : Hashes H} {k : Ghosts T}
    → TiledMachine R H T hashes k → TileRest T
tiled_rest it = record { disk = tiles_disk (held_tiles it.held); refusal = it.refusal }

-- ---- a machine that reads its records

module _ {R : Type 0} (rules : Rules R) {H T : Type 0} {hashes : Hashes H} {k : Ghosts T} where
  -- what it shows over every disk
  abbrev pub tiled_machine_view : TiledMachine R H T hashes k → rules.View
  tiled_machine_view it = rules.view it.numbers

  -- These records have its items.
  abbrev pub KeepsTiledItems : TiledMachine R H T hashes k → List Text → Type 0
  KeepsTiledItems it list =
      ItemsAreHeld rules.first rules.added hashes.hash (rules.size (tiled_machine_view it))
      (held_places it.held) (held_leaves it.held) list

  -- The tiles of its last size are stored, unless tiles were refused.
  abbrev pub HasTilesStored : TiledMachine R H T hashes k → Type 0
  HasTilesStored it = is_some it.refusal ≡ false
      → rules.tiled (tiled_machine_view it) ≤ tiles_stored (held_tiles it.held)

  -- Over any disk, where the next record's commit byte stands here: there are as many leaves as
  -- items and a place for each block, the record at each place begins before that commit byte, and
  -- the tiles are stored.
  pub record IsTiledWithin (it : TiledMachine R H T hashes k) (commit_offset : ℕ) : Type 0 where
    pub counted : held_count it.held ≡ rules.size (tiled_machine_view it)
    pub begun : length (held_places it.held) ≡ blocks_of (rules.size (tiled_machine_view it))
    pub below : PlacesAreBelow (held_places it.held) (commit_offset + 1)
    pub stored : HasTilesStored it

  -- A record is taken with what is there: its numbers and its items need no memory, and the tiles
  -- of the size that it makes are stored.
  pub record HasTiledCapacity (it : TiledMachine R H T hashes k) (body : Text) : Type 0 where
    pub numbers : rules.HasCapacity it.numbers body
    pub items : HasItemCapacity (held_count it.held) (length (rules.added body)) it.held
    pub stored : (w : rules.View) → rules.takes hashes.hash (tiled_machine_view it) body ≡ Some w
        → rules.tiled w ≤ tiles_stored (held_tiles it.held)
