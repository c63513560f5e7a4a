-- What a machine leaves of its tiles.
use Rattle.std.proofs.Common.{ℕ, List, ◌≡◌, ◌<◌, Option, Some, Result, Ok, Err, ap, false, true}
use Rattle.std.proofs.Common.{subst, sym, ◌∙◌, arith}
use Rattle.std.specs.Prelude.{IfErr, IsOk, MatchResult, OnErr, OnOk, is_some}
use Rattle.disk_core.proofs.Times.{only_read_on}
use Rattle.disk_core.specs.Times.{OnlyReads}
use Rattle.disk_core.specs.declared.disk.Disk.{Ghosts}
use Rattle.mtc_io.specs.Counts.{Rose}
use Rattle.byte_formats.specs.Types.{Text}
use Rattle.state_journal.specs.Steps.{HasNextMachine, IsLeftBy, IsOutOfMemory, TakesRecord}
use Rattle.state_journal.specs.declared.error.Misfit.{Misfit}
use Rattle.state_journal.specs.declared.error.Misfit.TheVariants.{Memory, Unfit}
use Rattle.tile_store.specs.Store.{tiles_stored}
use Rattle.tile_store.specs.declared.error.TileError.{TileError}
use Rattle.tile_store.specs.declared.error.TileError.TheVariants.{Failed}
use Rattle.tree_core.specs.declared.hashing.TreeHash.{Ghosts as Hashes}
use Rattle.tiled_items.specs.Held.{held_tiles}
use Rattle.issuance_log.specs.Machine.{IsUsable}
use Rattle.tiled_items.specs.Machine.{HasTilesStored, TileDiskIsLeft, TileDiskIsRead}
use Rattle.tiled_items.specs.Machine.{tiled_machine_view}
use Rattle.tiled_items.specs.declared.machine.TiledMachine.{TiledMachine}
use Rattle.tiled_items.specs.declared.machine.TileRest.{TileRest}
use Rattle.tiled_items.specs.declared.rules.ItemRules.{Ghosts as Rules}

-- memory was not refused
pub not_out_of_memory : {X : Type 0} (r : Result X Misfit) → IsOk r → IsOutOfMemory r → ⊥
not_out_of_memory (Ok x) is out_of_memory = out_of_memory
not_out_of_memory (Err why) is out_of_memory = let wrong : false ≡ true = is in absurd cc

-- the same disk is returned
abbrev rest_over : {T : Type 0} → Option TileError → T → TileRest T
rest_over refusal disk = record { disk = disk; refusal = refusal }

pub rest_same : {T : Type 0} (old new : T) (refusal : Option TileError) → new ≡ old
    → rest_over refusal new ≡ rest_over refusal old
rest_same old new refusal same = ap (rest_over refusal) same

module _ {T : Type 0} (k : Ghosts T) (was : TileRest T) where
  -- as it became, over the same disk
  pub read_as : (now new : TileRest T) → new.disk ≡ now.disk → new.refusal ≡ now.refusal
      → TileDiskIsRead k was now → TileDiskIsRead k was new
  read_as now new disk refusal is = record {
    usable = subst IsUsable (sym refusal) is.usable;
    only_reads = subst (OnlyReads k was.disk) (sym disk) is.only_reads;
    fine = ap k.faults disk ∙ is.fine;
  }

  pub read_left : (now : TileRest T) → TileDiskIsRead k was now → TileDiskIsLeft k was now
  read_left now is = record {
    only_reads = is.only_reads;
    fine = λ usable. is.fine;
    failed = λ failed. absurd (is.usable failed);
  }

  -- after a record that was taken, the machine continues or stops for its tiles
  pub left_from : (mid now : TileRest T) (result : Result (Unit {0}) Misfit)
      → TileDiskIsRead k was mid → OnlyReads k mid.disk now.disk
      → OnOk result (k.faults now.disk ≡ k.faults mid.disk)
      → OnOk result (IsUsable mid.refusal → IsUsable now.refusal)
      → OnErr result (now.refusal ≡ Some Failed)
      → OnErr result (Rose (k.faults mid.disk) (k.faults now.disk))
      → IfErr result (λ why. why ≡ Memory) → MatchResult result (λ _. TileDiskIsRead k was now)
      (λ why. IsLeftBy (TileDiskIsRead k) (TileDiskIsLeft k) was now why)
  left_from mid now (Ok done) is more fine usable failed cause stops = record {
    usable = usable is.usable;
    only_reads = only_read_on k was.disk mid.disk now.disk is.only_reads more;
    fine = fine ∙ is.fine;
  }
  left_from mid now (Err Unfit) is more fine usable failed cause stops =
      let wrong : Unfit ≡ Memory = stops in absurd cc
  left_from mid now (Err Memory) is more fine usable failed cause stops = record {
    only_reads = only_read_on k was.disk mid.disk now.disk is.only_reads more;
    fine = λ still. absurd (still failed);
    failed = λ _. subst (λ n. Rose n (k.faults now.disk)) is.fine cause;
  }

-- not all tiles of the last size are stored
pub not_stored : {R H T : Type 0} (rules : Rules R) {hashes : Hashes H} {k : Ghosts T}
    (it : TiledMachine R H T hashes k) → (is_some it.refusal ≡ false)
    × (tiles_stored (held_tiles it.held) < rules.tiled (tiled_machine_view rules it))
    → HasTilesStored rules it → ⊥
not_stored rules it fewer stored =
    let within = stored fewer.0 in
    let below = fewer.1 in
    omega arith

-- memory was refused
pub out_of_memory_is : {X : Type 0} (r : Result X Misfit) → r ≡ Err Memory → IsOutOfMemory r
out_of_memory_is r is = subst IsOutOfMemory (sym is) tt

-- The record was taken, and the machine continues or stops for its tiles.
pub taken_so : {M S : Type 0} (takes : S → Text → Option S) (state : M → S)
    (Keeps : M → List Text → Type 0) (place : ℕ) (body : Text) (old new : M)
    (result : Result (Unit {0}) Misfit) → IfErr result (λ why. why ≡ Memory)
    → HasNextMachine takes state Keeps place body old new
    → TakesRecord takes state Keeps place body old new result
taken_so takes state Keeps place body old new (Ok done) stops next = next
taken_so takes state Keeps place body old new (Err Unfit) stops next =
    let wrong : Unfit ≡ Memory = stops in absurd cc
taken_so takes state Keeps place body old new (Err Memory) stops next = tt
