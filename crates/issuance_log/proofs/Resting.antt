-- What the machine of a log leaves of its tiles.
use Rattle.std.proofs.Common.{◌≡◌, ◌<◌, Option, Some, Result, Ok, Err, ap, false, true, subst, sym}
use Rattle.std.proofs.Common.{◌∙◌, arith}
use Rattle.std.specs.Prelude.{IfErr, IsOk, MatchResult, OnErr, OnOk, is_some}
use Rattle.disk_core.proofs.Times.{only_read_on}
use Rattle.disk_core.specs.Times.{OnlyReads}
use Rattle.disk_core.specs.declared.disk.Disk.{Ghosts}
use Rattle.mtc_io.specs.Counts.{Rose}
use Rattle.state_journal.specs.Steps.{IsLeftBy, IsOutOfMemory}
use Rattle.state_journal.specs.declared.error.Misfit.{Misfit}
use Rattle.state_journal.specs.declared.error.Misfit.TheVariants.{Memory, Unfit}
use Rattle.tile_store.specs.Store.{tiles_stored}
use Rattle.tile_store.specs.declared.error.TileError.{TileError}
use Rattle.tile_store.specs.declared.error.TileError.TheVariants.{Failed}
use Rattle.tree_core.specs.declared.hashing.TreeHash.{Ghosts as Hashes}
use Rattle.issuance_log.specs.Items.{items_tiles}
use Rattle.issuance_log.specs.Machine.{HasStored, IsUsable, TilesAreLeft, TilesAreRead}
use Rattle.issuance_log.specs.Machine.{machine_view}
use Rattle.issuance_log.specs.Results.{IsMemoryRefused}
use Rattle.issuance_log.specs.declared.error.RecordError.{RecordError}
use Rattle.issuance_log.specs.declared.error.RecordError.TheVariants as record_error
use Rattle.issuance_log.specs.declared.machine.LogMachine.{LogMachine}
use Rattle.issuance_log.specs.declared.machine.TileRest.{TileRest}

-- memory was refused, and it wasn't
pub out_of_memory_is : {X : Type 0} (r : Result X RecordError) → r ≡ Err record_error.Memory
    → IsMemoryRefused r
out_of_memory_is r is = subst IsMemoryRefused (sym is) tt

pub not_out_of_memory : {X : Type 0} (r : Result X Misfit) → IsOk r → IsOutOfMemory r → ⊥
not_out_of_memory (Ok x) is out_of_memory = out_of_memory
not_out_of_memory (Err why) is out_of_memory = let wrong : false ≡ true = is in absurd cc

-- the same disk is returned
abbrev rest_over : {T : Type 0} → Option TileError → T → TileRest T
rest_over refusal disk = record { disk = disk; refusal = refusal }

pub rest_same : {T : Type 0} (old new : T) (refusal : Option TileError) → new ≡ old
    → rest_over refusal new ≡ rest_over refusal old
rest_same old new refusal same = ap (rest_over refusal) same

module _ {T : Type 0} (k : Ghosts T) (was : TileRest T) where
  -- as it became, over the same disk
  pub read_as : (now new : TileRest T) → new.disk ≡ now.disk → new.refusal ≡ now.refusal
      → TilesAreRead k was now → TilesAreRead k was new
  read_as now new disk refusal is = record {
    usable = subst IsUsable (sym refusal) is.usable;
    only_reads = subst (OnlyReads k was.disk) (sym disk) is.only_reads;
    fine = ap k.faults disk ∙ is.fine;
  }

  pub read_left : (now : TileRest T) → TilesAreRead k was now → TilesAreLeft k was now
  read_left now is = record {
    only_reads = is.only_reads;
    fine = λ usable. is.fine;
    failed = λ failed. absurd (is.usable failed);
  }

  -- after a record that was taken, the machine continues or stops for its tiles
  pub left_from : (mid now : TileRest T) (result : Result (Unit {0}) Misfit)
      → TilesAreRead k was mid → OnlyReads k mid.disk now.disk
      → OnOk result (k.faults now.disk ≡ k.faults mid.disk)
      → OnOk result (IsUsable mid.refusal → IsUsable now.refusal)
      → OnErr result (now.refusal ≡ Some Failed)
      → OnErr result (Rose (k.faults mid.disk) (k.faults now.disk))
      → IfErr result (λ why. why ≡ Memory) → MatchResult result (λ _. TilesAreRead k was now)
      (λ why. IsLeftBy (TilesAreRead k) (TilesAreLeft k) was now why)
  left_from mid now (Ok done) is more fine usable failed cause stops = record {
    usable = usable is.usable;
    only_reads = only_read_on k was.disk mid.disk now.disk is.only_reads more;
    fine = fine ∙ is.fine;
  }
  left_from mid now (Err Unfit) is more fine usable failed cause stops =
      let wrong : Unfit ≡ Memory = stops in absurd cc
  left_from mid now (Err Memory) is more fine usable failed cause stops = record {
    only_reads = only_read_on k was.disk mid.disk now.disk is.only_reads more;
    fine = λ still. absurd (still failed);
    failed = λ _. subst (λ n. Rose n (k.faults now.disk)) is.fine cause;
  }

-- not all tiles of the last size are stored
pub not_stored : {H T : Type 0} {hashes : Hashes H} {k : Ghosts T} (it : LogMachine H T hashes k)
    → (is_some it.refusal ≡ false)
    × (tiles_stored (items_tiles it.items) < (machine_view it).tiled) → HasStored it → ⊥
not_stored it fewer stored =
    let within = stored fewer.0 in
    let below = fewer.1 in
    omega arith
