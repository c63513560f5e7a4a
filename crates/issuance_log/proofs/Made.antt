-- The machine of a log and its journal, as the log keeps them.
use Rattle.std.proofs.Common.{◌≡◌, ◌-◌, ℕ, Ok, arith, subst}
use Rattle.byte_formats.specs.Types.{Text}
use Rattle.disk_core.specs.declared.disk.Disk.{Ghosts}
use Rattle.journal_core.specs.Ends.{durable_of}
use Rattle.journal_core.specs.Folds.{state_after}
use Rattle.journal_core.specs.Words.{end_of}
use Rattle.tree_core.specs.declared.hashing.TreeHash.{Ghosts as Hashes}
use Rattle.issuance_log.specs.Durable.{IsDurableLog}
use Rattle.issuance_log.specs.Items.{AreBelow, items_leaves, items_offsets}
use Rattle.issuance_log.specs.Machine.{IsKeptWithin, machine_view}
use Rattle.issuance_log.specs.Sound.{HasSoundNumbers}
use Rattle.issuance_log.specs.Words.{view_of}
use Rattle.issuance_log.specs.declared.log.Log.{Log}
use Rattle.issuance_log.specs.declared.machine.LogMachine.{LogMachine}
use Rattle.issuance_log.proofs.ReadViews.{view_made}
use Rattle.issuance_log.proofs.Shown.{shown_view}
use Rattle.issuance_log.proofs.Views.{view_fold}

module _ {H T : Type 0} {hashes : Hashes H} {k : Ghosts T} where
  -- Over any disk, where no tiles were refused.
  pub within_of : {D : Type 0} {g : Ghosts D} (log : Log H D T hashes g k)
      → HasSoundNumbers (view_of log) → IsKeptWithin log.machine (end_of log.journal - 1)
  within_of log sound =
      let begun = log.journal.begun in
      record {
        sound = sound;
        below = subst (AreBelow (items_offsets log.machine.items)) (omega arith) log.below;
        counted = log.counted;
        stored = λ none. log.stored;
      }

  -- what is durable, as the layer above says it
  pub makes_of : (it : LogMachine H T hashes k) (end : ℕ) (b : Text)
      → IsDurableLog hashes.hash (machine_view it) (items_offsets it.items) (items_leaves it.items)
      end b → state_after (view_fold hashes.hash) (durable_of end b) ≡ Ok (machine_view it)
  makes_of it end b is =
      view_made hashes.hash (machine_view it) (durable_of end b) is.kept.made
      (shown_view (machine_view it) (durable_of end b) is.kept.all)
