-- What an append leaves of the owner of a journal.
use Rattle.std.proofs.Common.{◌≡◌, ◌↔◌, Bool, true, false, List, Option, Some, Result, Err, IsErrOf}
use Rattle.std.proofs.Common.{IsTrue, refl}
use Rattle.byte_formats.specs.Types.{Text}
use Rattle.disk_core.specs.declared.disk.Disk.{Ghosts}
use Rattle.journal_core.specs.Owners.{OwnerIsRefused, owner_over}
use Rattle.journal_core.specs.Words.{AppendLeaves, is_broken}
use Rattle.journal_core.specs.declared.error.AppendError.{AppendError}
use Rattle.journal_core.specs.declared.error.AppendError.TheVariants.{Broken, Failed, Full}
use Rattle.journal_core.specs.declared.journal.Journal.{Journal}

abbrev refused_with : AppendError → Result (Unit {0}) AppendError
refused_with why = Err why

-- a journal whose append answers Failed was not broken before
pub was_sound : (b : Bool) → ((b ≡ true) → refused_with Failed ≡ refused_with Broken) → b ≡ false
was_sound true is = let wrong : refused_with Failed ≡ refused_with Broken = is refl in cc
was_sound false is = refl

module _ {D S : Type 0} {g : Ghosts D} (old new : Journal D g) (body : Text)
    (records later : Option (List Text)) (s t : S) (same : t ≡ s) where
  -- What the journal refuses leaves the owner with the state that it had.
  pub refused_by : (why : AppendError) → AppendLeaves body old new (Err why)
      → (IsErrOf (refused_with why) Broken ↔ IsTrue (is_broken old))
      → OwnerIsRefused g (Some why) (owner_over old records s) (owner_over new later t)
  refused_by Failed leaves broken = record {
    cause = leaves.cause;
    state = same;
    end = leaves.end;
    was_sound = was_sound (is_broken old) broken.1;
    broken = leaves.broken;
  }
  refused_by Broken leaves broken =
      record { disk = leaves.disk; state = same; end = leaves.end; broken = leaves.broken }
  refused_by Full leaves broken =
      record { disk = leaves.disk; state = same; end = leaves.end; broken = leaves.broken }
