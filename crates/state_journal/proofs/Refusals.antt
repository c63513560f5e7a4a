-- What calls that read a journal leave, one after another.
use Rattle.std.proofs.Common.{◌≡◌, ℕ, false, Bool, Some, None, Result, Ok, Err, IsErrAnd, OnErr, ap}
use Rattle.std.proofs.Common.{refl, sym, ◌∙◌}
use Rattle.disk_core.specs.Times.{OnlyReads}
use Rattle.disk_core.specs.declared.disk.Disk.{Ghosts}
use Rattle.disk_core.proofs.Times.{only_read_on}
use Rattle.journal_core.specs.Folds.{Fold}
use Rattle.journal_core.specs.Openings.{HasStepped, opening_disk}
use Rattle.journal_core.specs.declared.error.OpenError.{OpenError}
use Rattle.journal_core.specs.declared.opening.Opening.{Opening}
use Rattle.journal_core.proofs.FoldSteps.{cause_later, refused_later}
use Rattle.state_journal.specs.Causes.{HasReadOn, HasStateCause, IsLeftAt, refusal_at}
use Rattle.state_journal.specs.Steps.{IsLeftBy}
use Rattle.state_journal.specs.declared.error.Misfit.{Misfit}
use Rattle.state_journal.specs.declared.error.Misfit.TheVariants.{Unfit, Memory}
use Rattle.state_journal.specs.declared.error.StateOpenError.{StateOpenError}
use Rattle.state_journal.specs.declared.error.StateOpenError.TheVariants.{BadRecord, Open}

-- where a call is refused, this
pub on_err : {T E : Type 0} (r : Result T E) (P : Type 0) → P → OnErr r P
on_err (Ok x) P is = tt
on_err (Err e) P is = is

-- what a record that isn't taken leaves, by its number
pub left_at : {R : Type 0} (Becomes Stops : R → R → Type 0) (was now : R)
    → (Becomes was now → Stops was now) → (k : ℕ) (why : Misfit)
    → IsLeftBy Becomes Stops was now why → IsLeftAt Becomes Stops was now (refusal_at k why)
left_at Becomes Stops was now stops k Unfit is = (stops is, λ other. is)
left_at Becomes Stops was now stops k Memory is = (is, λ other. absurd (other refl))

module _ {D S : Type 0} (g : Ghosts D) (fold : Fold S StateOpenError) (old mid new : D)
    (only_reads : OnlyReads g old mid) (fine : g.faults mid ≡ g.faults old) where
  cause_after : (why : StateOpenError) → HasStateCause g fold mid new why
      → HasStateCause g fold old new why
  cause_after (BadRecord k) cause = refused_later g fold old mid (BadRecord k) only_reads cause
  cause_after (Open why) cause = cause_later g fold old mid new why only_reads cause

  -- a call that reads on after calls that only read and counted no failure
  pub after_ok : {X Y : Type 0} (x : X) (y : Y) → HasReadOn g fold mid new (Ok x)
      → HasReadOn g fold old new (Ok y)
  after_ok x y read = record {
    only_reads = only_read_on g old mid new only_reads read.only_reads;
    fine = read.fine ∙ fine;
    fine_err = tt;
    cause = tt;
  }

  -- and one that is refused
  pub after_err : {X Y : Type 0} (why : StateOpenError)
      → HasReadOn {X = X} g fold mid new (Err why) → HasReadOn {X = Y} g fold old new (Err why)
  after_err why read = record {
    only_reads = only_read_on g old mid new only_reads read.only_reads;
    fine = tt;
    fine_err = λ other. read.fine_err other ∙ fine;
    cause = cause_after why read.cause;
  }

module _ {D S X : Type 0} {g : Ghosts D} (fold : Fold S StateOpenError) (old new : Opening D g)
  where
    -- a step of the opening, and nothing is refused
    pub stepped : (ended : Bool) (x : X) → HasStepped old new ended None
        → HasReadOn g fold (opening_disk old) (opening_disk new) (Ok x)
    stepped ended x step =
        record { only_reads = step.only_reads; fine = step.fine tt; fine_err = tt; cause = tt }

    -- what it read is refused
    pub misread : (ended : Bool) (why : StateOpenError) → HasStepped old new ended None
        → HasStateCause g fold (opening_disk old) (opening_disk new) why
        → HasReadOn {X = X} g fold (opening_disk old) (opening_disk new) (Err why)
    misread ended why step cause = record {
      only_reads = step.only_reads;
      fine = tt;
      fine_err = λ other. step.fine tt;
      cause = cause;
    }

    -- it is refused itself
    pub stopped : (why : OpenError) → HasStepped old new false (Some why)
        → HasStateCause g fold (opening_disk old) (opening_disk new) (Open why)
        → HasReadOn {X = X} g fold (opening_disk old) (opening_disk new) (Err (Open why))
    stopped why step cause = record {
      only_reads = step.only_reads;
      fine = tt;
      fine_err = λ other. step.fine (λ is. other (ap Open is));
      cause = cause;
    }
