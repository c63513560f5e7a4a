-- Why the journal of a state machine is not read, and what a call that reads it leaves.
use Rattle.std.specs.Prelude.{◌≡◌, ◌≢◌, ℕ, Result, Ok, Err, OnOk, IfErr}
use Rattle.disk_core.specs.Times.{OnlyReads}
use Rattle.disk_core.specs.declared.disk.Disk.{Ghosts}
use Rattle.journal_core.specs.Folds.{Fold, AreRefused, IsCauseOf}
use Rattle.journal_core.specs.declared.error.OpenError.TheVariants as open_error
use Rattle.state_journal.specs.declared.error.Misfit.{Misfit}
use Rattle.state_journal.specs.declared.error.Misfit.TheVariants.{Unfit, Memory}
use Rattle.state_journal.specs.declared.error.NotBegun.{NotBegun}
use Rattle.state_journal.specs.declared.error.StateOpenError.{StateOpenError}
use Rattle.state_journal.specs.declared.error.StateOpenError.TheVariants.{BadRecord, Open}

-- a record of this number that is not taken
abbrev pub refusal_at : ℕ → Misfit → StateOpenError
refusal_at number Unfit = BadRecord number
refusal_at number Memory = Open open_error.Memory

-- What is returned where a journal isn't read: it became so, unless a record could not be taken.
abbrev pub IsLeftAt : {R : Type 0} → (R → R → Type 0) → (R → R → Type 0) → R → R
    → StateOpenError → Type 0
IsLeftAt Becomes Stops was now why =
    Stops was now × (why ≢ Open open_error.Memory → Becomes was now)

-- the answer, without what a refusal returns of the seed
abbrev pub why_of : {M R E : Type 0} → Result M (NotBegun R E) → Result M E
why_of (Ok it) = Ok it
why_of (Err e) = Err e.why

-- the cause of a refusal, over the disk before the call and after it: the bytes, or a failure; of a
-- record that can't be taken now it says nothing
abbrev pub HasStateCause : {D S : Type 0} → Ghosts D → Fold S StateOpenError → D → D
    → StateOpenError → Type 0
HasStateCause g fold old new (BadRecord k) = AreRefused fold (g.contents old) (BadRecord k)
HasStateCause g fold old new (Open why) = IsCauseOf g fold old new why

-- no failure was counted, unless it is the refusal
abbrev pub CountsNoOther : {D : Type 0} → Ghosts D → D → D → StateOpenError → Type 0
CountsNoOther g old new why = why ≢ Open open_error.Failed → g.faults new ≡ g.faults old

-- The disk was only read. A refusal has its cause, and no other failure was counted.
pub record HasReadOn {D S X : Type 0} (g : Ghosts D) (fold : Fold S StateOpenError) (old new : D)
    (result : Result X StateOpenError) : Type 0 where
  pub only_reads : OnlyReads g old new
  pub fine : OnOk result (g.faults new ≡ g.faults old)
  pub fine_err : IfErr result (CountsNoOther g old new)
  pub cause : IfErr result (HasStateCause g fold old new)
