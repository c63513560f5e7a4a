-- What a record makes of a log, and what the journal answers.
use Rattle.std.specs.Prelude.{◌≡◌, Option, Some, None, Result, Ok, Err}
use Rattle.byte_formats.specs.Types.{HashFunction, Text}
use Rattle.journal_core.specs.declared.error.AppendError.{AppendError}
use Rattle.journal_core.specs.declared.error.AppendError.TheVariants as append_error
use Rattle.issuance_log.specs.Folds.{LogState, LogView, next_log, next_view, view_in}
use Rattle.issuance_log.specs.declared.error.LogError.{LogError}
use Rattle.issuance_log.specs.declared.error.LogError.TheVariants.{Append}

-- In any log that shows this the record makes this of what the log is.
abbrev pub MakesOfLog : HashFunction → LogView → Text → (LogState → LogState) → Type 0
MakesOfLog h v body next = (s : LogState) → view_in s ≡ v → next_log h s body ≡ Some (next s)

-- It makes this of what a log shows that shows this, and this of what the log is.
pub record IsTakenAs (h : HashFunction) (v : LogView) (body : Text) (seen : LogView → LogView)
    (next : LogState → LogState) : Type 0 where
  pub shows : next_view h v body ≡ Some (seen v)
  pub makes : MakesOfLog h v body next

-- The journal answers as its refusal says, where it may fail if there is none.
abbrev pub IsJournalAnswer : Option AppendError → AppendError → Type 0
IsJournalAnswer wanted append_error.Failed = wanted ≡ None
IsJournalAnswer wanted append_error.Broken = wanted ≡ Some append_error.Broken
IsJournalAnswer wanted append_error.Full = wanted ≡ Some append_error.Full

-- And so does a call that it alone may refuse.
abbrev pub KeepsToJournal : {X : Type 0} → Option AppendError → Result X LogError → Type 0
KeepsToJournal wanted (Ok answer) = wanted ≡ None
KeepsToJournal wanted (Err why) =
    (refused : AppendError) × ((why ≡ Append refused) × IsJournalAnswer wanted refused)
