-- The kinds of parties that have a file of tiles beside their journal.
use Rattle.std.specs.Prelude.{◌≡◌, List, Some, Err, IsOk}
use Rattle.byte_formats.specs.Types.{Text}
use Rattle.journal_core.specs.Folds.{Fold, read_by, state_after}
use Rattle.journal_core.specs.Reasons.{open_fault_text}
use Rattle.journal_core.specs.declared.error.OpenError.{OpenError}
use Rattle.mtc_command.specs.Answers.{refused}
use Rattle.mtc_command.specs.Steps.{Outcome, answers}
use Rattle.mtc_command.specs.declared.answer.Stopped.TheVariants.{BadForm}

-- How the records of a journal make such a party, why a file is none, in words, and which bytes of
-- the file of the tiles go with which records. A file that is no journal is refused in the words of
-- the journal.
pub record TiledParty (State Fault : Type 0) : Type 1 where
  pub fold : Fold State Fault
  pub fault_text : Fault → Text
  pub goes : List Text → Text → Type 0
  pub journal_words : (why : OpenError) → fault_text (fold.not_read why) ≡ open_fault_text why

module _ {State Fault : Type 0} (party : TiledParty State Fault) where
  -- The records make such a party.
  abbrev pub IsTiledParty : List Text → Type 0
  IsTiledParty list = IsOk (state_after party.fold list)

  -- A command that has this outcome over the bytes of both files refuses a journal of this name
  -- that isn't read as such a party's, by its first fault.
  abbrev pub RefusesNoParty : Text → (Text → Text → Outcome) → Type 0
  RefusesNoParty name says = (bytes held : Text) (why : Fault) → read_by party.fold bytes ≡ Err why
      → says bytes held ≡ answers (refused BadForm (Some name) (party.fault_text why))
