-- What a command has to answer over any files, computed from its plan: all its files are read, in
-- their order; then their forms are tested; then the journals are opened or made, in their order,
-- each with the file beside it; and then comes the work.
use Rattle.std.specs.Prelude.{List, [], ◌∷◌, Option, Some, None}
use Rattle.std.proofs.Common.{inl, inr, refl}
use Rattle.byte_formats.specs.Types.{Text}
use Rattle.journal_core.specs.Folds.{read_by}
use Rattle.mtc_command.specs.Answers.{said, refused}
use Rattle.mtc_command.specs.Made.{Journaled, reads, appended, started}
use Rattle.mtc_command.specs.Steps.{Files, Outcome, held_in, stops_at, with_bytes, with_file}
use Rattle.mtc_command.specs.Steps.{with_form, with_fresh}
use Rattle.mtc_command.specs.Wanted.{Wanted, exactly, formed, pair_of}
use Rattle.mtc_command.specs.declared.answer.Stopped.TheVariants.{BadForm, Beyond, NotAllowed}
use Rattle.command_plans.specs.Kinds.{Kinds}
use Rattle.command_plans.specs.Plans.{Input, IsInputOf, ReadEach, Journal}
use Rattle.command_plans.specs.Plans.{opens, makes, Finds, Deeds, Judged, prints, prints_formed}
use Rattle.command_plans.specs.Plans.{prints_pair, forbids, exceeds, Deed, Step, misreads, works}
use Rattle.command_plans.specs.Plans.{Plan}

-- ---- the files are read

-- These files, which are among the inputs, are read, and then comes the rest of the command.
abbrev pub read_from : (inputs rest : List Input)
    → ((input : Input) → IsInputOf rest input → IsInputOf inputs input) → Files
    → (Files → ReadEach inputs rest → Outcome) → Outcome
read_from inputs [] among files next = next files tt
read_from inputs (input ∷ rest) among files next =
    with_bytes input.limit input.name (files input.name) (λ text.
    read_from inputs rest (λ other is. among other (inr is)) files (λ later read.
    next later (record { file = input; text = text; is_input = among input (inl refl) }, read)))

-- ---- the journals are opened and made

-- A file beside a journal has what it needs, or the command is refused for this reason.
abbrev pub unless_lacking : Text → Option Text → Outcome → Outcome
unless_lacking file None next = next
unless_lacking file (Some reason) next = stops_at BadForm file reason

-- This holds of the file beside this journal, if there is one. It is made empty where it isn't
-- there.
abbrev pub with_beside : (k : Kinds) (kind : k.Kind) → k.State kind → Option Text → Files
    → Outcome → Outcome
with_beside k kind state None files next = next
with_beside k kind state (Some file) files next =
    unless_lacking file (k.lacks kind state (held_in (files file))) next

module _ {k : Kinds} where
  -- The journals are opened or made, in their order, and then comes the rest of the command.
  abbrev pub open_from : (journals : List (Journal k)) → Files → (Finds journals → Outcome)
      → Outcome
  open_from [] files next = next tt
  open_from (opens kind beside name ∷ rest) files next =
      with_file name (files name) (λ bytes.
      with_form (k.fault_text kind) name (read_by (k.fold kind) bytes) (λ found.
      with_beside k kind found.state (k.beside kind name) files
      (open_from rest files (λ founds. next (found, founds)))))
  open_from (makes kind name ∷ rest) files next =
      with_fresh name (files name) (open_from rest files next)

-- ---- the work

-- The replies that a judgement wants.
abbrev pub wanted_of : Judged → Wanted
wanted_of (prints status text) = exactly (said status text)
wanted_of (prints_formed status form) = formed status form
wanted_of (prints_pair status h encoded firsts seconds) = pair_of status h encoded firsts seconds
wanted_of (forbids reason) = exactly (refused NotAllowed None reason)
wanted_of (exceeds reason) = exactly (refused Beyond None reason)

-- An open journal with these records has one more, or none.
abbrev pub opened_did : List Text → Option Text → Journaled
opened_did list None = reads list
opened_did list (Some body) = appended list body

module _ {k : Kinds} where
  -- What the work leaves of each journal: one that was opened has its records, and maybe one more;
  -- one that was made has its first record.
  abbrev pub journals_did : (journals : List (Journal k)) → Finds journals → Deeds journals
      → List Journaled
  journals_did [] founds does = []
  journals_did (opens kind beside name ∷ rest) founds does =
      opened_did founds.0.records does.0 ∷ journals_did rest founds.1 does.1
  journals_did (makes kind name ∷ rest) founds does =
      started does.0 ∷ journals_did rest founds does.1

  -- The outcome of the work: its answer, and what it leaves of each journal.
  abbrev pub deed_outcome : (journals : List (Journal k)) → Finds journals → Deed journals
      → Outcome
  deed_outcome journals founds deed = record {
    answer = wanted_of deed.answer;
    journals = journals_did journals founds deed.does;
  }

  -- ---- the whole command

  -- After the reading: a file that is not in its form stops the command, or else its work is done.
  abbrev pub step_outcome : {inputs : List Input} (journals : List (Journal k))
      → Step inputs journals → Files → Outcome
  step_outcome journals (misreads read reason) files = stops_at BadForm read.file.name reason
  step_outcome journals (works say) files =
      open_from journals files (λ founds. deed_outcome journals founds (say founds))

  -- The outcome that a plan has over these files.
  abbrev pub outcome_of : Plan k → Files → Outcome
  outcome_of plan files = read_from plan.inputs plan.inputs (λ input is. is) files (λ later read.
      step_outcome plan.journals (plan.steps read) later)
