-- What a file is that is opened as a cosigner's, and what a command has to reply over it.
use Rattle.std.specs.Prelude.{◌≡◌, false, List, Option, Some, IfSome, IsOk}
use Rattle.byte_formats.specs.Types.{HashFunction, Text}
use Rattle.disk_core.specs.declared.disk.Disk.{Ghosts}
use Rattle.journal_core.specs.Format.{end_offset}
use Rattle.journal_core.specs.Owners.{Owner}
use Rattle.journal_core.specs.declared.error.OpenError.TheVariants as open_error
use Rattle.cosigner_core.specs.Folds.{CosignerState, cosigner_of}
use Rattle.cosigner_core.specs.Openings.{FoundCosigner, cosigner_read}
use Rattle.cosigner_core.specs.Reading.{advance_in, subtree_in}
use Rattle.cosigner_core.specs.Views.{advance_parts, subtree_parts}
use Rattle.state_journal.specs.declared.error.StateOpenError.{StateOpenError}
use Rattle.state_journal.specs.declared.error.StateOpenError.TheVariants.{Open}
use Rattle.mtc_command.specs.Answers.{Ending, replied, room_failed, no_memory, refused}
use Rattle.mtc_command.specs.Steps.{Outcome, Files, with_bytes, with_file, with_form}
use Rattle.mtc_command.specs.Valid.{WorksValidly}
use Rattle.mtc_command.specs.Works.{HasWorked as HasWorkedWith}
use Rattle.mtc_command.specs.declared.answer.Stopped.TheVariants.{BadForm}
use Rattle.mtc_cosigner.specs.CosignerOutcomes.{advance_says, child_says, cosign_says}
use Rattle.mtc_cosigner.specs.CosignerOutcomes.{export_says}
use Rattle.cosigner_core.specs.Reasons.{form_fault_text}
use Rattle.state_journal.specs.Reasons.{state_open_text}
use Rattle.mtc_cosigner.specs.declared.work.Work.{Work}
use Rattle.mtc_cosigner.specs.declared.work.Work.TheVariants.{Advance, Child, Cosign}

-- What comes of it: the line says that the file is none, unless the device failed or memory was
-- refused.
abbrev pub cosigner_open_ending : Text → StateOpenError → Ending
cosigner_open_ending file (Open open_error.Failed) = room_failed file
cosigner_open_ending file (Open open_error.Memory) = no_memory
cosigner_open_ending file why = replied (refused BadForm (Some file) (state_open_text why))

-- A cosigner was found, with the records of its journal.
abbrev pub found_cosigner : CosignerState → List Text → FoundCosigner
found_cosigner state list = record { records = list; state = state }

-- What a command has to reply over a cosigner that was found.
unfoldable pub cosigner_says : HashFunction → Work → FoundCosigner → Outcome
cosigner_says h (Advance request) found = advance_says h (advance_parts request) found
cosigner_says h Child found = child_says found
cosigner_says h (Cosign request) found = cosign_says h (subtree_parts request) found

-- The outcome of a command on the cosigner of a journal with these bytes.
abbrev pub cosigner_bytes_say : HashFunction → Text → (FoundCosigner → Outcome) → Text → Outcome
cosigner_bytes_say h journal says bytes = with_form state_open_text journal
    (cosigner_read h bytes) says

-- The same over the file of its name, which may not be there.
abbrev pub cosigner_outcome : HashFunction → Text → Option Text → (FoundCosigner → Outcome)
    → Outcome
cosigner_outcome h journal file says = with_file journal file (cosigner_bytes_say h journal says)

-- The outcomes of `advance S REQUEST` and `cosign S REQUEST`: the request first, then the journal.
unfoldable pub advance_outcome : HashFunction → Text → Text → Files → Outcome
advance_outcome h journal request files = with_bytes 16777216 request (files request)
    (λ bytes. with_form form_fault_text request (advance_in bytes)
    (λ r. cosigner_outcome h journal (files journal) (advance_says h r)))

unfoldable pub cosign_outcome : HashFunction → Text → Text → Files → Outcome
cosign_outcome h journal request files = with_bytes 16777216 request (files request)
    (λ bytes. with_form form_fault_text request (subtree_in bytes)
    (λ r. cosigner_outcome h journal (files journal) (cosign_says h r)))

-- The outcome of `child S`.
unfoldable pub child_outcome : HashFunction → Text → Files → Outcome
child_outcome h journal files = cosigner_outcome h journal (files journal) child_says

-- The outcome of `export S`.
unfoldable pub export_outcome : HashFunction → Text → Files → Outcome
export_outcome h journal files = cosigner_outcome h journal (files journal) export_says

-- The records of a journal make a cosigner.
abbrev pub IsCosigner : HashFunction → List Text → Type 0
IsCosigner h list = IsOk (cosigner_of h list)

-- A cosigner that was opened just now.
pub record IsReadyCosigner {D : Type 0} (it : Owner D CosignerState) : Type 0 where
  pub sound : it.broken ≡ false
  pub end : IfSome it.records (λ list. it.end ≡ end_offset list)

module _ {D : Type 0} (g : Ghosts D) where
  -- The work on this cosigner of the journal, which has to give that outcome.
  abbrev pub HasWorkedOnCosigner : Text → (FoundCosigner → Outcome) → Owner D CosignerState → D
      → Ending → Type 0
  HasWorkedOnCosigner name says it new ending = HasWorkedWith g name it.records
      (λ list. says (found_cosigner it.state list)) it.disk new ending

  -- And by which its records make a cosigner again.
  abbrev pub StaysCosigner : HashFunction → (FoundCosigner → Outcome) → Owner D CosignerState → D
      → Type 0
  StaysCosigner h says it new = WorksValidly g (IsCosigner h) it.records
      (λ list. says (found_cosigner it.state list)) it.disk new
