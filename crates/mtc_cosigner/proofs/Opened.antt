-- A cosigner that is opened on a device.
use Rattle.std.proofs.Common.{◌≡◌, List, Option, IfSome, Ok, Err, Some, inl, inr}
use Rattle.std.proofs.Common.{refl, ap}
use Rattle.std.proofs.lemmas.Option.{IfSome_then}
use Rattle.byte_formats.specs.Types.{HashFunction, Text}
use Rattle.disk_core.specs.Times.{OnlyReads}
use Rattle.disk_core.specs.declared.disk.Disk.{Ghosts}
use Rattle.journal_core.specs.Format.{Represents}
use Rattle.journal_core.specs.Words.{AllRepresent}
use Rattle.journal_core.specs.declared.error.OpenError.TheVariants as open_error
use Rattle.cosigner_core.specs.Folds.{CosignerState}
use Rattle.cosigner_core.specs.Openings.{FoundCosigner, HasCosignerCause, cosigner_read}
use Rattle.state_journal.specs.declared.error.StateOpenError.{StateOpenError}
use Rattle.state_journal.specs.declared.error.StateOpenError.TheVariants.{Open}
use Rattle.mtc_command.specs.Answers.{no_memory, refused, replied, room_failed}
use Rattle.mtc_command.specs.Steps.{Outcome, with_form}
use Rattle.mtc_command.specs.Works.{HasWorkedOn}
use Rattle.mtc_command.specs.declared.answer.Stopped.TheVariants.{BadForm}
use Rattle.mtc_command.proofs.Works.{not_opened}
use Rattle.mtc_cosigner.specs.Works.{cosigner_bytes_say, found_cosigner, cosigner_open_ending}
use Rattle.state_journal.specs.Reasons.{state_open_text}

-- What is known after an opening that found these records: the outcome of the bytes is that of the
-- records, and the device and each crash state of it represent them.
pub record IsFound {D : Type 0} (g : Ghosts D) (says : Text → Outcome) (next : List Text → Outcome)
    (old new : D) (records : Option (List Text)) : Type 0 where
  pub contents : IfSome (g.contents old) (λ b. IfSome records (λ list. says b ≡ next list))
  pub stands : IfSome (g.contents new) (λ b. IfSome records (Represents b))
  pub all : IfSome records (AllRepresent g new)

module _ (h : HashFunction) (name : Text) (says : FoundCosigner → Outcome) where
  -- the outcome of the bytes is that of the cosigner that was found
  pub found_says : (contents : Option Text) (list : Option (List Text)) (state : CosignerState)
      → IfSome contents (λ b. IfSome list (λ l. cosigner_read h b ≡ Ok (found_cosigner state l)))
      → IfSome contents (λ b. IfSome list (λ l.
      cosigner_bytes_say h name says b ≡ says (found_cosigner state l)))
  found_says contents list state found = IfSome_then contents found (λ b read. IfSome_then list read
      (λ l is. ap (λ r. with_form state_open_text name r says) is))

  module _ {D : Type 0} (g : Ghosts D) (old new : D) (only_reads : OnlyReads g old new) where
    -- a file that is no cosigner's
    no_cosigner : (why : StateOpenError)
        → IfSome (g.contents old) (λ b. cosigner_read h b ≡ Err why)
        → HasWorkedOn g name (cosigner_bytes_say h name says) old new
        (replied (refused BadForm (Some name) (state_open_text why)))
    no_cosigner why is = not_opened g name (cosigner_bytes_say h name says) old new only_reads
        (replied (refused BadForm (Some name) (state_open_text why)))
        (record { plain = λ e. absurd cc; later = only_reads.faults; fault = tt }) (inr (inl refl))
        (IfSome_then (g.contents old) is
        (λ b read. ap (λ r. with_form state_open_text name r says) read))

    -- a cosigner that wasn't opened
    pub refused_says : (why : StateOpenError) → HasCosignerCause g h old new why
        → HasWorkedOn g name (cosigner_bytes_say h name says) old new
        (cosigner_open_ending name why)
    refused_says (Open open_error.Failed) is = not_opened g name
        (cosigner_bytes_say h name says) old new
        only_reads (room_failed name)
        (record { plain = tt; later = only_reads.faults; fault = (is, inl refl) }) tt tt
    refused_says (Open open_error.Memory) is = not_opened g name
        (cosigner_bytes_say h name says) old new
        only_reads no_memory (record { plain = tt; later = only_reads.faults; fault = tt }) tt tt
    refused_says why is = no_cosigner why is
