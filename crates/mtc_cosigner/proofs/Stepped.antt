-- What comes of a step of a cosigner that was opened just now.
use Rattle.std.proofs.Common.{◌≡◌, Bool, Option, None, inr, IfSome, Ok, Err, inl, refl, ℕ}
use Rattle.std.proofs.Common.{◌++◌, [], ◌∷◌}
use Rattle.byte_formats.specs.Types.{HashFunction, Text}
use Rattle.disk_core.specs.declared.disk.Disk.{Ghosts}
use Rattle.journal_core.specs.Owners.{Owner, OwnerAppends}
use Rattle.journal_core.specs.declared.error.AppendError.TheVariants as append_error
use Rattle.cosigner_core.specs.Folds.{CosignerState, cosigner_of}
use Rattle.cosigner_core.specs.Keyless.{of_cosigner_journal}
use Rattle.cosigner_core.specs.Openings.{FoundCosigner}
use Rattle.cosigner_core.specs.Reasons.{step_fault_text}
use Rattle.cosigner_core.specs.Refusals.{CosignKeepsTo}
use Rattle.cosigner_core.specs.declared.error.CosignError.{CosignError}
use Rattle.cosigner_core.specs.declared.error.CosignError.TheVariants.{Append}
use Rattle.mtc_command.specs.Answers.{replied, said}
use Rattle.mtc_command.specs.Steps.{Outcome}
use Rattle.mtc_command.specs.declared.answer.Said.TheVariants.{Done}
use Rattle.mtc_cosigner.specs.CosignerOutcomes.{step_ending, step_stopped}
use Rattle.mtc_cosigner.specs.Works.{HasWorkedOnCosigner, IsReadyCosigner, StaysCosigner}
use Rattle.mtc_cosigner.proofs.Appended.{says as says_by, stays_valid, was_lost}
use Rattle.mtc_cosigner.proofs.Appended.{was_made, was_refused}

module _ {D : Type 0} (g : Ghosts D) (name : Text) (old new : Owner D CosignerState)
    (ready : IsReadyCosigner old) (body text : Text) (next : CosignerState)
    (refusal : Bool → ℕ → Option CosignError) where
  abbrev pub says : FoundCosigner → Outcome
  says = says_by g name old new ready body text next step_stopped step_fault_text
      of_cosigner_journal refusal

  abbrev pub met : Option CosignError
  met = refusal old.broken old.end

  pub step_made : met ≡ None
      → OwnerAppends {X = Unit {0}} g of_cosigner_journal body next old new (Ok tt)
      → HasWorkedOnCosigner g name says old new.disk (replied (said Done text))
  step_made free made = was_made g name old new ready body text next step_stopped step_fault_text
      of_cosigner_journal refusal tt free made

  pub step_refused : (why : CosignError)
      → OwnerAppends {X = Unit {0}} g of_cosigner_journal body next old new (Err why)
      → CosignKeepsTo met (Err why)
      → HasWorkedOnCosigner g name says old new.disk (step_ending name why)
  step_refused (Append append_error.Failed) made is = was_lost g name old new ready body text next
      step_stopped step_fault_text of_cosigner_journal refusal (Append append_error.Failed) is
      made.leaves.cause made
  step_refused (Append other) made is = was_refused g name old new ready body text next
      step_stopped step_fault_text of_cosigner_journal refusal (Append other) is made.leaves.disk
      (inr refl)
  step_refused other made is = was_refused g name old new ready body text next step_stopped
      step_fault_text of_cosigner_journal refusal other is made.leaves.disk (inl refl)

  pub step_valid : (h : HashFunction)
      → (met ≡ None → IfSome old.records
      (λ list. cosigner_of h (list ++ body ∷ []) ≡ Ok next))
      → StaysCosigner g h says old new.disk
  step_valid h valid = stays_valid g name old new ready body text next step_stopped step_fault_text
      of_cosigner_journal refusal h valid
