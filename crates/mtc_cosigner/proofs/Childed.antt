-- What comes of a further lower tree of a cosigner that was opened just now.
use Rattle.std.proofs.Common.{◌≡◌, Bool, false, Option, None, Some, inr, IfSome, Ok, Err, inl, refl}
use Rattle.std.proofs.Common.{ℕ, ◌++◌, [], ◌∷◌, arith}
use Rattle.std.proofs.lemmas.Grind.{common_steps}
use Rattle.byte_formats.specs.Types.{HashFunction, Text}
use Rattle.disk_core.specs.declared.disk.Disk.{Ghosts}
use Rattle.journal_core.specs.Owners.{Owner, OwnerAppends}
use Rattle.journal_core.specs.declared.error.AppendError.TheVariants as append_error
use Rattle.lms_core.specs.declared.heights.LmsType.{LmsType}
use Rattle.cosigner_core.specs.Children.{ChildKeepsTo, child_refusal, child_refusal_with}
use Rattle.cosigner_core.specs.Children.{child_refused, next_child, of_child_journal}
use Rattle.cosigner_core.specs.Folds.{CosignerState, cosigner_of, having_child}
use Rattle.cosigner_core.specs.Reasons.{child_fault_text}
use Rattle.cosigner_core.specs.Refusals.{append_refusal_as, earlier}
use Rattle.cosigner_core.specs.declared.error.ChildError.{ChildError}
use Rattle.cosigner_core.specs.declared.error.ChildError.TheVariants.{Append, Memory}
use Rattle.mtc_command.specs.Answers.{replied, said}
use Rattle.mtc_command.specs.declared.answer.Said.TheVariants.{Done}
use Rattle.mtc_cosigner.specs.CosignerOutcomes.{child_ending, child_line, child_says}
use Rattle.mtc_cosigner.specs.CosignerOutcomes.{child_stopped}
use Rattle.mtc_cosigner.specs.Works.{HasWorkedOnCosigner, IsReadyCosigner, StaysCosigner}
use Rattle.mtc_cosigner.proofs.Appended.{stays_valid, was_lost, was_made, was_refused, was_spared}

-- by the height of the lower trees
sound_by : (low : Option LmsType) (s : CosignerState) (broken : Bool) (end : ℕ) → broken ≡ false
    → earlier (child_refusal_with low s) (append_refusal_as Append broken end (next_child s))
    ≡ Some (Append append_error.Broken) → ⊥
sound_by None s broken end sound is = absurd cc
sound_by (Some low) s broken end sound is = grind (arith, common_steps, sound, is)

-- a cosigner that no append has broken doesn't refuse a further lower tree as a broken one
pub child_sound : (s : CosignerState) (broken : Bool) (end : ℕ) → broken ≡ false
    → child_refused s broken end ≡ Some (Append append_error.Broken) → ⊥
unfolding child_refusal
child_sound s broken end sound is = sound_by s.key.key.low s broken end sound is

module _ {D : Type 0} (g : Ghosts D) (name : Text) (old new : Owner D CosignerState)
    (ready : IsReadyCosigner old) where
  abbrev body : Text
  body = next_child old.state

  abbrev text : Text
  text = child_line old.state.key.children

  abbrev refusal : Bool → ℕ → Option ChildError
  refusal = child_refused old.state

  pub child_made : (number : ℕ)
      → OwnerAppends g of_child_journal body (having_child old.state) old new (Ok number)
      → ChildKeepsTo old.state old.broken old.end (Ok number)
      → HasWorkedOnCosigner g name child_says old new.disk (replied (said Done text))
  child_made number made is = was_made g name old new ready body text (having_child old.state)
      child_stopped child_fault_text of_child_journal refusal number is made

  pub child_not_made : (why : ChildError)
      → OwnerAppends {X = ℕ} g of_child_journal body (having_child old.state) old new (Err why)
      → ChildKeepsTo old.state old.broken old.end (Err why)
      → HasWorkedOnCosigner g name child_says old new.disk (child_ending name why)
  child_not_made (Append append_error.Failed) made is = was_lost g name old new ready body text
      (having_child old.state) child_stopped child_fault_text of_child_journal refusal
      (Append append_error.Failed) is made.leaves.cause made
  child_not_made (Append append_error.Broken) made is = was_refused g name old new ready body text
      (having_child old.state) child_stopped child_fault_text of_child_journal refusal
      (Append append_error.Broken) is made.leaves.disk (inr refl)
  child_not_made (Append append_error.Full) made is = was_refused g name old new ready body text
      (having_child old.state) child_stopped child_fault_text of_child_journal refusal
      (Append append_error.Full) is made.leaves.disk (inr refl)
  child_not_made Memory made is = was_spared g name old new ready body text
      (having_child old.state) child_stopped child_fault_text of_child_journal refusal
      made.leaves.disk
  child_not_made other made is = was_refused g name old new ready body text
      (having_child old.state) child_stopped child_fault_text of_child_journal refusal other is
      made.leaves.disk (inl refl)

  pub child_valid : (h : HashFunction)
      → (refusal old.broken old.end ≡ None → IfSome old.records
      (λ list. cosigner_of h (list ++ body ∷ []) ≡ Ok (having_child old.state)))
      → StaysCosigner g h child_says old new.disk
  child_valid h valid = stays_valid g name old new ready body text (having_child old.state)
      child_stopped child_fault_text of_child_journal refusal h valid
