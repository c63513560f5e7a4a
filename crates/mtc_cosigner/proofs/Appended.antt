-- What comes of a call that appends a record to the journal of a cosigner that was opened just now.
use Rattle.std.proofs.Common.{◌≡◌, List, Bool, false, Option, None, Some, ◌⊎◌, inr, arith}
use Rattle.std.proofs.Common.{IfSome, IsOk, Ok, Err, inl, refl, sym, subst, ap, ◌∙◌, ℕ, ◌++◌, []}
use Rattle.std.proofs.Common.{◌∷◌}
use Rattle.std.proofs.lemmas.Option.{IfSome_then}
use Rattle.byte_formats.specs.Types.{HashFunction, Text}
use Rattle.disk_core.specs.declared.disk.Disk.{Ghosts}
use Rattle.mtc_io.specs.Counts.{Rose}
use Rattle.journal_core.specs.Format.{end_offset}
use Rattle.journal_core.specs.Owners.{Owner, OwnerAppends}
use Rattle.journal_core.specs.declared.error.AppendError.{AppendError}
use Rattle.cosigner_core.specs.Folds.{CosignerState, cosigner_of}
use Rattle.cosigner_core.specs.Openings.{FoundCosigner}
use Rattle.mtc_command.specs.Answers.{no_memory, refused, replied, room_failed, said, stopped_code}
use Rattle.mtc_command.specs.Steps.{Outcome}
use Rattle.mtc_command.specs.Valid.{AddsValid}
use Rattle.mtc_command.specs.Works.{journaled_by}
use Rattle.mtc_command.specs.declared.answer.Said.TheVariants.{Done}
use Rattle.mtc_command.specs.declared.answer.Stopped.{Stopped}
use Rattle.mtc_command.specs.declared.answer.Stopped.TheVariants.{NotAllowed}
use Rattle.mtc_command.specs.declared.answer.Stopped.TheVariants.{Beyond as OverLimit}
use Rattle.mtc_command.proofs.Works.{appended_on, failed_on, out_of_memory_on, read_on, says_so}
use Rattle.mtc_cosigner.specs.CosignerOutcomes.{stepped_by}
use Rattle.mtc_cosigner.specs.Works.{HasWorkedOnCosigner, IsCosigner, IsReadyCosigner}
use Rattle.mtc_cosigner.specs.Works.{StaysCosigner, found_cosigner}

-- the statuses of refusals by what a cosigner is
no_words : (why : Stopped) → (why ≡ NotAllowed) ⊎ (why ≡ OverLimit) → stopped_code why ≡ 1 → ⊥
no_words why kind one = elim kind [
  | inl is ↦ omega (arith, ap stopped_code is, one)
  | inr is ↦ omega (arith, ap stopped_code is, one)
]

-- A call that appends this record and has this text, by the refusal of a cosigner that no append
-- has broken and whose journal ends at this offset.
module _ {D E : Type 0} (g : Ghosts D) (name : Text) (old new : Owner D CosignerState)
    (ready : IsReadyCosigner old) (body text : Text) (next : CosignerState)
    (stopped : E → Stopped) (fault_text : E → Text) (of_journal : E → Option AppendError)
    (refusal : Bool → ℕ → Option E) where
  -- what is wanted of it
  abbrev pub says : FoundCosigner → Outcome
  says found = stepped_by stopped fault_text found body text
      (refusal false (end_offset found.records))

  abbrev pub met : Option E
  met = refusal old.broken old.end

  same_says : (found : Option E) → met ≡ found → IfSome old.records (λ list.
      stepped_by stopped fault_text (found_cosigner old.state list) body text found
      ≡ says (found_cosigner old.state list))
  same_says found is = IfSome_then old.records ready.end (λ list end.
      ap (stepped_by stopped fault_text (found_cosigner old.state list) body text) (sym is
      ∙ ap (λ broken. refusal broken old.end) ready.sound
      ∙ ap (refusal false) end))

  -- it was appended
  pub was_made : {X : Type 0} (answer : X) → met ≡ None
      → OwnerAppends {X = X} g of_journal body next old new (Ok answer)
      → HasWorkedOnCosigner g name says old new.disk (replied (said Done text))
  was_made answer free made = says_so g name old.records old.disk new.disk _ _ _
      (same_says None free) (appended_on g name old.records old.disk new.disk body text made.count
      (made.any_time ready.sound) made.kept)

  -- the device failed
  pub was_lost : {X : Type 0} (why : E) → met ≡ None → Rose (g.faults old.disk) (g.faults new.disk)
      → OwnerAppends {X = X} g of_journal body next old new (Err why)
      → HasWorkedOnCosigner g name says old new.disk (room_failed name)
  was_lost why free rose made = says_so g name old.records old.disk new.disk _ _ _
      (same_says None free) (failed_on g name old.records old.disk new.disk body text rose
      made.count (made.any_time ready.sound) (made.afterwards ready.sound))

  -- it was refused
  pub was_refused : (why : E) → met ≡ Some why → new.disk ≡ old.disk
      → (stopped why ≡ NotAllowed) ⊎ (stopped why ≡ OverLimit)
      → HasWorkedOnCosigner g name says old new.disk
      (replied (refused (stopped why) None (fault_text why)))
  was_refused why is same kind = says_so g name old.records old.disk new.disk _ _ _
      (same_says (Some why) is) (read_on g name old.records old.disk new.disk
      (refused (stopped why) None (fault_text why)) _ (inl same)
      (refl, λ one. no_words (stopped why) kind one))

  -- memory was refused before the append
  pub was_spared : new.disk ≡ old.disk → HasWorkedOnCosigner g name says old new.disk no_memory
  was_spared same = out_of_memory_on g name old.records old.disk new.disk
      (λ list. says (found_cosigner old.state list)) (inl same)

  -- the records with that of a call that isn't refused make a cosigner
  made_valid : (h : HashFunction) (list : List Text) (found : Option E)
      → (found ≡ None → cosigner_of h (list ++ body ∷ []) ≡ Ok next)
      → AddsValid (IsCosigner h) (journaled_by
      (stepped_by stopped fault_text (found_cosigner old.state list) body text found))
  made_valid h list None valid = subst IsOk (sym (valid refl)) refl
  made_valid h list (Some why) valid = tt

  each_valid : (h : HashFunction) (records : Option (List Text))
      → IfSome records (λ list. old.end ≡ end_offset list)
      → (met ≡ None → IfSome records (λ list. cosigner_of h (list ++ body ∷ []) ≡ Ok next))
      → IfSome records (λ list.
      AddsValid (IsCosigner h) (journaled_by (says (found_cosigner old.state list))))
  each_valid h None end valid = tt
  each_valid h (Some list) end valid = made_valid h list (refusal false (end_offset list))
      (λ free. valid (ap (λ broken. refusal broken old.end) ready.sound
      ∙ ap (refusal false) end ∙ free))

  pub stays_valid : (h : HashFunction)
      → (met ≡ None → IfSome old.records
      (λ list. cosigner_of h (list ++ body ∷ []) ≡ Ok next))
      → StaysCosigner g h says old new.disk
  stays_valid h valid = inr (each_valid h old.records ready.end valid)
