-- What comes of a step that a mirror has a cosigner take that was opened just now.
use Rattle.std.proofs.Common.{◌≡◌, inl, inr, ℕ, Bool, false, List, [], ◌∷◌, ◌++◌, Option, None}
use Rattle.std.proofs.Common.{Some, IfSome, Ok, Err, subst, refl}
use Rattle.std.proofs.lemmas.Option.{IfSome_then}
use Rattle.byte_formats.specs.Types.{HashFunction, Text}
use Rattle.disk_core.specs.Times.{LeavesOnly}
use Rattle.disk_core.specs.declared.disk.Disk.{Ghosts}
use Rattle.journal_core.specs.Format.{RepresentsEither, end_offset}
use Rattle.journal_core.specs.Owners.{Owner, OwnerAppends}
use Rattle.journal_core.specs.declared.error.AppendError.TheVariants as append_error
use Rattle.cosigner_core.specs.Folds.{CosignerState, cosigner_of}
use Rattle.cosigner_core.specs.Openings.{FoundCosigner}
use Rattle.cosigner_core.specs.declared.error.CosignError.TheVariants.{Append}
use Rattle.mirror_cosigner.specs.Reasons.{mirror_step_text}
use Rattle.mirror_cosigner.specs.Refusals.{MirrorStepKeepsTo, of_mirror_step}
use Rattle.mirror_cosigner.specs.declared.error.MirrorStepError.{MirrorStepError}
use Rattle.mirror_cosigner.specs.declared.error.MirrorStepError.TheVariants.{Cosign, Failed}
use Rattle.mtc_command.specs.Answers.{Ending, replied, room_failed, said, tiles_name}
use Rattle.mtc_command.specs.Endings.{AddsBy}
use Rattle.mtc_command.specs.Made.{IsOpen}
use Rattle.mtc_command.specs.Steps.{Outcome}
use Rattle.mtc_command.specs.Valid.{AddsValid, WorksValidly}
use Rattle.mtc_command.specs.Works.{journaled_by}
use Rattle.mtc_command.specs.declared.answer.Said.TheVariants.{Done}
use Rattle.mtc_command.proofs.Served.{reply_so}
use Rattle.mtc_command.proofs.Works.{both_some}
use Rattle.mtc_cosigner.specs.CosignerOutcomes.{stepped_by}
use Rattle.mtc_cosigner.specs.Works.{HasWorkedOnCosigner, IsCosigner, IsReadyCosigner}
use Rattle.mtc_cosigner.specs.Works.{found_cosigner}
use Rattle.mtc_cosigner.proofs.Appended.{says as says_by, stays_valid, was_lost, was_made}
use Rattle.mtc_cosigner.proofs.Appended.{was_refused}
use Rattle.mtc_mirror_steps.specs.StepOutcomes.{mirror_step_ending, mirror_step_stopped}
use Rattle.mtc_mirror_steps.specs.StepOutcomes.{with_second}
use Rattle.mtc_mirror_steps.specs.StepWorks.{GivesOnFirst}

-- ---- a step, and a second journal that is only read

abbrev pub stepped_so : FoundCosigner → Text → Text → Option MirrorStepError → Outcome
stepped_so found body text why =
    stepped_by mirror_step_stopped mirror_step_text found body text why

pub first_of_step : (second : List Text) (found : FoundCosigner) (body text : Text)
    (why : Option MirrorStepError)
    → journaled_by (stepped_so found body text why)
    ≡ journaled_by (with_second second (stepped_so found body text why))
first_of_step second found body text None = refl
first_of_step second found body text (Some why) = refl

-- A cosigner that was opened just now, where these records were found of the second journal.
module _ {D : Type 0} (g : Ghosts D) (name : Text) (old new : Owner D CosignerState)
    (ready : IsReadyCosigner old) (body text : Text) (next : CosignerState)
    (refusal : Bool → ℕ → Option MirrorStepError) (second : List Text) where
  abbrev met : Option MirrorStepError
  met = refusal old.broken old.end

  -- what is wanted of the first journal alone
  abbrev alone : List Text → Outcome
  alone list = stepped_so (found_cosigner old.state list) body text
      (refusal false (end_offset list))

  abbrev pub its : List Text → Outcome
  its list = with_second second (alone list)

  abbrev GivesIts : Ending → Type 0
  GivesIts ending = GivesOnFirst g old.records its old.disk new.disk ending

  abbrev says : FoundCosigner → Outcome
  says = says_by g name old new ready body text next mirror_step_stopped mirror_step_text
      of_mirror_step refusal

  same_first : (list : List Text) → journaled_by (alone list) ≡ journaled_by (its list)
  same_first list = first_of_step second (found_cosigner old.state list) body text
      (refusal false (end_offset list))

  of_work : (ending : Ending) → HasWorkedOnCosigner g name says old new.disk ending
      → GivesIts ending
  of_work ending work = record {
    reply = reply_so ending _ _ (λ reply is. IfSome_then old.records is (λ list meets. meets))
        work.reply;
    adds = IfSome_then old.records work.adds (λ list adds opened.
        subst (λ did. AddsBy g ending did old.disk new.disk) (same_first list) (adds opened));
  }

  -- the record was appended
  pub step_made : met ≡ None
      → OwnerAppends {X = Unit {0}} g of_mirror_step body next old new (Ok tt)
      → GivesIts (replied (said Done text))
  step_made free made = of_work (replied (said Done text))
      (was_made g name old new ready body text next mirror_step_stopped mirror_step_text
      of_mirror_step refusal tt free made)

  -- the tiles failed before it was
  lost_by : (file : Text) (found : Option MirrorStepError) (list : List Text)
      → IsOpen g old.disk list → new.disk ≡ old.disk
      → LeavesOnly g old.disk new.disk (RepresentsEither list body)
      → ((c : Text) → g.may_leave new.disk c → RepresentsEither list body c)
      → AddsBy g (room_failed file)
      (journaled_by (stepped_so (found_cosigner old.state list) body text found))
      old.disk new.disk
  lost_by file None list opened same run after = (opened, run, after)
  lost_by file (Some why) list opened same run after = (opened, inl same)

  step_lost : (file : Text)
      → OwnerAppends {X = Unit {0}} g of_mirror_step body next old new (Err Failed)
      → GivesIts (room_failed file)
  step_lost file made = record {
    reply = tt;
    adds = both_some old.records (made.any_time ready.sound) (made.afterwards ready.sound)
        (λ list run after opened. subst (λ did. AddsBy g (room_failed file) did old.disk new.disk)
        (same_first list) (lost_by file (refusal false (end_offset list)) list opened
        made.leaves.disk run after));
  }

  -- the mirror or the cosigner refused, or a device failed
  pub step_refused : (mirror : Text) (why : MirrorStepError)
      → OwnerAppends {X = Unit {0}} g of_mirror_step body next old new (Err why)
      → MirrorStepKeepsTo {X = Unit {0}} met (Err why)
      → GivesIts (mirror_step_ending name mirror why)
  step_refused mirror Failed made is = step_lost (tiles_name mirror) made
  step_refused mirror (Cosign (Append append_error.Failed)) made is =
      of_work (room_failed name) (was_lost g name old new ready body text next mirror_step_stopped
      mirror_step_text of_mirror_step refusal (Cosign (Append append_error.Failed)) is
      made.leaves.cause made)
  step_refused mirror (Cosign (Append other)) made is = of_work _ (was_refused g name old new ready
      body text next mirror_step_stopped mirror_step_text of_mirror_step refusal
      (Cosign (Append other)) is made.leaves.disk (inr refl))
  step_refused mirror (Cosign other) made is = of_work _ (was_refused g name old new ready body text
      next mirror_step_stopped mirror_step_text of_mirror_step refusal (Cosign other) is
      made.leaves.disk (inl refl))
  step_refused mirror other made is = of_work _ (was_refused g name old new ready body text next
      mirror_step_stopped mirror_step_text of_mirror_step refusal other is made.leaves.disk
      (inl refl))

  -- the records with that of a step that isn't refused make a cosigner
  pub step_valid : (h : HashFunction) → (met ≡ None → IfSome old.records
      (λ list. cosigner_of h (list ++ body ∷ []) ≡ Ok next))
      → WorksValidly g (IsCosigner h) old.records its old.disk new.disk
  step_valid h valid = elim (stays_valid g name old new ready body text next mirror_step_stopped
      mirror_step_text of_mirror_step refusal h valid) [
        | inl only ↦ inl only
        | inr adds ↦ inr (IfSome_then old.records adds (λ list is.
            subst (AddsValid (IsCosigner h)) (same_first list) is))
      ]
