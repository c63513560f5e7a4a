-- A command that reads a request first.
use Rattle.std.proofs.Common.{◌≡◌, ◌≤◌, ℕ, List, [], Option, Some, Result, Ok, Err, length}
use Rattle.std.proofs.Common.{Bool, false, inl, inr, refl, sym, subst, ap, ◌∙◌, arith}
use Rattle.std.proofs.lemmas.Grind.{common_steps}
use Rattle.byte_formats.specs.Types.{HashFunction, Text}
use Rattle.disk_core.specs.declared.disk.Disk.{Ghosts as Disks}
use Rattle.journal_core.specs.declared.error.AppendError.TheVariants.{Broken}
use Rattle.mtc_room.specs.declared.room.Room.{Ghosts as Rooms}
use Rattle.cosigner_core.specs.Folds.{CosignerState}
use Rattle.cosigner_core.specs.Refusals.{advance_refusal, advance_refused}
use Rattle.cosigner_core.specs.Refusals.{cosign_refused, subtree_refusal}
use Rattle.cosigner_core.specs.Requests.{AdvanceParts, SubtreeParts}
use Rattle.cosigner_core.specs.declared.error.CosignError.TheVariants.{Append}
use Rattle.cosigner_core.specs.declared.fault.FormError.{FormError}
use Rattle.mtc_command.specs.Answers.{Ending, refused, replied}
use Rattle.mtc_command.specs.Served.{ClosesAll, HasDone}
use Rattle.mtc_command.specs.Steps.{Outcome, answers, with_bytes, with_form}
use Rattle.mtc_command.specs.declared.answer.Stopped.TheVariants.{BadForm}
use Rattle.mtc_command.proofs.Inputs.{bytes_read}
use Rattle.mtc_command.proofs.Made.{OnlyNow}
use Rattle.mtc_command.proofs.Served.{stopped}
use Rattle.cosigner_core.specs.Reasons.{form_fault_text}

module _ {F : Type 0} (read : Text → Result F FormError) (next : F → Outcome) (file : Text) where
  -- the outcome of a command that begins with a request
  abbrev pub asks : Option Text → Outcome
  asks found =
      with_bytes 16777216 file found (λ bytes. with_form form_fault_text file (read bytes) next)

  pub asked_so : (found : Option Text) (bytes : Text) (r : F) → found ≡ Some bytes
      → length bytes ≤ 16777216 → read bytes ≡ Ok r → asks found ≡ next r
  asked_so found bytes r is few form = bytes_read 16777216 file found bytes _ is few
      ∙ ap (λ x. with_form form_fault_text file x next) form

  refused_so : (found : Option Text) (bytes : Text) (why : FormError) → found ≡ Some bytes
      → length bytes ≤ 16777216 → read bytes ≡ Err why
      → asks found ≡ answers (refused BadForm (Some file) (form_fault_text why))
  refused_so found bytes why is few form = bytes_read 16777216 file found bytes _ is few
      ∙ ap (λ x. with_form form_fault_text file x next) form

  -- a file that is no request
  pub no_request : {R S D : Type 0} (rooms : Rooms R S D) (disks : Disks D)
      (files names : List Text) (old new : R) (bytes reason : Text) (why : FormError)
      (ending : Ending) → ClosesAll rooms old new [] → OnlyNow disks
      → (rooms.is_modelled old → (rooms.file old file ≡ Some bytes) × (length bytes ≤ 16777216))
      → read bytes ≡ Err why → reason ≡ form_fault_text why
      → ending ≡ replied (refused BadForm (Some file) reason)
      → HasDone rooms disks ⊥ files names [] (asks (rooms.file old file)) old new ending
  no_request rooms disks files names old new bytes reason why ending back only_now is form named
      ends = subst (HasDone rooms disks ⊥ files names [] (asks (rooms.file old file)) old new)
      (sym (ends ∙ ap (λ r. replied (refused BadForm (Some file) r)) named))
      (stopped rooms disks files names [] _ old new back only_now _ tt (
        λ e. absurd cc,
        inr (inl refl),
        λ t. refused_so (rooms.file old file) bytes why (is t).0 (is t).1 form,
      ))

-- a cosigner that no append has broken doesn't refuse a step as a broken one
pub advance_sound : (h : HashFunction) (s : CosignerState) (broken : Bool) (end : ℕ)
    (r : AdvanceParts) → broken ≡ false
    → advance_refused h s broken end r ≡ Some (Append Broken) → ⊥
unfolding advance_refusal
advance_sound h s broken end r sound is = grind (arith, common_steps, sound, is)

pub cosign_sound : (h : HashFunction) (s : CosignerState) (broken : Bool) (end : ℕ)
    (r : SubtreeParts) → broken ≡ false
    → cosign_refused h s broken end r ≡ Some (Append Broken) → ⊥
unfolding subtree_refusal
cosign_sound h s broken end r sound is = grind (arith, common_steps, sound, is)
