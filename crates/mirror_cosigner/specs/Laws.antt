-- What holds of a mirror and a cosigner whose records agree, for a hash function h.
use Rattle.std.specs.Prelude.{◌≡◌, ℕ, List, [], ◌∷◌, ◌++◌, length, drop, Some, None, Ok, IsOk}
use Rattle.std.specs.List.{AllByRecursion}
use Rattle.byte_formats.specs.Types.{HashFunction, Text}
use Rattle.cosigner_core.specs.Folds.{CosignerState, cosigner_of}
use Rattle.cosigner_core.specs.Progress.{steps_in}
use Rattle.cosigner_core.specs.declared.lists.Export.{Export}
use Rattle.cosigner_steps.specs.Steps.{HasPrefix, IsOfList, IsWithin, held_by}
use Rattle.mirror_core.specs.Folds.{MirrorState, entries_in_mirror, mirror_of}
use Rattle.policy_core.specs.declared.answer.By.TheVariants.{Cosigners}
use Rattle.world_core.specs.Audit.{AuditCase, foreign_of}
use Rattle.mirror_cosigner.specs.Agreement.{Agrees, IsAskedStep, IsChildRecord}
use Rattle.mirror_cosigner.specs.Refusals.{held_refusal}
use Rattle.mirror_cosigner.specs.Requests.{own_root}

-- A fresh mirror and a fresh cosigner of one log agree.
abbrev pub AgreementBegins : HashFunction → Type 0
AgreementBegins h = (mirror cosigner : Text) (s : MirrorState) (signer : CosignerState)
    → mirror_of h (mirror ∷ []) ≡ Ok s → cosigner_of h (cosigner ∷ []) ≡ Ok signer
    → s.log ≡ signer.log → Agrees h (mirror ∷ []) (cosigner ∷ [])

-- Records that agree do so with one more: one that the mirror's rules allow, and one that the
-- cosigner's rules allow and the mirror has it append, or that is a Child.
pub record AgreementGrows (h : HashFunction) : Type 0 where
  pub more : (m list : List Text) (body : Text) → IsOk (mirror_of h (m ++ body ∷ []))
      → Agrees h m list → Agrees h (m ++ body ∷ []) list
  pub asked : (m list : List Text) (body : Text) → IsAskedStep h m list body
      → IsOk (cosigner_of h (list ++ body ∷ [])) → Agrees h m list
      → Agrees h m (list ++ body ∷ [])
  pub child : (m list : List Text) (body : Text) → IsChildRecord body
      → IsOk (cosigner_of h (list ++ body ∷ [])) → Agrees h m list
      → Agrees h m (list ++ body ∷ [])

-- What agrees is of one list: the entries of the mirror begin with what the cosigner holds, which
-- is what its steps lead to, and each Sign lies within them and has the hash of its entries.
abbrev pub AgreeingListsAreOne : HashFunction → Type 0
AgreeingListsAreOne h = (m list : List Text) (agrees : Agrees h m list)
    → let entries = entries_in_mirror agrees.state in
    HasPrefix h entries agrees.signer.held
    × (held_by h agrees.steps ≡ agrees.signer.held)
    × AllByRecursion (IsOfList h entries) agrees.steps
    × AllByRecursion (IsWithin (length entries)) agrees.steps

-- A mirror never refuses what a cosigner holds whose records agree with its own.
abbrev pub AgreeingHeldIsMine : HashFunction → Type 0
AgreeingHeldIsMine h = (m list : List Text) (agrees : Agrees h m list)
    → held_refusal (length agrees.state.items) (own_root h agrees.state agrees.signer.held)
    agrees.signer.held ≡ None

-- An audit of the mirror's entries with an export that has the cosigner's steps never finds the
-- list to be another one, for what was accepted by cosigners.
abbrev pub AgreeingAreNeverForeign : HashFunction → Type 0
AgreeingAreNeverForeign h = (m list : List Text) (x : AuditCase) (e : Export) (set : ℕ)
    → (agrees : Agrees h m list) → x.items.entries ≡ entries_in_mirror agrees.state
    → x.kept ≡ Some e → steps_in (drop 1 list) ≡ Some e.steps
    → x.accepted.by ≡ Cosigners set → foreign_of h x ≡ None
