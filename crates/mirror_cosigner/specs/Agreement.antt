-- What a mirror and a cosigner that gets its steps from it have in common, by the records of both.
use Rattle.std.specs.Prelude.{◌≡◌, ◌⊎◌, ℕ, false, List, [], ◌∷◌, ◌++◌, drop, Some, None, IfSome, Ok}
use Rattle.std.specs.List.{AllByRecursion}
use Rattle.byte_formats.specs.Types.{HashFunction, Text}
use Rattle.cosigner_core.specs.Folds.{CosignerState, cosigner_of}
use Rattle.cosigner_core.specs.Progress.{steps_in}
use Rattle.cosigner_core.specs.Records.{advance_record, sign_record, step_in}
use Rattle.cosigner_core.specs.declared.step.Step.{Step}
use Rattle.cosigner_core.specs.declared.step.Step.TheVariants.{Advance, Child, Sign}
use Rattle.cosigner_steps.specs.Steps.{HasPrefix}
use Rattle.disk_core.specs.declared.disk.Disk.{Ghosts}
use Rattle.journal_core.specs.Format.{Represents, end_offset}
use Rattle.journal_core.specs.Owners.{Owner}
use Rattle.lms_core.specs.declared.heights.LmsType.{LmsType}
use Rattle.mirror_core.specs.Folds.{MirrorState, entries_in_mirror, mirror_of}
use Rattle.tree_core.specs.Path.{part_of}
use Rattle.tree_core.specs.Tree.{tree_hash}
use Rattle.mirror_cosigner.specs.Refusals.{mirror_advance_refusal, mirror_cosign_refusal}
use Rattle.mirror_cosigner.specs.Requests.{advance_by_mirror, subtree_by_mirror}

-- A step of a cosigner is of these entries: an Advance is to the tree hash of as many of the first
-- ones, and a Sign has the tree hash of those in its interval.
abbrev pub IsStepOf : HashFunction → List Text → Step → Type 0
IsStepOf h entries (Advance size root proof) =
    HasPrefix h entries (record { size = size; root = root })
IsStepOf h entries (Sign index start end hash proof) =
    tree_hash h (part_of entries start end) ≡ hash
IsStepOf h entries (Child child low) = Unit {0}

-- The records of a mirror and those of a cosigner agree: they are those of a mirror and of a
-- cosigner of one log, and each step of the cosigner is of the mirror's entries.
pub record Agrees (h : HashFunction) (mirror cosigner : List Text) : Type 0 where
  pub state : MirrorState
  pub is_mirror : mirror_of h mirror ≡ Ok state
  pub signer : CosignerState
  pub is_cosigner : cosigner_of h cosigner ≡ Ok signer
  pub one_log : state.log ≡ signer.log
  pub steps : List Step
  pub are : steps_in (drop 1 cosigner) ≡ Some steps
  pub each : AllByRecursion (IsStepOf h (entries_in_mirror state)) steps

-- Each list of records that one of these bytes of a mirror's journal represent agrees with each
-- list that one of those of a cosigner's represent.
abbrev pub AllAgree : HashFunction → (Text → Type 0) → (Text → Type 0) → Type 0
AllAgree h mirrors cosigners = (c d : Text) → mirrors c → cosigners d → (m s : List Text)
    → Represents c m → Represents d s → Agrees h m s

-- The record of the Advance that a mirror has a cosigner append, to the first of its items, if
-- nothing is refused.
pub record IsAskedAdvance (h : HashFunction) (s : MirrorState) (signer : CosignerState) (end : ℕ)
    (body : Text) : Type 0 where
  pub size : ℕ
  pub allowed : mirror_advance_refusal h s signer false end size ≡ None
  pub is : let r = advance_by_mirror h s signer.held size in
      body ≡ advance_record r.size r.root r.proof

-- The record of the Sign, of a subtree of its items.
pub record IsAskedSign (h : HashFunction) (s : MirrorState) (signer : CosignerState) (end : ℕ)
    (body : Text) : Type 0 where
  pub start : ℕ
  pub stop : ℕ
  pub allowed : mirror_cosign_refusal h s signer false end start stop ≡ None
  pub is : let r = subtree_by_mirror h s signer.held start stop in
      body ≡ sign_record signer.key.next r.start r.end r.hash r.proof

-- The record is one that a mirror with these records has a cosigner with those append.
pub record IsAskedStep (h : HashFunction) (mirror cosigner : List Text) (body : Text) : Type 0 where
  pub state : MirrorState
  pub is_mirror : mirror_of h mirror ≡ Ok state
  pub signer : CosignerState
  pub is_cosigner : cosigner_of h cosigner ≡ Ok signer
  pub asked : IsAskedAdvance h state signer (end_offset cosigner) body
      ⊎ IsAskedSign h state signer (end_offset cosigner) body

-- The record is a Child.
pub record IsChildRecord (body : Text) : Type 0 where
  pub number : ℕ
  pub low : LmsType
  pub said : step_in body ≡ Some (Child number low)

-- Each of these bytes represents these records, or these and one more.
abbrev pub RepresentOrOneMore : List Text → (Text → Type 0) → Type 0
RepresentOrOneMore list crash_states = (c : Text) → crash_states c
    → Represents c list ⊎ ((body : Text) × Represents c (list ++ body ∷ []))

-- A call keeps the agreement of a mirror with these records and of a cosigner: if each crash state
-- of the mirror's journal represents its records, or these and one more, and those of both journals
-- agree before the call, all that a crash may leave of both at any time since then agrees.
abbrev pub LeavesAllAgreed : {D C : Type 0} → Ghosts D → Ghosts C → HashFunction → List Text → D → D
    → Owner C CosignerState → Owner C CosignerState → Type 0
LeavesAllAgreed j g h shown before after old new = IfSome old.records (λ list.
    RepresentOrOneMore shown (j.may_leave before)
    → AllAgree h (j.may_leave before) (g.may_leave old.disk)
    → AllAgree h (j.left_since after (j.clock_at before))
    (g.left_since new.disk (g.clock_at old.disk)))
