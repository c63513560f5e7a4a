-- What holds of Signs in conflict, for a hash function h.
use Rattle.std.specs.Prelude.{◌≡◌, ◌≢◌, ℕ, ◌<◌, List, Some, None, slice_get}
use Rattle.std.specs.List.{AllByRecursion}
use Rattle.byte_formats.specs.Types.{Hash, HashFunction}
use Rattle.collide.specs.Extraction.{HasCollision}
use Rattle.cosigner_core.specs.declared.step.Step.{Step}
use Rattle.cosigner_core.specs.declared.step.Step.TheVariants.{Advance, Child, Sign}
use Rattle.cosigner_steps.specs.Laws.{HasHashes}
use Rattle.cosigner_steps.specs.Steps.{AreSteps, proof_inputs}
use Rattle.quarrel_core.specs.Conflicts.{conflict_in}

-- Both steps are Signs of one interval, with different hashes.
abbrev pub AreInConflict : Step → Step → Type 0
AreInConflict (Sign index start end hash proof) (Sign number from to node shown) =
    (start ≡ from) × (end ≡ to) × (hash ≢ node)
AreInConflict (Sign index start end hash proof) (Advance size root shown) = ⊥
AreInConflict (Sign index start end hash proof) (Child child low) = ⊥
AreInConflict (Advance size root proof) step = ⊥
AreInConflict (Child child low) step = ⊥

-- The steps at these indices are in conflict.
pub record ConflictAt (steps : List Step) (i j : ℕ) : Type 0 where
  pub one : Step
  pub other : Step
  pub first : slice_get steps i ≡ Some one
  pub second : slice_get steps j ≡ Some other
  pub conflict : AreInConflict one other

-- These indices are in conflict, the first before the second, none before the second is in conflict
-- with an earlier one, and none before the first with the second.
pub record IsFirstConflict (steps : List Step) (i j : ℕ) : Type 0 where
  pub order : i < j
  pub conflict : ConflictAt steps i j
  pub none_before : (a b : ℕ) → a < b → b < j → ConflictAt steps a b → ⊥
  pub none_earlier : (a : ℕ) → a < i → ConflictAt steps a j → ⊥

-- The indices that are found are the first in conflict, and where none are found there are none.
pub record ConflictsAreFirst : Type 0 where
  pub found : (steps : List Step) (i j : ℕ) → conflict_in steps ≡ Some (i, j)
      → IsFirstConflict steps i j
  pub none : (steps : List Step) (i j : ℕ) → conflict_in steps ≡ None → i < j
      → ConflictAt steps i j → ⊥

-- Of steps that are allowed, later Signs have greater numbers of one-time keys.
abbrev pub KeysRise : HashFunction → Type 0
KeysRise h = (steps : List Step) (i j : ℕ) (a b start end from to : ℕ) (hash node : Hash)
    (proof shown : List Hash) → AreSteps h steps → i < j
    → slice_get steps i ≡ Some (Sign a start end hash proof)
    → slice_get steps j ≡ Some (Sign b from to node shown) → a < b

-- Steps that are allowed, with proofs of 32-byte hashes, two of which are in conflict, have two
-- strings with one hash among those of their proofs.
abbrev pub QuarrelsCollide : HashFunction → Type 0
QuarrelsCollide h = (steps : List Step) (i j : ℕ) → AreSteps h steps
    → AllByRecursion HasHashes steps → ConflictAt steps i j
    → HasCollision h (proof_inputs h steps) (proof_inputs h steps)
