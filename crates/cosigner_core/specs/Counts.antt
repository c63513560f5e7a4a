-- The numbers of the one-time keys in the Sign records of a journal, and those of the lower trees
-- in its Child records.
use Rattle.std.specs.Prelude.{◌≡◌, ℕ, ◌/◌, ◌^◌, ◌<◌, ◌≤◌, List, [], ◌∷◌, length, slice_get}
use Rattle.std.specs.Prelude.{Option, Some, None, IfSome}
use Rattle.byte_formats.specs.Types.{Text}
use Rattle.hss_keys.specs.Keys.{keys_there}
use Rattle.lms_core.specs.Heights.{height}
use Rattle.lms_core.specs.declared.heights.LmsType.{LmsType}
use Rattle.cosigner_core.specs.Folds.{CosignerState, key_count}
use Rattle.cosigner_core.specs.Records.{step_in}
use Rattle.cosigner_core.specs.declared.step.Step.{Step}
use Rattle.cosigner_core.specs.declared.step.Step.TheVariants.{Advance, Child, Sign}

-- the number in a Sign before other numbers
abbrev pub index_before : Option Step → List ℕ → List ℕ
index_before None rest = rest
index_before (Some (Advance size root proof)) rest = rest
index_before (Some (Sign index start end hash proof)) rest = index ∷ rest
index_before (Some (Child child low)) rest = rest

-- the numbers in the Sign records among these, in their order
unfoldable pub indices_in : List Text → List ℕ
indices_in [] = []
indices_in (body ∷ bodies) = index_before (step_in body) (indices_in bodies)

-- the numbers in the Sign records of a journal, which follow its first record
unfoldable pub indices_of : List Text → List ℕ
indices_of [] = []
indices_of (first ∷ bodies) = indices_in bodies

-- the number in a Child before other numbers
abbrev pub child_before : Option Step → List ℕ → List ℕ
child_before None rest = rest
child_before (Some (Advance size root proof)) rest = rest
child_before (Some (Sign index start end hash proof)) rest = rest
child_before (Some (Child child low)) rest = child ∷ rest

-- the numbers in the Child records among these, in their order
unfoldable pub children_in : List Text → List ℕ
children_in [] = []
children_in (body ∷ bodies) = child_before (step_in body) (children_in bodies)

-- the numbers in the Child records of a journal, which follow its first record
unfoldable pub children_of : List Text → List ℕ
children_of [] = []
children_of (first ∷ bodies) = children_in bodies

-- The i-th of these numbers, counted from 0, is i, so none stands twice.
abbrev pub AreNumbered : List ℕ → Type 0
AreNumbered numbers = (i number : ℕ) → slice_get numbers i ≡ Some number → number ≡ i

-- The i-th Sign record among these, counted from 0, has the number i, and so has the i-th Child
-- record, so no number stands twice.
pub record AreCounted (bodies : List Text) : Type 0 where
  pub signs : AreNumbered (indices_in bodies)
  pub children : AreNumbered (children_in bodies)

-- The i-th Sign record, counted from 0, has the number i, so no number stands twice. The next
-- one-time key follows them, and there are no more than the key has. The same holds of the Child
-- records and the lower trees.
pub record CountsUp (list : List Text) (s : CosignerState) : Type 0 where
  pub each : (i index : ℕ) → slice_get (indices_of list) i ≡ Some index → index ≡ i
  pub count : s.key.next ≡ length (indices_of list)
  pub few : s.key.next ≤ key_count s
  pub each_child : AreNumbered (children_of list)
  pub children : s.key.children ≡ length (children_of list)

-- The number of a Sign that follows these records is how many of them are Sign records, and the
-- lower trees whose Child records are among them have so many one-time keys and more. With two
-- levels, one of these is the Child record of its lower tree.
pub record FollowsItsTree (lms : LmsType) (low : Option LmsType) (before : List Text)
    (index : ℕ) : Type 0 where
  pub next : index ≡ length (indices_in before)
  pub there : index < keys_there lms low (length (children_in before))
  pub tree : IfSome low (λ l. slice_get (children_in before) (index / 2 ^ height l)
      ≡ Some (index / 2 ^ height l))
