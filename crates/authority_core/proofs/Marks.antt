-- The landmarks of a log, from its marks. They rise strictly, and are within its size.
use Rattle.std.proofs.Common.{◌≡◌, ℕ, zero, suc, ◌+◌, ◌≤◌, List, [], ◌∷◌, get_or}
use Rattle.std.proofs.Common.{Option, Some, None, IfSome, MatchOption, ap, subst, arith}
use Rattle.std.specs.List.Sorted.{IsStrictlyIncreasing}
use Rattle.tree_core.specs.declared.spans.Span.{Span}
use Rattle.tree_core.proofs.Subtrees.{is_subtree-from}
use Rattle.landmarks.specs.Landmarks.{IsCovering, IsLeastAbove, LandmarkList}
use Rattle.landmarks.specs.Landmarks.{landmarks_of}
use Rattle.landmarks.proofs.Sizes.{active_are, size_is}
use Rattle.issuance_log.specs.Marks.{AreRising}
use Rattle.authority_core.specs.Certificates.{HoldsEntry}

pub strictly : (from to : ℕ) (marks : List ℕ) → AreRising from to marks
    → IsStrictlyIncreasing (from ∷ marks)
strictly from to [] is k more = absurd (omega (arith, more))
strictly from to (mark ∷ marks) is zero more = is.0
strictly from to (mark ∷ marks) is (suc k) more =
    let rest = strictly mark to marks is.1 k (omega (arith, more)) in
    let place : suc (k + 1) ≡ suc k + 1 = omega arith in
    let next : get_or (mark ∷ marks) (k + 1) 0 ≡ get_or (from ∷ mark ∷ marks) (suc k + 1) 0 =
    ap (λ (i : ℕ). get_or (from ∷ mark ∷ marks) i 0) place in
    omega (arith, rest, next)

-- none of them is above the size
pub bounded : (from to : ℕ) (marks : List ℕ) → AreRising from to marks → (i : ℕ)
    → get_or (from ∷ marks) i 0 ≤ to
bounded from to [] is zero = is
bounded from to [] is (suc i) = omega arith
bounded from to (mark ∷ marks) is zero =
    let next = bounded mark to marks is.1 0 in omega (arith, is.0, next)
bounded from to (mark ∷ marks) is (suc i) = bounded mark to marks is.1 i

-- what covers an entry is a subtree of the log
in_log : (marks : List ℕ) (most size index : ℕ) (span : Span) → AreRising 0 size marks
    → IsCovering (landmarks_of marks most) index span → HoldsEntry size index span
unfolding landmarks_of
in_log marks most size index span rising is =
    let number : ℕ = is.number in
    let count = active_are marks most in
    let from = is.least.active.from in
    let below = is.least.active.below in
    let sized = size_is marks most number (omega (arith, from, count)) (omega (arith, below)) in
    let few = bounded 0 size marks rising number in
    record {
      valid = is_subtree-from span.start span.end is.subtree;
      from = is.from;
      below = is.below;
      within = omega (arith, is.within, sized, few);
    }

pub covered : (found : Option Span) (l : LandmarkList) (marks : List ℕ) (most size index : ℕ)
    → l ≡ landmarks_of marks most → AreRising 0 size marks
    → MatchOption found ((number : ℕ) → IsLeastAbove l index number → ⊥) (IsCovering l index)
    → IfSome found (HoldsEntry size index)
covered None l marks most size index same rising is = tt
covered (Some span) l marks most size index same rising is =
    in_log marks most size index span rising
    (subst (λ (x : LandmarkList). IsCovering x index span) same is)
