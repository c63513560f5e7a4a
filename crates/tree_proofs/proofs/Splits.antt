-- Where code splits a list, and the roots of what it splits.
use Rattle.std.proofs.Common.{◌≡◌, ℕ, ◌-◌, ◌*◌, ◌%◌, ◌^◌, ◌<◌, ◌≤◌, List, [], ◌∷◌, length, take}
use Rattle.std.proofs.Common.{drop, get_or, refl, sym, ◌∙◌, ap, arith}
use Rattle.std.proofs.lemmas.Nat.{one_shl}
use Rattle.tree_core.proofs.Powers.{split_bounds, split_unique}
use Rattle.tree_core.proofs.Roots.{root_of-none, root_of-one, root_of-split}
use Rattle.tree_core.specs.Split.{split_of}
use Rattle.tree_core.specs.Tree.{leaf_hash, pair_hash, root_of, tree_hash}

-- a power of two by a shift
pub shifted : (n e : ℕ) → 1 < n → e < 64 → 2 ^ e ≤ n - 1 → n - 1 < 2 * 2 ^ e
    → 1 * 2 ^ e % 2 ^ 64 ≡ split_of n
shifted n e more fits low high =
    one_shl e 64 fits ∙ sym (split_unique n e (omega arith) (omega arith))

pub record IsInside (n k : ℕ) : Type 0 where
  pub positive : 0 < k
  pub below : k < n

pub split_inside : (n : ℕ) → 1 < n → IsInside n (split_of n)
split_inside n more =
    let bounds = split_bounds n in
    let below = bounds.below in
    let positive = bounds.positive in
    record { positive = omega arith; below = omega arith }

pub tree-none : (h : List ℕ → List ℕ) (entries : List (List ℕ)) → length entries < 1
    → h [] ≡ tree_hash h entries
tree-none h [] none = sym (root_of-none h)
tree-none h (x ∷ rest) none = let no : ⊥ = omega arith in absurd no

pub only_one : (entries : List (List ℕ)) → length entries ≡ 1 → entries ≡ get_or entries 0 [] ∷ []
only_one [] one = let no : ⊥ = omega arith in absurd no
only_one (x ∷ []) one = refl
only_one (x ∷ y ∷ rest) one = let no : ⊥ = omega arith in absurd no

pub tree-one : (h : List ℕ → List ℕ) (entries : List (List ℕ)) → length entries ≡ 1
    → leaf_hash h (get_or entries 0 []) ≡ tree_hash h entries
tree-one h entries one =
    sym (root_of-one h (leaf_hash h (get_or entries 0 [])))
    ∙ ap (tree_hash h) (sym (only_one entries one))

pub root-none : (h : List ℕ → List ℕ) (leaves : List (List ℕ)) → length leaves < 1
    → h [] ≡ root_of h leaves
root-none h [] none = sym (root_of-none h)
root-none h (x ∷ rest) none = let no : ⊥ = omega arith in absurd no

pub root-one : (h : List ℕ → List ℕ) (leaves : List (List ℕ)) → 1 ≤ length leaves
    → length leaves < 2 → get_or leaves 0 [] ≡ root_of h leaves
root-one h [] some one = let no : ⊥ = omega arith in absurd no
root-one h (y ∷ []) some one = sym (root_of-one h y)
root-one h (y ∷ z ∷ rest) some one = let no : ⊥ = omega arith in absurd no

pub root-more : (h : List ℕ → List ℕ) (leaves left right : List (List ℕ)) (k : ℕ)
    → 2 ≤ length leaves
    → k ≡ split_of (length leaves) → left ≡ take k leaves → right ≡ drop k leaves
    → pair_hash h (root_of h left) (root_of h right) ≡ root_of h leaves
root-more h leaves left right k more is left_is right_is =
    ap (λ l. pair_hash h (root_of h l) (root_of h right)) (left_is ∙ ap (λ k. take k leaves) is)
    ∙ ap (λ r. pair_hash h (root_of h (take (split_of (length leaves)) leaves)) (root_of h r))
    (right_is ∙ ap (λ k. drop k leaves) is)
    ∙ sym (root_of-split h leaves more)
