-- The tree hash by the clauses of the standard.
use Rattle.std.proofs.Common.{◌≡◌, ℕ, zero, suc, ◌-◌, ◌<◌, ◌≤◌, max, min, List, [], ◌∷◌, length}
use Rattle.std.proofs.Common.{take, drop, sym, ◌∙◌, ap, refl, arith}
use Rattle.std.specs.Prelude.{map}
use Rattle.std.proofs.lemmas.List.{drop-map, length-drop, length-map, length-take, take-map}
use Rattle.std.proofs.lemmas.Nat.{pow_pos}
use Rattle.byte_formats.specs.Types.{Hash}
use Rattle.tree_core.proofs.Powers.{largest_unique, split_bounds}
use Rattle.tree_core.specs.Laws.{IsLargestPowerBelow, IsTreeHash}
use Rattle.tree_core.specs.Split.{split_of}
use Rattle.tree_core.specs.Tree.{leaf_hash, pair_hash, root_of, root_within, tree_hash}

-- the sizes of both parts of a list that is split where its tree is
pub record HasSizes (leaves : List Hash) : Type 0 where
  pub positive : 1 ≤ split_of (length leaves)
  pub below : split_of (length leaves) < max (length leaves) 2
  pub prefix : length (take (split_of (length leaves)) leaves)
      ≡ min (split_of (length leaves)) (length leaves)
  pub back : length (drop (split_of (length leaves)) leaves)
      ≡ length leaves - split_of (length leaves)

pub part_sizes : (leaves : List Hash) → HasSizes leaves
part_sizes leaves =
    let bounds = split_bounds (length leaves) in
    record {
      positive = bounds.positive;
      below = bounds.below;
      prefix = length-take (split_of (length leaves)) leaves;
      back = length-drop (split_of (length leaves)) leaves;
    }

-- a bound on the depth that is not below the number of leaves changes nothing
root_within_more : (d e : ℕ) (h : List ℕ → List ℕ) (leaves : List (List ℕ)) → length leaves ≤ d
    → length leaves ≤ e
    → root_within d h leaves ≡ root_within e h leaves
unfolding root_within
root_within_more zero zero h leaves small same = refl
root_within_more zero (suc e) h [] small same = refl
root_within_more zero (suc e) h (x ∷ rest) small same = let none : ⊥ = omega arith in absurd none
root_within_more (suc d) zero h [] small same = refl
root_within_more (suc d) zero h (x ∷ rest) small same = let none : ⊥ = omega arith in absurd none
root_within_more (suc d) (suc e) h [] small same = refl
root_within_more (suc d) (suc e) h (x ∷ []) small same = refl
root_within_more (suc d) (suc e) h (x ∷ y ∷ rest) small same =
    let leaves : List (List ℕ) = x ∷ y ∷ rest in
    let sizes = part_sizes leaves in
    ap (λ l. pair_hash h l (root_within d h (drop (split_of (length leaves)) leaves)))
    (root_within_more d e h (take (split_of (length leaves)) leaves) (omega arith) (omega arith))
    ∙ ap (λ r. pair_hash h (root_within e h (take (split_of (length leaves)) leaves)) r)
    (root_within_more d e h (drop (split_of (length leaves)) leaves) (omega arith) (omega arith))

pub root_of-split : (h : List ℕ → List ℕ) (leaves : List (List ℕ)) → 1 < length leaves
    → root_of h leaves ≡ pair_hash h (root_of h (take (split_of (length leaves)) leaves))
    (root_of h (drop (split_of (length leaves)) leaves))
unfolding root_of root_within
root_of-split h [] more = let none : ⊥ = omega arith in absurd none
root_of-split h (x ∷ []) more = let none : ⊥ = omega arith in absurd none
root_of-split h (x ∷ y ∷ rest) more =
    let leaves : List (List ℕ) = x ∷ y ∷ rest in
    let bounds = split_bounds (length leaves) in
    let positive = bounds.positive in
    let below = bounds.below in
    let k : ℕ = split_of (length leaves) in
    let prefix = length-take (split_of (length leaves)) leaves in
    let back = length-drop (split_of (length leaves)) leaves in
    ap (λ l. pair_hash h l (root_within (length (y ∷ rest)) h
    (drop (split_of (length leaves)) leaves)))
    (root_within_more (length (y ∷ rest)) (length (take (split_of (length leaves)) leaves)) h
    (take (split_of (length leaves)) leaves) (omega arith) (omega arith))
    ∙ ap (λ r. pair_hash h (root_within (length (take (split_of (length leaves)) leaves)) h
    (take (split_of (length leaves)) leaves)) r)
    (root_within_more (length (y ∷ rest)) (length (drop (split_of (length leaves)) leaves)) h
    (drop (split_of (length leaves)) leaves) (omega arith) (omega arith))

pub root_of-one : (h : List ℕ → List ℕ) (leaf : List ℕ) → root_of h (leaf ∷ []) ≡ leaf
unfolding root_of root_within
root_of-one h leaf = refl

pub root_of-none : (h : List ℕ → List ℕ) → root_of h [] ≡ h []
unfolding root_of root_within
root_of-none h = refl

pub tree_hash-split : (h : List ℕ → List ℕ) (entries : List (List ℕ)) → 1 < length entries
    → tree_hash h entries ≡ pair_hash h (tree_hash h (take (split_of (length entries)) entries))
    (tree_hash h (drop (split_of (length entries)) entries))
tree_hash-split h entries more =
    let leaves : List (List ℕ) = map (leaf_hash h) entries in
    let size = length-map entries (leaf_hash h) in
    let split : split_of (length (map (leaf_hash h) entries)) ≡ split_of (length entries) =
    ap split_of size in
    root_of-split h leaves (omega arith)
    ∙ ap (λ k. pair_hash h (root_of h (take k leaves)) (root_of h (drop k leaves))) split
    ∙ ap (λ l. pair_hash h (root_of h l) (root_of h (drop (split_of (length entries)) leaves)))
    (take-map (leaf_hash h) (split_of (length entries)) entries)
    ∙ ap (λ r. pair_hash h (tree_hash h (take (split_of (length entries)) entries)) (root_of h r))
    (drop-map (leaf_hash h) (split_of (length entries)) entries)

pub tree_hash-more : (h : List ℕ → List ℕ) (entries : List (List ℕ)) (k : ℕ)
    → IsLargestPowerBelow (length entries) k
    → tree_hash h entries ≡ pair_hash h (tree_hash h (take k entries))
    (tree_hash h (drop k entries))
tree_hash-more h entries k is =
    let power = is.power in
    let e = power.1 in
    let positive = pow_pos power.0 in
    let below = is.below in
    tree_hash-split h entries (omega arith)
    ∙ ap (λ k. pair_hash h (tree_hash h (take k entries)) (tree_hash h (drop k entries)))
    (sym (largest_unique (length entries) k is))

pub IsTreeHash_always : (h : List ℕ → List ℕ) → IsTreeHash h
IsTreeHash_always h = record {
  none = root_of-none h;
  one = λ entry. root_of-one h (leaf_hash h entry);
  more =
      tree_hash-more h;
}
