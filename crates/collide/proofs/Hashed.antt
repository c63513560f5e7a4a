-- The strings in a tree hash, by the parts of its list, and hashes by their length.
use Rattle.std.proofs.Common.{◌≡◌, ℕ, zero, suc, ◌<◌, ◌≤◌, ⊎_elim, List, [], ◌∷◌, ◌++◌}
use Rattle.std.proofs.Common.{length, take, drop, sym, ◌∙◌, ap, refl, subst, arith}
use Rattle.std.specs.List.{Contains}
use Rattle.std.proofs.lemmas.List.{length-drop, length-take}
use Rattle.std.proofs.lemmas.List.Elements.{Contains-append_left, Contains-append_right}
use Rattle.std.proofs.lemmas.List.Elements.{Contains-push, Contains-push_cases}
use Rattle.std.proofs.lemmas.Nat.{pow_pos}
use Rattle.std.proofs.Math.Seq.{drop-append_seam, take-append_seam}
use Rattle.byte_formats.specs.Types.{HashFunction, Text}
use Rattle.tree_core.proofs.Powers.{largest_unique, split_bounds}
use Rattle.tree_core.proofs.Roots.{part_sizes}
use Rattle.tree_core.specs.Laws.{IsLargestPowerBelow}
use Rattle.tree_core.specs.Split.{split_of}
use Rattle.tree_core.specs.Tree.{tree_hash}
use Rattle.tree_proofs.specs.Halves.{AreHalves}
use Rattle.collide.specs.Inputs.{inputs_of, inputs_within, leaf_input, pair_input}
use Rattle.collide.specs.Laws.{AreInputs}

-- Strings among strings.

pub first_in : (x : Text) (xs : List Text) → Contains (x ∷ xs) x
first_in x xs = Contains-append_left (x ∷ []) xs x (Contains-push [] x)

pub later_in : (x : Text) (xs : List Text) (y : Text) → Contains xs y → Contains (x ∷ xs) y
later_in x xs y within = Contains-append_right (x ∷ []) xs y within

pub only_in : (x y : Text) → Contains (x ∷ []) y → y ≡ x
only_in x y within =
    ⊎_elim
    (λ (none : Contains [] y). absurd (none_below none.0 none.1))
    (λ (is : x ≡ y). sym is)
    (Contains-push_cases [] x y within)
  where
    none_below : (k : ℕ) → k < 0 → ⊥
    none_below k below = omega arith

-- The strings in the tree hash, at any depth that is not below the number of entries.

inputs_within_more : (d e : ℕ) (h : HashFunction) (entries : List Text) → length entries ≤ d
    → length entries ≤ e
    → inputs_within d h entries ≡ inputs_within e h entries
unfolding inputs_within
inputs_within_more zero zero h entries small same = refl
inputs_within_more zero (suc e) h [] small same = refl
inputs_within_more zero (suc e) h (x ∷ rest) small same = let none : ⊥ = omega arith in absurd none
inputs_within_more (suc d) zero h [] small same = refl
inputs_within_more (suc d) zero h (x ∷ rest) small same = let none : ⊥ = omega arith in absurd none
inputs_within_more (suc d) (suc e) h [] small same = refl
inputs_within_more (suc d) (suc e) h (x ∷ []) small same = refl
inputs_within_more (suc d) (suc e) h (x ∷ y ∷ rest) small same =
    let entries : List Text = x ∷ y ∷ rest in
    let sizes = part_sizes entries in
    let top = pair_input (tree_hash h (take (split_of (length entries)) entries))
    (tree_hash h (drop (split_of (length entries)) entries)) in
    ap (λ l. top ∷ l ++ inputs_within d h (drop (split_of (length entries)) entries))
    (inputs_within_more d e h (take (split_of (length entries)) entries) (omega arith)
    (omega arith))
    ∙ ap (λ r. top ∷ inputs_within e h (take (split_of (length entries)) entries) ++ r)
    (inputs_within_more d e h (drop (split_of (length entries)) entries) (omega arith)
    (omega arith))

-- those of both parts
abbrev pub inputs_at : HashFunction → ℕ → List Text → List Text
inputs_at h k entries =
    pair_input (tree_hash h (take k entries)) (tree_hash h (drop k entries))
    ∷ inputs_of h (take k entries) ++ inputs_of h (drop k entries)

pub inputs_of-split : (h : HashFunction) (entries : List Text) → 1 < length entries
    → inputs_of h entries ≡ inputs_at h (split_of (length entries)) entries
unfolding inputs_of inputs_within
inputs_of-split h [] more = let none : ⊥ = omega arith in absurd none
inputs_of-split h (x ∷ []) more = let none : ⊥ = omega arith in absurd none
inputs_of-split h (x ∷ y ∷ rest) more =
    let entries : List Text = x ∷ y ∷ rest in
    let bounds = split_bounds (length entries) in
    let positive = bounds.positive in
    let below = bounds.below in
    let prefix = length-take (split_of (length entries)) entries in
    let back = length-drop (split_of (length entries)) entries in
    let top = pair_input (tree_hash h (take (split_of (length entries)) entries))
    (tree_hash h (drop (split_of (length entries)) entries)) in
    ap (λ l. top ∷ l ++ inputs_within (length (y ∷ rest)) h
    (drop (split_of (length entries)) entries))
    (inputs_within_more (length (y ∷ rest)) (length (take (split_of (length entries)) entries)) h
    (take (split_of (length entries)) entries) (omega arith) (omega arith))
    ∙ ap (λ r. top ∷ inputs_of h (take (split_of (length entries)) entries) ++ r)
    (inputs_within_more (length (y ∷ rest)) (length (drop (split_of (length entries)) entries)) h
    (drop (split_of (length entries)) entries) (omega arith) (omega arith))

pub inputs_of-one : (h : HashFunction) (entry : Text)
    → inputs_of h (entry ∷ []) ≡ leaf_input entry ∷ []
unfolding inputs_of inputs_within
inputs_of-one h entry = refl

pub inputs_of-none : (h : HashFunction) → inputs_of h [] ≡ [] ∷ []
unfolding inputs_of inputs_within
inputs_of-none h = refl

inputs_of-more : (h : HashFunction) (entries : List Text) (k : ℕ)
    → IsLargestPowerBelow (length entries) k → inputs_of h entries ≡ inputs_at h k entries
inputs_of-more h entries k is =
    let power = is.power in
    let e = power.1 in
    let positive = pow_pos power.0 in
    let below = is.below in
    inputs_of-split h entries (omega arith)
    ∙ ap (λ k. inputs_at h k entries) (sym (largest_unique (length entries) k is))

pub AreInputs_always : (h : HashFunction) → AreInputs h
AreInputs_always h = record {
  none = inputs_of-none h;
  one = inputs_of-one h;
  more = inputs_of-more h;
}

-- The same for the parts of a list.

pub halves_inputs : (h : HashFunction) (xs l r : List Text) → AreHalves xs l r
    → inputs_of h xs ≡ pair_input (tree_hash h l) (tree_hash h r) ∷ inputs_of h l ++ inputs_of h r
halves_inputs h xs l r halves =
    let some = halves.some in
    let rest = halves.rest in
    let all = halves.all in
    inputs_of-split h xs (omega arith)
    ∙ ap (λ a. pair_input (tree_hash h a) (tree_hash h (drop (split_of (length xs)) xs))
    ∷ inputs_of h a ++ inputs_of h (drop (split_of (length xs)) xs)) (sym halves.left)
    ∙ ap (λ b. pair_input (tree_hash h l) (tree_hash h b) ∷ inputs_of h l ++ inputs_of h b)
    (sym halves.right)

pub root_in : (h : HashFunction) (xs l r : List Text) → AreHalves xs l r
    → Contains (inputs_of h xs) (pair_input (tree_hash h l) (tree_hash h r))
root_in h xs l r halves =
    subst (λ texts. Contains texts (pair_input (tree_hash h l) (tree_hash h r)))
    (sym (halves_inputs h xs l r halves)) (first_in _ _)

pub left_in : (h : HashFunction) (xs l r : List Text) (x : Text) → AreHalves xs l r
    → Contains (inputs_of h l) x → Contains (inputs_of h xs) x
left_in h xs l r x halves within =
    subst (λ texts. Contains texts x) (sym (halves_inputs h xs l r halves))
    (later_in _ _ x (Contains-append_left (inputs_of h l) (inputs_of h r) x within))

pub right_in : (h : HashFunction) (xs l r : List Text) (x : Text) → AreHalves xs l r
    → Contains (inputs_of h r) x → Contains (inputs_of h xs) x
right_in h xs l r x halves within =
    subst (λ texts. Contains texts x) (sym (halves_inputs h xs l r halves))
    (later_in _ _ x (Contains-append_right (inputs_of h l) (inputs_of h r) x within))

-- Two strings of two parts are the same only where the parts are.

pub parts_left : (a b c d : Text) → length a ≡ length c → a ++ b ≡ c ++ d → a ≡ c
parts_left a b c d size same =
    sym (take-append_seam a b) ∙ ap (take (length a)) same ∙ ap (λ n. take n (c ++ d)) size
    ∙ take-append_seam c d

pub parts_right : (a b c d : Text) → length a ≡ length c → a ++ b ≡ c ++ d → b ≡ d
parts_right a b c d size same =
    sym (drop-append_seam a b) ∙ ap (drop (length a)) same ∙ ap (λ n. drop n (c ++ d)) size
    ∙ drop-append_seam c d

pub unprefixed : (x : ℕ) (a b : Text) → x ∷ a ≡ x ∷ b → a ≡ b
unprefixed x a b same = ap (drop 1) same
