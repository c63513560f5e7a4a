-- The peaks of a list by the largest power of two that is not above its length: their number, and
-- the root that they give.
use Rattle.std.proofs.Common.{◌≡◌, ℕ, zero, suc, ◌+◌, ◌*◌, ◌-◌, ◌^◌, ◌<◌, ◌≤◌, ⊎_elim, List, []}
use Rattle.std.proofs.Common.{◌∷◌, length, take, drop, sym, ◌∙◌, ap, refl, arith}
use Rattle.std.proofs.lemmas.Bool.{cases_lt}
use Rattle.std.proofs.lemmas.List.{drop_all, length-drop, take_all}
use Rattle.std.proofs.lemmas.Nat.{ones-le, ones_cat, pow_pos}
use Rattle.std.specs.Int.Count.{ones_step}
use Rattle.std.specs.Prelude.{count_ones}
use Rattle.byte_formats.specs.Types.{Hash, HashFunction}
use Rattle.tree_core.proofs.Powers.{split_bounds, split_power, split_unique}
use Rattle.tree_core.proofs.Roots.{root_of-none, root_of-split}
use Rattle.tree_core.specs.Split.{split_of}
use Rattle.tree_core.specs.Tree.{pair_hash, root_of}
use Rattle.tree_peaks.specs.Peaks.{peaks_of, peaks_within, root_of_peaks, top_of}

-- a number as its highest digit and the digits below it
pub record HasTop (n : ℕ) : Type 0 where
  pub exponent : ℕ
  pub low : ℕ
  pub whole : n ≡ 2 ^ exponent + low
  pub below : low < 2 ^ exponent

pub top : (n : ℕ) → 0 < n → HasTop n
top n some =
    let bounds = split_bounds (n + 1) in
    let power = split_power (n + 1) in
    let half = bounds.half in
    let under = bounds.below in
    let is = power.1 in
    record {
      exponent = power.0;
      low = n - 2 ^ power.0;
      whole = omega arith;
      below = omega arith;
    }

top_is : (n e : ℕ) → 2 ^ e ≤ n → n < 2 * 2 ^ e → top_of n ≡ 2 ^ e
top_is n e within below = split_unique (n + 1) e (omega arith) (omega arith)

-- a bound on the depth that is not below the number of leaves changes nothing
within_more : (d e : ℕ) (h : HashFunction) (leaves : List Hash) → length leaves ≤ d
    → length leaves ≤ e
    → peaks_within d h leaves ≡ peaks_within e h leaves
unfolding peaks_within
within_more zero zero h leaves small same = refl
within_more zero (suc e) h [] small same = refl
within_more zero (suc e) h (x ∷ rest) small same = let none : ⊥ = omega arith in absurd none
within_more (suc d) zero h [] small same = refl
within_more (suc d) zero h (x ∷ rest) small same = let none : ⊥ = omega arith in absurd none
within_more (suc d) (suc e) h [] small same = refl
within_more (suc d) (suc e) h (x ∷ rest) small same =
    let leaves : List Hash = x ∷ rest in
    let bounds = split_bounds (length leaves + 1) in
    let positive = bounds.positive in
    let back = length-drop (top_of (length leaves)) leaves in
    ap (λ ps. root_of h (take (top_of (length leaves)) leaves) ∷ ps)
    (within_more d e h (drop (top_of (length leaves)) leaves) (omega arith) (omega arith))

pub peaks-at : (h : HashFunction) (leaves : List Hash) (e : ℕ) → 2 ^ e ≤ length leaves
    → length leaves < 2 * 2 ^ e
    → peaks_of h leaves ≡ root_of h (take (2 ^ e) leaves) ∷ peaks_of h (drop (2 ^ e) leaves)
unfolding peaks_of peaks_within
peaks-at h [] e within below =
    let positive = pow_pos e in
    let none : ⊥ = omega arith in
    absurd none
peaks-at h (x ∷ rest) e within below =
    let leaves : List Hash = x ∷ rest in
    let positive = pow_pos e in
    let back = length-drop (2 ^ e) leaves in
    ap (λ k. root_of h (take k leaves) ∷ peaks_within (length rest) h (drop k leaves))
    (top_is (length leaves) e within below)
    ∙ ap (λ ps. root_of h (take (2 ^ e) leaves) ∷ ps)
    (within_more (length rest) (length (drop (2 ^ e) leaves)) h (drop (2 ^ e) leaves) (omega arith)
    (omega arith))

pub peaks-none : (h : HashFunction) → peaks_of h [] ≡ []
unfolding peaks_of peaks_within
peaks-none h = refl

-- the list of a state without leaves
pub none_left : (leaves : List Hash) → length leaves ≡ 0 → leaves ≡ []
none_left [] none = refl
none_left (x ∷ rest) none = let no : ⊥ = omega arith in absurd no

-- ---- their number

one_digit : count_ones 1 ≡ 1
one_digit =
    let step = ones_step 1 in
    let none = ones-le 0 0 (omega arith) in
    omega arith

count_within : (d : ℕ) (h : HashFunction) (leaves : List Hash) → length leaves ≤ d
    → length (peaks_of h leaves) ≡ count_ones (length leaves)
count_within d h [] small =
    let none = ones-le 0 0 (omega arith) in
    ap length (peaks-none h) ∙ omega arith
count_within zero h (x ∷ rest) small = let none : ⊥ = omega arith in absurd none
count_within (suc d) h (x ∷ rest) small =
    let leaves : List Hash = x ∷ rest in
    let highest = top (length leaves) (omega arith) in
    let e = highest.exponent in
    let whole = highest.whole in
    let below = highest.below in
    let positive = pow_pos e in
    let back = length-drop (2 ^ e) leaves in
    let left : length (drop (2 ^ e) leaves) ≡ highest.low = omega arith in
    let others = count_within d h (drop (2 ^ e) leaves) (omega arith) in
    let digits = ones_cat e 1 highest.low below in
    let one = one_digit in
    let size : length leaves ≡ 1 * 2 ^ e + highest.low = omega arith in
    let counted : count_ones (length leaves) ≡ count_ones (1 * 2 ^ e + highest.low) =
    ap count_ones size in
    let same : count_ones (length (drop (2 ^ e) leaves)) ≡ count_ones highest.low =
    ap count_ones left in
    ap length (peaks-at h leaves e (omega arith) (omega arith)) ∙ omega arith

pub count-peaks : (h : HashFunction) (leaves : List Hash)
    → length (peaks_of h leaves) ≡ count_ones (length leaves)
count-peaks h leaves = count_within (length leaves) h leaves (omega arith)

-- ---- the root

pub root_of_peaks-more : (h : HashFunction) (x : Hash) (ps : List Hash) → 0 < length ps
    → root_of_peaks h (x ∷ ps) ≡ pair_hash h x (root_of_peaks h ps)
unfolding root_of_peaks
root_of_peaks-more h x [] some = let none : ⊥ = omega arith in absurd none
root_of_peaks-more h x (y ∷ rest) some = refl

pub root_of_peaks-one : (h : HashFunction) (x : Hash) → root_of_peaks h (x ∷ []) ≡ x
unfolding root_of_peaks
root_of_peaks-one h x = refl

pub root_of_peaks-none : (h : HashFunction) → root_of_peaks h [] ≡ h []
unfolding root_of_peaks
root_of_peaks-none h = refl

some_peaks : (h : HashFunction) (leaves : List Hash) → 0 < length leaves
    → 0 < length (peaks_of h leaves)
unfolding peaks_of peaks_within
some_peaks h [] some = let none : ⊥ = omega arith in absurd none
some_peaks h (x ∷ rest) some = omega arith

root_within_size : (d : ℕ) (h : HashFunction) (leaves : List Hash) → length leaves ≤ d
    → root_of_peaks h (peaks_of h leaves) ≡ root_of h leaves
root_within_size d h [] small =
    ap (root_of_peaks h) (peaks-none h) ∙ root_of_peaks-none h ∙ sym (root_of-none h)
root_within_size zero h (x ∷ rest) small = let none : ⊥ = omega arith in absurd none
root_within_size (suc d) h (x ∷ rest) small =
    let leaves : List Hash = x ∷ rest in
    let highest = top (length leaves) (omega arith) in
    let e = highest.exponent in
    let whole = highest.whole in
    let below = highest.below in
    let positive = pow_pos e in
    let back = length-drop (2 ^ e) leaves in
    let others = root_within_size d h (drop (2 ^ e) leaves) (omega arith) in
    ap (root_of_peaks h) (peaks-at h leaves e (omega arith) (omega arith))
    ∙ ⊎_elim
    (λ (more : 0 < highest.low).
    let split : split_of (length leaves) ≡ 2 ^ e =
    split_unique (length leaves) e (omega arith) (omega arith) in
    root_of_peaks-more h (root_of h (take (2 ^ e) leaves)) (peaks_of h (drop (2 ^ e) leaves))
    (some_peaks h (drop (2 ^ e) leaves) (omega arith))
    ∙ ap (pair_hash h (root_of h (take (2 ^ e) leaves))) others
    ∙ sym (root_of-split h leaves (omega arith)
    ∙ ap (λ k. pair_hash h (root_of h (take k leaves)) (root_of h (drop k leaves))) split))
    (λ (none : highest.low ≤ 0).
    ap (λ ps. root_of_peaks h (root_of h (take (2 ^ e) leaves) ∷ ps))
    (ap (peaks_of h) (drop_all (2 ^ e) leaves (omega arith)) ∙ peaks-none h)
    ∙ root_of_peaks-one h (root_of h (take (2 ^ e) leaves))
    ∙ ap (root_of h) (take_all (2 ^ e) leaves (omega arith)))
    (cases_lt 0 highest.low)

pub root-peaks : (h : HashFunction) (leaves : List Hash)
    → root_of_peaks h (peaks_of h leaves) ≡ root_of h leaves
root-peaks h leaves = root_within_size (length leaves) h leaves (omega arith)
