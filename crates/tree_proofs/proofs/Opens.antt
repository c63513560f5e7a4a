-- What a consistency proof gives, case by case.
use Rattle.std.proofs.Common.{◌≡◌, ℕ, ◌+◌, ◌-◌, ◌^◌, ◌<◌, ◌≤◌, ◌⊎◌, ⊎_elim, inl, inr, Bool, true}
use Rattle.std.proofs.Common.{false, eqb, List, [], ◌∷◌, ◌++◌, length, Some, None, sym, ◌∙◌, ap}
use Rattle.std.proofs.Common.{refl, arith}
use Rattle.std.specs.Prelude.{Option, is_some, option_map, reverse}
use Rattle.std.proofs.lemmas.Bool.{and_from, cond-true, cond-false, eq-eqb, false≢true, ne_eqb}
use Rattle.std.proofs.lemmas.Bool.{le-leb, lt-leb, cases_lt}
use Rattle.std.proofs.lemmas.List.{length-reverse, reverse-append}
use Rattle.tree_core.proofs.Powers.{half_within, split_bounds}
use Rattle.tree_core.specs.Split.{split_of}
use Rattle.tree_proofs.proofs.Made.{cases_place, other-whole}
use Rattle.tree_proofs.specs.Open.{both_right_of, open_from_root, open_of, open_whole, root_left_of}
use Rattle.tree_proofs.specs.Open.{root_right_of}
use Rattle.tree_proofs.specs.declared.outcome.Opened.{Opened}

-- The cases of the definition, with the numbers of the recursion as variables.

pub open-whole : (h : List ℕ → List ℕ) (s e n : ℕ) (known : Bool) (node : List ℕ)
    (w : List (List ℕ))
    → s ≡ 0 → e ≡ n → open_from_root h s e n known node w ≡ open_whole known node w
unfolding open_from_root
open-whole h s e n known node [] first last =
    cond-true _ _ _ (and_from (eqb s 0) (eqb e n) (eq-eqb s 0 first) (eq-eqb e n last))
open-whole h s e n known node (z ∷ q) first last =
    cond-true _ _ _ (and_from (eqb s 0) (eqb e n) (eq-eqb s 0 first) (eq-eqb e n last))

-- no hash is left, and the subtree is not the whole list
pub open-short : (h : List ℕ → List ℕ) (s e n : ℕ) (known : Bool) (node : List ℕ)
    → (0 < s) ⊎ (e < n) → open_from_root h s e n known node [] ≡ None
unfolding open_from_root
open-short h s e n known node part = cond-false _ _ _ (other-whole s e n part)

pub open-left : (h : List ℕ → List ℕ) (s e n k : ℕ) (known : Bool) (node z : List ℕ)
    (q : List (List ℕ))
    → 1 < n → split_of n ≡ k → e ≤ k
    → open_from_root h s e n known node (z ∷ q)
    ≡ option_map (root_left_of h z) (open_from_root h s e k known node q)
unfolding open_from_root
open-left h s e n k known node z q more is within =
    let bounds = split_bounds n in
    let here : e ≤ split_of n = omega arith in
    cond-false _ _ _ (other-whole s e n (inr (omega arith)))
    ∙ cond-false _ _ _ (lt-leb n 1 more)
    ∙ cond-true _ _ _ (le-leb e (split_of n) here)
    ∙ ap (λ k. option_map (root_left_of h z) (open_from_root h s e k known node q)) is

pub open-right : (h : List ℕ → List ℕ) (s e n k a b c : ℕ) (known : Bool) (node z : List ℕ)
    (q : List (List ℕ)) → 1 < n → split_of n ≡ k → s ≡ k + a → e ≡ k + b → n ≡ k + c → 0 < b
    → open_from_root h s e n known node (z ∷ q)
    ≡ option_map (root_right_of h z) (open_from_root h a b c known node q)
unfolding open_from_root
open-right h s e n k a b c known node z q more is s_is e_is n_is some =
    let bounds = split_bounds n in
    let first : s - split_of n ≡ a = omega arith in
    let last : e - split_of n ≡ b = omega arith in
    let size : n - split_of n ≡ c = omega arith in
    cond-false _ _ _ (other-whole s e n (inl (omega arith)))
    ∙ cond-false _ _ _ (lt-leb n 1 more)
    ∙ cond-false _ _ _ (lt-leb e (split_of n) (omega arith))
    ∙ cond-true _ _ _ (le-leb (split_of n) s (omega arith))
    ∙ ap (λ i. option_map (root_right_of h z) (open_from_root h i (e - split_of n)
    (n - split_of n) known node q)) first
    ∙ ap (λ i. option_map (root_right_of h z) (open_from_root h a i (n - split_of n) known node q))
    last
    ∙ ap (λ i. option_map (root_right_of h z) (open_from_root h a b i known node q)) size

pub open-over : (h : List ℕ → List ℕ) (s e n k b c : ℕ) (known : Bool) (node z : List ℕ)
    (q : List (List ℕ)) → 1 < n → split_of n ≡ k → s ≡ 0 → e ≡ k + b → n ≡ k + c → 0 < b → e < n
    → open_from_root h s e n known node (z ∷ q)
    ≡ option_map (both_right_of h z) (open_from_root h 0 b c false node q)
unfolding open_from_root
open-over h s e n k b c known node z q more is s_is e_is n_is some part =
    let bounds = split_bounds n in
    let last : e - split_of n ≡ b = omega arith in
    let size : n - split_of n ≡ c = omega arith in
    cond-false _ _ _ (other-whole s e n (inr part))
    ∙ cond-false _ _ _ (lt-leb n 1 more)
    ∙ cond-false _ _ _ (lt-leb e (split_of n) (omega arith))
    ∙ cond-false _ _ _ (lt-leb (split_of n) s (omega arith))
    ∙ cond-true _ _ _ (eq-eqb s 0 s_is)
    ∙ ap (λ i. option_map (both_right_of h z) (open_from_root h 0 i (n - split_of n) false node q))
    last
    ∙ ap (λ i. option_map (both_right_of h z) (open_from_root h 0 b i false node q)) size

pub open-none : (h : List ℕ → List ℕ) (s e n k : ℕ) (known : Bool) (node z : List ℕ)
    (q : List (List ℕ)) → 1 < n → split_of n ≡ k → 0 < s → s < k → k < e
    → open_from_root h s e n known node (z ∷ q) ≡ None
unfolding open_from_root
open-none h s e n k known node z q more is later before following =
    cond-false _ _ _ (other-whole s e n (inl later))
    ∙ cond-false _ _ _ (lt-leb n 1 more)
    ∙ cond-false _ _ _ (lt-leb e (split_of n) (omega arith))
    ∙ cond-false _ _ _ (lt-leb (split_of n) s (omega arith))
    ∙ cond-false _ _ _ (ne_eqb s 0 (λ first. omega arith))

-- The same for a proof, by its last hash.

-- the subtree is not the whole list, as the code tests it
pub part_from : (s e n : ℕ) → e ≤ n → ((s ≡ 0) × (e ≡ n → ⊥)) ⊎ (s ≡ 0 → ⊥) → (0 < s) ⊎ (e < n)
part_from s e n within other =
    ⊎_elim
    (λ (ends : (s ≡ 0) × (e ≡ n → ⊥)). let before = ends.1 in inr (omega arith))
    (λ (later : s ≡ 0 → ⊥). inl (omega arith))
    other

-- and it has more than one entry
pub part_more : (s e n : ℕ) → s < e → e ≤ n → (0 < s) ⊎ (e < n) → 1 < n
part_more s e n some within part =
    ⊎_elim (λ (later : 0 < s). omega arith) (λ (before : e < n). omega arith) part

pub open_of-whole : (h : List ℕ → List ℕ) (s e n : ℕ) (known : Bool) (node : List ℕ)
    (proof : List (List ℕ))
    → s ≡ 0 → e ≡ n → open_of h s e n known node proof ≡ open_whole known node proof
unfolding open_of
open_of-whole h s e n known node proof first last =
    open-whole h s e n known node (reverse proof) first last ∙ turned known proof
  where
    many : (known : Bool) (w : List (List ℕ)) → 2 ≤ length w → open_whole known node w ≡ None
    many known [] more = let none : ⊥ = omega arith in absurd none
    many known (x ∷ []) more = let none : ⊥ = omega arith in absurd none
    many true (x ∷ y ∷ rest) more = refl
    many false (x ∷ y ∷ rest) more = refl

    turned : (known : Bool) (w : List (List ℕ))
        → open_whole known node (reverse w) ≡ open_whole known node w
    turned known [] = refl
    turned known (x ∷ []) = refl
    turned known (x ∷ y ∷ rest) = many known (reverse (x ∷ y ∷ rest)) (let size =
        length-reverse (x ∷ y ∷ rest) in omega arith)
        ∙ sym (many known (x ∷ y ∷ rest) (omega arith))

pub open_of-short : (h : List ℕ → List ℕ) (s e n : ℕ) (known : Bool) (node : List ℕ)
    (proof : List (List ℕ))
    → (0 < s) ⊎ (e < n) → length proof ≡ 0 → open_of h s e n known node proof ≡ None
unfolding open_of
open_of-short h s e n known node [] part none = open-short h s e n known node part
open_of-short h s e n known node (x ∷ rest) part none = let no : ⊥ = omega arith in absurd no

pub open_of-left : (h : List ℕ → List ℕ) (s e n k : ℕ) (known : Bool) (node z : List ℕ)
    (p : List (List ℕ))
    → 1 < n → split_of n ≡ k → e ≤ k
    → open_of h s e n known node (p ++ z ∷ [])
    ≡ option_map (root_left_of h z) (open_of h s e k known node p)
unfolding open_of
open_of-left h s e n k known node z p more is within =
    ap (open_from_root h s e n known node) (reverse-append p (z ∷ []))
    ∙ open-left h s e n k known node z (reverse p) more is within

pub open_of-right : (h : List ℕ → List ℕ) (s e n k a b c : ℕ) (known : Bool) (node z : List ℕ)
    (p : List (List ℕ)) → 1 < n → split_of n ≡ k → s ≡ k + a → e ≡ k + b → n ≡ k + c → 0 < b
    → open_of h s e n known node (p ++ z ∷ [])
    ≡ option_map (root_right_of h z) (open_of h a b c known node p)
unfolding open_of
open_of-right h s e n k a b c known node z p more is s_is e_is n_is some =
    ap (open_from_root h s e n known node) (reverse-append p (z ∷ []))
    ∙ open-right h s e n k a b c known node z (reverse p) more is s_is e_is n_is some

pub open_of-over : (h : List ℕ → List ℕ) (s e n k b c : ℕ) (known : Bool) (node z : List ℕ)
    (p : List (List ℕ)) → 1 < n → split_of n ≡ k → s ≡ 0 → e ≡ k + b → n ≡ k + c → 0 < b → e < n
    → open_of h s e n known node (p ++ z ∷ [])
    ≡ option_map (both_right_of h z) (open_of h 0 b c false node p)
unfolding open_of
open_of-over h s e n k b c known node z p more is s_is e_is n_is some part =
    ap (open_from_root h s e n known node) (reverse-append p (z ∷ []))
    ∙ open-over h s e n k b c known node z (reverse p) more is s_is e_is n_is some part

pub open_of-none : (h : List ℕ → List ℕ) (s e n k : ℕ) (known : Bool) (node z : List ℕ)
    (p : List (List ℕ)) → 1 < n → split_of n ≡ k → 0 < s → s < k → k < e
    → open_of h s e n known node (p ++ z ∷ []) ≡ None
unfolding open_of
open_of-none h s e n k known node z p more is later before following =
    ap (open_from_root h s e n known node) (reverse-append p (z ∷ []))
    ∙ open-none h s e n k known node z (reverse p) more is later before following

-- A proof that gives hashes has at most one more than the tree has levels.

pub is_some-map : (f : Opened → Opened) (o : Option Opened) → is_some (option_map f o) ≡ is_some o
is_some-map f None = refl
is_some-map f (Some x) = refl

open-height : (h : List ℕ → List ℕ) (q : List (List ℕ)) (s e n height : ℕ) (known : Bool)
    (node : List ℕ)
    → s < e → e ≤ n → n ≤ 2 ^ height
    → is_some (open_from_root h s e n known node q) ≡ true → length q ≤ height + 1
open-height h [] s e n height known node some within near gives = omega arith
open-height h (z ∷ q) s e n height known node some within near gives =
    let k = split_of n in
    let bounds = split_bounds n in
    let rest_near = bounds.half in
    cases_place s e n some within
    (λ first last. whole known q (ap is_some
    (sym (open-whole h s e n known node (z ∷ q) first last)) ∙ gives))
    (λ more le.
    let half = half_within n height more near in
    let high = half.some in
    let short = open-height h q s e (split_of n) (height - 1) known node some le half.half
    (sym (is_some-map (root_left_of h z) _)
    ∙ ap is_some (sym (open-left h s e n k known node z q more refl le)) ∙ gives) in
    omega arith)
    (λ more le.
    let half = half_within n height more near in
    let high = half.some in
    let near_half = half.half in
    let short = open-height h q (s - k) (e - k) (n - split_of n) (height - 1) known node
    (omega arith) (omega arith) (omega arith)
    (sym (is_some-map (root_right_of h z) _)
    ∙ ap is_some (sym (open-right h s e n k (s - k) (e - k) (n - k) known node z q more refl
    (omega arith) (omega arith) (omega arith) (omega arith))) ∙ gives) in
    omega arith)
    (λ more inner before following.
    let half = half_within n height more near in
    let high = half.some in
    let near_half = half.half in
    ⊎_elim
    (λ (later : 0 < s).
    absurd (false≢true (ap is_some (sym (open-none h s e n k known node z q more refl later before
    following)) ∙ gives)))
    (λ (first : s ≤ 0).
    let inside : e < n =
    ⊎_elim (λ (later : 0 < s). let none : ⊥ =
    omega arith in absurd none) (λ (lt : e < n). lt) inner in
    let short = open-height h q 0 (e - k) (n - split_of n) (height - 1) false node (omega arith)
    (omega arith) (omega arith)
    (sym (is_some-map (both_right_of h z) _)
    ∙ ap is_some (sym (open-over h s e n k (e - k) (n - k) known node z q more refl
    (omega arith) (omega arith) (omega arith) (omega arith) inside)) ∙ gives) in
    omega arith)
    (cases_lt 0 s))
  where
    whole : (known : Bool) (q : List (List ℕ)) → is_some (open_whole known node (z ∷ q)) ≡ true
        → length (z ∷ q) ≤ height + 1
    whole true q gives = absurd (false≢true gives)
    whole false [] gives = omega arith
    whole false (y ∷ q) gives = absurd (false≢true gives)

pub open_of-height : (h : List ℕ → List ℕ) (s e n height : ℕ) (known : Bool) (node : List ℕ)
    (proof : List (List ℕ)) (o : Opened) → s < e → e ≤ n → n ≤ 2 ^ height
    → open_of h s e n known node proof ≡ Some o → length proof ≤ height + 1
unfolding open_of
open_of-height h s e n height known node proof o some within near gives =
    let size = length-reverse proof in
    let short = open-height h (reverse proof) s e n height known node some within near
    (ap is_some gives) in
    omega arith
