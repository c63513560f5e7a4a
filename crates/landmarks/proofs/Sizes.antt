-- The sizes of the newest landmarks.
use Rattle.std.proofs.Common.{◌≡◌, ℕ, zero, suc, ◌+◌, ◌-◌, ◌^◌, ◌<◌, ◌≤◌, List, ◌∷◌, length}
use Rattle.std.proofs.Common.{⊎_elim, arith, get_or, take, ap, ◌∙◌}
use Rattle.std.specs.Prelude.{reverse, min}
use Rattle.std.specs.List.Sorted.{IsStrictlyIncreasing}
use Rattle.std.proofs.lemmas.Bool.{cases_lt}
use Rattle.std.proofs.lemmas.List.{get_or-reverse, get_or-take, get_or_past, length-reverse}
use Rattle.std.proofs.lemmas.List.{length-take}
use Rattle.landmarks.specs.Landmarks.{IsLandmarks, active_count}
use Rattle.landmarks.specs.Landmarks.{landmarks_of, landmark_size}

-- the size listed at an index
pub listed : (marks : List ℕ) (most i : ℕ) → i < most + 1 → i ≤ length marks
    → get_or (take (most + 1) (reverse (0 ∷ marks))) i 0 ≡ get_or (0 ∷ marks) (length marks - i) 0
listed marks most i here within =
    let place : length (0 ∷ marks) - 1 - i ≡ length marks - i = omega arith in
    get_or-take (most + 1) (reverse (0 ∷ marks)) i 0 here
    ∙ (get_or-reverse (0 ∷ marks) i 0 (omega arith) ∙ ap (λ k. get_or (0 ∷ marks) k 0) place)

pub count : (marks : List ℕ) (most : ℕ)
    → length (take (most + 1) (reverse (0 ∷ marks))) ≡ min (most + 1) (length marks + 1)
count marks most =
    let all : length (reverse (0 ∷ marks)) ≡ length marks + 1 =
    length-reverse (0 ∷ marks) ∙ omega arith in
    length-take (most + 1) (reverse (0 ∷ marks)) ∙ ap (min (most + 1)) all

-- numbers that rise from 0 on are at least their indices
rises : (xs : List ℕ) → IsStrictlyIncreasing xs → (k : ℕ) → k < length xs → k ≤ get_or xs k 0
rises xs rise zero here = omega arith
rises xs rise (suc k) here =
    let before = rises xs rise k (omega arith) in
    let step : get_or xs k 0 < get_or xs (k + 1) 0 = rise k (omega arith) in
    let next : get_or xs (k + 1) 0 ≡ get_or xs (suc k) 0 = ap (λ i. get_or xs i 0) (omega arith) in
    omega arith

sizes_small : (marks : List ℕ) → ((i : ℕ) → get_or marks i 0 < 2 ^ 63) → (k : ℕ)
    → get_or (0 ∷ marks) k 0 < 2 ^ 63
sizes_small marks small zero = omega arith
sizes_small marks small (suc k) = small k

pub are_landmarks : (marks : List ℕ) (most : ℕ) (sizes : List ℕ)
    → sizes ≡ take (most + 1) (reverse (0 ∷ marks)) → IsStrictlyIncreasing (0 ∷ marks)
    → ((i : ℕ) → get_or marks i 0 < 2 ^ 63)
    → IsLandmarks (record { last = length marks; sizes = sizes })
are_landmarks marks most sizes sizes_are rise small =
    let long : length sizes ≡ min (most + 1) (length marks + 1) =
    ap length sizes_are ∙ count marks most in
    let size : (i : ℕ) → i < length sizes
    → get_or sizes i 0 ≡ get_or (0 ∷ marks) (length marks - i) 0 =
    λ i here. ap (λ xs. get_or xs i 0) sizes_are
    ∙ listed marks most i (omega arith) (omega arith) in
    let first : get_or (0 ∷ marks) (length marks) 0 < 2 ^ 63 =
    sizes_small marks small (length marks) in
    let highest = rises (0 ∷ marks) rise (length marks) (omega arith) in
    record {
      some = omega arith;
      numbered = omega arith;
      last = omega arith;
      small = λ i. ⊎_elim
          (λ (here : i < length sizes).
          let is = size i here in
          let bound = sizes_small marks small (length marks - i) in omega arith)
          (λ (past : length sizes ≤ i). let none = get_or_past sizes i 0 past in omega arith)
          (cases_lt i (length sizes));
      falls = λ i more.
          let lower = size (i + 1) more in
          let upper = size i (omega arith) in
          let step : get_or (0 ∷ marks) (length marks - (i + 1)) 0
          < get_or (0 ∷ marks) (length marks - (i + 1) + 1) 0 =
          rise (length marks - (i + 1)) (omega arith) in
          let next : get_or (0 ∷ marks) (length marks - (i + 1) + 1) 0
          ≡ get_or (0 ∷ marks) (length marks - i) 0 =
          ap (λ k. get_or (0 ∷ marks) k 0) (omega arith) in
          omega arith;
      zero = λ whole.
          let is = size (length marks) (omega arith) in
          let first : length marks - length marks ≡ 0 = omega arith in
          is ∙ ap (λ k. get_or (0 ∷ marks) k 0) first;
    }

-- ---- the law

pub active_are : (marks : List ℕ) (most : ℕ)
    → active_count (landmarks_of marks most) ≡ min most (length marks)
unfolding landmarks_of
active_are marks most = let long = count marks most in omega arith

pub size_is : (marks : List ℕ) (most number : ℕ) → length marks ≤ number + min most (length marks)
    → number ≤ length marks
    → landmark_size (landmarks_of marks most) number ≡ get_or (0 ∷ marks) number 0
unfolding landmarks_of
size_is marks most number from below =
    let back : length marks - (length marks - number) ≡ number = omega arith in
    listed marks most (length marks - number) (omega arith) (omega arith)
    ∙ ap (λ k. get_or (0 ∷ marks) k 0) back
