-- The split of a number and the power of two over it: bounds, and that these bounds determine
-- them.
use Rattle.std.proofs.Common.{◌≡◌, ℕ, zero, suc, ◌+◌, ◌*◌, ◌-◌, ◌/◌, ◌^◌, ◌<◌, ◌≤◌, ⊎_elim, ltb}
use Rattle.std.proofs.Common.{leb, max, sym, ◌∙◌, ap, refl, subst, arith}
use Rattle.std.proofs.Math.Nat.{pow-succ'}
use Rattle.std.proofs.Math.Pow.{pow_mono}
use Rattle.std.proofs.lemmas.Bool.{cond_both, cond-true, cond-false, ltb-true, ltb-false, le-leb}
use Rattle.std.proofs.lemmas.Bool.{lt-leb, cases_lt}
use Rattle.std.proofs.lemmas.Nat.{pow_pos}
use Rattle.std.specs.Int.{IsPowerOfTwo, IsNextPowerOfTwo}
use Rattle.tree_core.specs.Laws.{IsLargestPowerBelow, IsLeastPowerFrom}
use Rattle.tree_core.specs.Split.{split_of, power_over}

-- what holds of a split of any number
pub record IsSplit (n k : ℕ) : Type 0 where
  pub positive : 1 ≤ k
  pub half : n ≤ 2 * k
  pub below : k < max n 2

pub split_bounds : (n : ℕ) → IsSplit n (split_of n)
unfolding split_of
split_bounds zero = record { positive = omega arith; half = omega arith; below = omega arith }
split_bounds (suc n) =
    let before = split_bounds n in
    let positive = before.positive in
    let half = before.half in
    let below = before.below in
    cond_both (ltb (2 * split_of n) (suc n)) (2 * split_of n) (split_of n) (IsSplit (suc n))
    (λ e. let lt = ltb-true _ _ e in record {
      positive = omega arith;
      half = omega arith;
      below =
          omega arith;
    })
    (λ e. let le = ltb-false _ _ e in record {
      positive = omega arith;
      half = omega arith;
      below =
          omega arith;
    })

pub split_power : (n : ℕ) → IsPowerOfTwo (split_of n)
unfolding split_of
split_power zero = (0, refl)
split_power (suc n) =
    let before = split_power n in
    cond_both (ltb (2 * split_of n) (suc n)) (2 * split_of n) (split_of n) IsPowerOfTwo
    (λ _. (suc before.0, ap (λ k. 2 * k) before.1 ∙ sym (pow-succ' 2 before.0)))
    (λ _. before)

-- a power of two below the double of another is not above it
pub power_below_double : (e f : ℕ) → 2 ^ e < 2 * 2 ^ f → 2 ^ e ≤ 2 ^ f
power_below_double e f h =
    ⊎_elim
    (λ (lt : f < e). let more : 2 ^ suc f ≤ 2 ^ e = pow_mono {i = suc f} {j = e} (omega arith) in
    let double = pow-succ' 2 f in omega arith)
    (λ (le : e ≤ f). pow_mono {i = e} {j = f} le)
    (cases_lt f e)

pub split_unique : (n e : ℕ) → 2 ^ e < n → n ≤ 2 * 2 ^ e → split_of n ≡ 2 ^ e
split_unique n e above half =
    let bounds = split_bounds n in
    let power = split_power n in
    let positive = pow_pos e in
    let here = bounds.half in
    let up = power_below_double e power.0 (let s = power.1 in omega arith) in
    let down = power_below_double power.0 e (let s = power.1 in omega arith) in
    let s = power.1 in omega arith

-- c is half of n, rounded up: the split of n is twice that of c
pub split_half : (n c j : ℕ) → n + 1 ≡ 2 * c + j → j ≤ 1 → 1 < c → split_of n ≡ 2 * split_of c
split_half n c j is small some =
    let bounds = split_bounds c in
    let power = split_power c in
    let s_is = power.1 in
    let double = pow-succ' 2 power.0 in
    split_unique n (suc power.0) (omega arith) (omega arith) ∙ double ∙ ap (λ k. 2 * k) (sym s_is)

pub power_over-one : (n : ℕ) → n ≤ 1 → power_over n ≡ 1
unfolding power_over
power_over-one n small = cond-true (leb n 1) 1 (2 * split_of n) (le-leb n 1 small)

pub power_over-more : (n : ℕ) → 1 < n → power_over n ≡ 2 * split_of n
unfolding power_over
power_over-more n large = cond-false (leb n 1) 1 (2 * split_of n) (lt-leb n 1 large)

pub power_over_unique : (n p : ℕ) → IsNextPowerOfTwo n p → p ≡ power_over n
power_over_unique n p next = of_exponent n p next.0.0 next.0.1 next.1 next.2
  where
    of_exponent : (n p e : ℕ) → p ≡ 2 ^ e → n ≤ p → p / 2 < max 1 n → p ≡ power_over n
    of_exponent n p zero is from half = let small : n ≤ 1 = omega arith in is
        ∙ sym (power_over-one n small)
    of_exponent n p (suc e) is from half =
        let double = pow-succ' 2 e in
        let positive = pow_pos e in
        let large : 1 < n = omega arith in
        is ∙ double ∙ ap (λ k. 2 * k) (sym (split_unique n e (omega arith) (omega arith))) ∙ sym
        (power_over-more n large)

-- the power over a number that no power of 64 bits reaches
pub power_over_large : (n : ℕ) → 2 ^ 63 < n → n ≤ 2 ^ 64 → power_over n ≡ 2 ^ 64
power_over_large n large fits = power_over-more n (omega arith)
    ∙ ap (λ k. 2 * k) (split_unique n 63 large fits)

-- the split of a number above 1 is the largest power of two below it
pub split_largest : (n : ℕ) → 1 < n → IsLargestPowerBelow n (split_of n)
split_largest n large =
    let bounds = split_bounds n in
    let power = split_power n in
    let below = bounds.below in
    record {
      power = power;
      below = omega arith;
      largest = λ p is lt.
          let s = power.1 in
          let t = is.1 in
          let le = power_below_double is.0 power.0 (omega arith) in
          omega arith;
    }

pub largest_unique : (n k : ℕ) → IsLargestPowerBelow n k → k ≡ split_of n
largest_unique n k is =
    let power = is.power in
    let positive = pow_pos power.0 in
    let e = power.1 in
    let below = is.below in
    let large : 1 < n = omega arith in
    let split = split_largest n large in
    let up = split.largest k power below in
    let down = is.largest (split_of n) split.power split.below in
    omega arith

-- the exponent of a power that lies below another is smaller
pub exponent_below : (e f : ℕ) → 2 ^ e < 2 ^ f → e < f
exponent_below e f lt =
    ⊎_elim
    (λ (less : e < f). less)
    (λ (le : f ≤ e). let more : 2 ^ f ≤ 2 ^ e = pow_mono {i = f} {j = e} le in let no : ⊥ =
    omega arith in absurd no)
    (cases_lt e f)

-- each half of what a power of two bounds is bounded by the power below it
pub record HasHalf (n e : ℕ) : Type 0 where
  pub some : 1 ≤ e
  pub half : split_of n ≤ 2 ^ (e - 1)

pub half_within : (n e : ℕ) → 1 < n → n ≤ 2 ^ e → HasHalf n e
half_within n e more within =
    let power = split_power n in
    let is = power.1 in
    let bounds = split_bounds n in
    let less : power.0 < e = exponent_below power.0 e (omega arith) in
    let up : 2 ^ power.0 ≤ 2 ^ (e - 1) = pow_mono {i = power.0} {j = e - 1} (omega arith) in
    record { some = omega arith; half = omega arith }

-- a power of two above another is at least twice as large
reach : (e f : ℕ) → 2 ^ e < 2 ^ f → 2 ^ suc e ≤ 2 ^ f
reach e f h = let lt = exponent_below e f h in pow_mono {i = suc e} {j = f} (omega arith)

pub power_over_least : (n : ℕ) → IsLeastPowerFrom n (power_over n)
power_over_least n =
    ⊎_elim
    (λ (large : 1 < n). let P : ℕ → Type 0 =
    IsLeastPowerFrom n in subst P (sym (power_over-more n large))
    (more n large))
    (λ (small : n ≤ 1). let P : ℕ → Type 0 =
    IsLeastPowerFrom n in subst P (sym (power_over-one n small))
    (one n small))
    (cases_lt 1 n)
  where
    one : (n : ℕ) → n ≤ 1 → IsLeastPowerFrom n 1
    one n small = record {
      power = (0, refl);
      from = small;
      least = λ q is _. let positive = pow_pos is.0 in let e = is.1 in omega arith;
    }

    more : (n : ℕ) → 1 < n → IsLeastPowerFrom n (2 * split_of n)
    more n large =
        let bounds = split_bounds n in
        let power = split_power n in
        let half = bounds.half in
        record {
          power = (suc power.0, ap (λ k. 2 * k) power.1 ∙ sym (pow-succ' 2 power.0));
          from = half;
          least = λ q is from.
              let s = power.1 in
              let t = is.1 in
              let double = pow-succ' 2 is.0 in
              let up : 2 ^ suc power.0 ≤ 2 ^ is.0 = reach power.0 is.0 (omega arith) in
              let other = pow-succ' 2 power.0 in
              omega arith;
        }

pub least_unique : (n p : ℕ) → IsLeastPowerFrom n p → p ≡ power_over n
least_unique n p is =
    let over = power_over_least n in
    let up = over.least p is.power is.from in
    let down = is.least (power_over n) over.power over.from in
    omega arith
