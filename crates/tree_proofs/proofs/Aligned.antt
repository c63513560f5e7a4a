-- Intervals that begin at a multiple of a power of two and are not longer than it: they are the
-- subtrees, and their halves are subtrees again.
use Rattle.std.proofs.Common.{◌≡◌, ℕ, zero, suc, ◌+◌, ◌*◌, ◌-◌, ◌/◌, ◌%◌, ◌^◌, ◌<◌, ◌≤◌, ⊎_elim}
use Rattle.std.proofs.Common.{true, sym, ◌∙◌, ap, arith}
use Rattle.std.proofs.Math.Nat.{mul-le-mul_right, mul_assoc, pow-succ', div-add-mod'}
use Rattle.std.proofs.Math.Pow.{pow_mono}
use Rattle.std.proofs.lemmas.Bool.{cases_lt}
use Rattle.std.proofs.lemmas.Nat.{div-add-mod', pow-add, pow_pos}
use Rattle.tree_core.proofs.Covers.{IsSubtree_multiple}
use Rattle.tree_core.proofs.Powers.{exponent_below, split_bounds, split_power}
use Rattle.tree_core.proofs.Subtrees.{is_subtree-from, is_subtree_iff}
use Rattle.tree_core.specs.Laws.{IsSubtree}
use Rattle.tree_core.specs.Split.{split_of}
use Rattle.tree_core.specs.Subtree.{is_subtree}
use Rattle.tree_proofs.specs.Full.{HasHalves}

-- an interval that begins at a multiple of a power of two and is not longer than that power
pub record IsAligned (start end : ℕ) : Type 0 where
  pub inhabited : start < end
  pub exponent : ℕ
  pub multiple : ℕ
  pub begins : start ≡ multiple * 2 ^ exponent
  pub within : end ≤ start + 2 ^ exponent

pub IsAligned-from_words : (start end : ℕ) → IsSubtree start end → IsAligned start end
IsAligned-from_words start end is =
    let power = is.aligned.0 in
    let least = is.aligned.1.0 in
    let e = least.power.0 in
    let power_is : is.aligned.0 ≡ 2 ^ least.power.0 = least.power.1 in
    let from : end - start ≤ is.aligned.0 = least.from in
    let some = is.inhabited in
    let rest : start % is.aligned.0 ≡ 0 = is.aligned.1.1 in
    let parts : start / is.aligned.0 * is.aligned.0 + start % is.aligned.0 ≡ start =
    div-add-mod' start is.aligned.0 in
    let whole : start ≡ start / is.aligned.0 * is.aligned.0 = omega arith in
    record {
      inhabited = some;
      exponent = e;
      multiple = start / power;
      begins = whole ∙ ap (λ p. start / power * p) power_is;
      within = omega arith;
    }

pub IsAligned-from : (start end : ℕ) → is_subtree start end ≡ true → IsAligned start end
IsAligned-from start end is =
    let iff = is_subtree_iff start end in
    IsAligned-from_words start end (iff.0 is)

pub IsAligned-is : (start end : ℕ) → IsAligned start end → is_subtree start end ≡ true
IsAligned-is start end is =
    is_subtree-from start end
    (IsSubtree_multiple is.multiple is.exponent start end is.begins is.inhabited is.within)

-- the first entries of a list
pub IsAligned-first : (end : ℕ) → 0 < end → IsAligned 0 end
IsAligned-first end some =
    let bounds = split_bounds end in
    let power = split_power end in
    let is = power.1 in
    let double = pow-succ' 2 power.0 in
    record {
      inhabited = some;
      exponent = suc power.0;
      multiple = 0;
      begins = omega arith;
      within = omega arith;
    }

-- a smaller power divides a larger one
pub power_parts : (e f : ℕ) → e ≤ f → 2 ^ f ≡ 2 ^ (f - e) * 2 ^ e
power_parts e f le = ap (λ k. 2 ^ k) (omega arith) ∙ pow-add 2 (f - e) e

pub record IsHalved (low middle high : ℕ) : Type 0 where
  pub left : IsAligned low middle
  pub right : IsAligned middle high

-- an aligned interval of more than one entry is split into two
pub IsAligned-halves : (low high : ℕ) → IsAligned low high → low + 1 < high
    → IsHalved low (low + split_of (high - low)) high
IsAligned-halves low high is more =
    let power = split_power (high - low) in
    let e = power.0 in
    let power_is : split_of (high - low) ≡ 2 ^ power.0 = power.1 in
    let bounds = split_bounds (high - low) in
    let begins = is.begins in
    let within = is.within in
    let smaller : 2 ^ power.0 < 2 ^ is.exponent = omega arith in
    let less : power.0 < is.exponent = exponent_below power.0 is.exponent smaller in
    let parts : 2 ^ is.exponent ≡ 2 ^ (is.exponent - power.0) * 2 ^ power.0 =
    power_parts power.0 is.exponent (omega arith) in
    let q = is.multiple * 2 ^ (is.exponent - power.0) in
    let here : low ≡ is.multiple * 2 ^ (is.exponent - power.0) * 2 ^ power.0 =
    begins ∙ ap (λ p. is.multiple * p) parts
    ∙ sym (mul_assoc is.multiple (2 ^ (is.exponent - power.0)) (2 ^ power.0)) in
    record {
      left = record {
        inhabited = omega arith;
        exponent = e;
        multiple = q;
        begins = here;
        within = omega arith;
      };
      right = record {
        inhabited = omega arith;
        exponent = e;
        multiple = q + 1;
        begins = omega arith;
        within = omega arith;
      };
    }

-- an interval that starts after a split, counted from there
pub IsAligned-right : (start end n e : ℕ) → IsAligned start end → end ≤ n → n ≤ 2 * 2 ^ e
    → 2 ^ e ≤ start → IsAligned (start - 2 ^ e) (end - 2 ^ e)
IsAligned-right start end n e is inside half following =
    let some = is.inhabited in
    let begins = is.begins in
    let within = is.within in
    let i = is.exponent in
    let q = is.multiple in
    ⊎_elim
    (λ (large : e < is.exponent).
    let more : 2 ^ suc e ≤ 2 ^ is.exponent = pow_mono {i = suc e} {j = is.exponent} (omega arith) in
    let double = pow-succ' 2 e in
    let positive = pow_pos e in
    none_at is.multiple (2 ^ is.exponent) start begins (omega arith) (omega arith))
    (λ (small : is.exponent ≤ e).
    let parts : 2 ^ e ≡ 2 ^ (e - is.exponent) * 2 ^ is.exponent = power_parts is.exponent e small in
    record {
      inhabited = omega arith;
      exponent = i;
      multiple = q - 2 ^ (e - i);
      begins = minus q (2 ^ (e - i)) (2 ^ i) start (2 ^ e) begins parts;
      within = omega arith;
    })
    (cases_lt e is.exponent)
  where
    none_at : (q p s : ℕ) → s ≡ q * p → 0 < s → s < p → IsAligned (start - 2 ^ e) (end - 2 ^ e)
    none_at zero p s is some below = let none : ⊥ = omega arith in absurd none
    none_at (suc q) p s is some below = let none : ⊥ = omega arith in absurd none

    minus : (q r p s k : ℕ) → s ≡ q * p → k ≡ r * p → s - k ≡ (q - r) * p
    minus q r p s k s_is k_is =
        ⊎_elim
        (λ (less : q < r).
        let le : q * p ≤ r * p = mul-le-mul_right p (omega arith) in
        let none : q - r ≡ 0 = omega arith in
        let product : (q - r) * p ≡ 0 * p = ap (λ x. x * p) none in
        omega arith)
        (λ (le : r ≤ q).
        let parts : q ≡ (q - r) + r = omega arith in
        let product : q * p ≡ ((q - r) + r) * p = ap (λ x. x * p) parts in
        omega arith)
        (cases_lt q r)

-- an interval that holds a split starts at 0
pub IsAligned-over : (start end n e : ℕ) → IsAligned start end → end ≤ n → n ≤ 2 * 2 ^ e
    → start < 2 ^ e → 2 ^ e < end → start ≡ 0
IsAligned-over start end n e is inside half before following =
    let begins = is.begins in
    let within = is.within in
    ⊎_elim
    (λ (large : e < is.exponent).
    let more : 2 ^ suc e ≤ 2 ^ is.exponent = pow_mono {i = suc e} {j = is.exponent} (omega arith) in
    let double = pow-succ' 2 e in
    first is.multiple (2 ^ is.exponent) start begins (omega arith))
    (λ (small : is.exponent ≤ e).
    let parts : 2 ^ e ≡ 2 ^ (e - is.exponent) * 2 ^ is.exponent = power_parts is.exponent e small in
    let near : start + 2 ^ is.exponent ≤ 2 ^ e =
    next is.multiple (2 ^ (e - is.exponent)) (2 ^ is.exponent) start (2 ^ e) begins parts before in
    let none : ⊥ = omega arith in absurd none)
    (cases_lt e is.exponent)
  where
    first : (q p s : ℕ) → s ≡ q * p → s < p → s ≡ 0
    first zero p s is below = omega arith
    first (suc q) p s is below = let none : ⊥ = omega arith in absurd none

    next : (q r p s k : ℕ) → s ≡ q * p → k ≡ r * p → s < k → s + p ≤ k
    next q r p s k s_is k_is below =
        ⊎_elim
        (λ (less : q < r).
        let le : (q + 1) * p ≤ r * p = mul-le-mul_right p (omega arith) in
        omega arith)
        (λ (le : r ≤ q).
        let more : r * p ≤ q * p = mul-le-mul_right p le in
        let none : ⊥ = omega arith in absurd none)
        (cases_lt q r)

-- so a subtree is split into two
pub halves_valid : (start middle end : ℕ) → is_subtree start end ≡ true → start + 1 < end
    → middle ≡ start + split_of (end - start) → HasHalves start middle end
halves_valid start middle end valid more is =
    let halves = IsAligned-halves start end (IsAligned-from start end valid) more in
    let left = halves.left in
    let right = halves.right in
    let from = left.inhabited in
    let below = right.inhabited in
    record {
      split = is;
      from = omega arith;
      below = omega arith;
      left = ap (is_subtree start) is ∙ IsAligned-is start _ halves.left;
      right = ap (λ m. is_subtree m end) is ∙ IsAligned-is _ end halves.right;
    }

pub first_valid : (size : ℕ) → 0 < size → is_subtree 0 size ≡ true
first_valid size some = IsAligned-is 0 size (IsAligned-first size some)
