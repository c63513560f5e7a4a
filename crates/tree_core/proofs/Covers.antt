-- The cover of an interval.
use Rattle.std.proofs.Common.{◌≡◌, ℕ, zero, suc, ◌+◌, ◌*◌, ◌-◌, ◌/◌, ◌%◌, ◌^◌, ◌<◌, ◌≤◌, ⊎_elim}
use Rattle.std.proofs.Common.{ltb, Some, None, sym, ◌∙◌, ap, refl, subst, arith}
use Rattle.std.specs.Prelude.{bit_and, bit_xor}
use Rattle.std.specs.Int.{bit_at}
use Rattle.std.specs.Int.Bits.{xor_self}
use Rattle.std.proofs.Math.Nat.{div-eq_of_lt, div-eq_of_lt-le, le-div_iff_mul-le, mod-lt}
use Rattle.std.proofs.Math.Nat.{mul-mod_left, mul-one, mul_assoc, pow-succ'}
use Rattle.std.proofs.Math.Pow.{pow_mono}
use Rattle.std.proofs.lemmas.Bool.{cond-false, cond-true, cond_both, cases_lt, eq-eqb, ltb-false}
use Rattle.std.proofs.lemmas.Bool.{ltb-true, ne_eqb}
use Rattle.std.proofs.lemmas.Nat.{and-not, and_mask, one_shl, pow-add, pow_pos, shr-shr, shr_split}
use Rattle.std.proofs.lemmas.Nat.{xor_lt, xor_shr}
use Rattle.std.proofs.lemmas.Nat.Bits.{bit_at-lt, bit_at-zero, bit_at_xor, same_from_bits}
use Rattle.tree_core.proofs.Powers.{power_over_least}
use Rattle.tree_core.specs.Cover.{CoversInterval, bit_length, clear_low, cover_of}
use Rattle.tree_core.specs.Laws.{IsSubtree}
use Rattle.tree_core.specs.Split.{power_over}

pub record HasLength (n b : ℕ) : Type 0 where
  pub above : n < 2 ^ b
  pub below : 2 ^ b ≤ 2 * n + 1

pub bit_length_bounds : (n : ℕ) → HasLength n (bit_length n)
unfolding bit_length
bit_length_bounds zero = record { above = omega arith; below = omega arith }
bit_length_bounds (suc n) =
    let before = bit_length_bounds n in
    let above = before.above in
    let below = before.below in
    let double = pow-succ' 2 (bit_length n) in
    let next : 2 ^ (bit_length n + 1) ≡ 2 ^ suc (bit_length n) = ap (λ k. 2 ^ k) (omega arith) in
    cond_both (ltb (suc n) (2 ^ bit_length n)) (bit_length n) (bit_length n + 1) (HasLength (suc n))
    (λ e. let lt = ltb-true _ _ e in record { above = lt; below = omega arith })
    (λ e. let le = ltb-false _ _ e in record { above = omega arith; below = omega arith })

-- the power of two over one number is not above that over another that is not below it
length_le : (n b c : ℕ) → n < 2 ^ b → 2 ^ c ≤ 2 * n + 1 → c ≤ b
length_le n b c above below =
    ⊎_elim
    (λ (lt : b < c).
    let more : 2 ^ suc b ≤ 2 ^ c = pow_mono {i = suc b} {j = c} (omega arith) in
    let double = pow-succ' 2 b in
    let none : ⊥ = omega arith in absurd none)
    (λ (le : c ≤ b). le)
    (cases_lt b c)

pub bit_length_unique : (n b : ℕ) → n < 2 ^ b → 2 ^ b ≤ 2 * n + 1 → b ≡ bit_length n
bit_length_unique n b above below =
    let bounds = bit_length_bounds n in
    let up = length_le n b (bit_length n) above bounds.below in
    let down = length_le n (bit_length n) b bounds.above below in
    omega arith

-- two numbers are equal where no bit differs
same_from_xor : (a b : ℕ) → bit_xor a b ≡ 0 → a ≡ b
same_from_xor a b none = same_from_bits a b (λ i.
    let x : (bit_at a i + bit_at b i) % 2 ≡ 0 = sym (bit_at_xor a b i) ∙ ap (λ n. bit_at n i) none
    ∙ bit_at-zero i in
    let p = bit_at-lt a i in
    let q = bit_at-lt b i in
    omega arith)

pub xor_positive : (a b : ℕ) → a < b → 0 < bit_xor a b
xor_positive a b lt =
    ⊎_elim
    (λ (some : 0 < bit_xor a b). some)
    (λ (none : bit_xor a b ≤ 0). let same = same_from_xor a b (omega arith) in let no : ⊥ =
    omega arith in absurd no)
    (cases_lt 0 (bit_xor a b))

-- two numbers with one half are neighbours, where they differ and are in order
neighbours_from : (a b : ℕ) → a / 2 ≡ b / 2 → a ≤ b → 0 < bit_xor a b → b ≡ a + 1
neighbours_from a b halves order differ =
    ⊎_elim
    (λ (lt : a < b). omega arith)
    (λ (le : b ≤ a).
    let same : a ≡ b = omega arith in
    let none : bit_xor a b ≡ 0 = ap (λ n. bit_xor a n) (sym same) ∙ xor_self a in
    let no : ⊥ = omega arith in
    absurd no)
    (cases_lt a b)

-- bit d of x is its highest
pub record IsHighestBit (x d : ℕ) : Type 0 where
  pub set : 2 ^ d ≤ x
  pub above : x < 2 ^ suc d

pub highest_bit : (x b : ℕ) → 0 < x → HasLength x b → IsHighestBit x (b - 1)
highest_bit x zero some length = let above = length.above in let no : ⊥ = omega arith in absurd no
highest_bit x (suc d) some length =
    let below = length.below in
    let above = length.above in
    let double = pow-succ' 2 d in
    let before : 2 ^ (suc d - 1) ≡ 2 ^ d = ap (λ k. 2 ^ k) (omega arith) in
    let back : 2 ^ suc (suc d - 1) ≡ 2 ^ suc d = ap (λ k. 2 ^ k) (omega arith) in
    record { set = omega arith; above = omega arith }

-- without the bits below the highest one that differs, the two numbers are neighbours
pub neighbours : (s t d : ℕ) → s < t → IsHighestBit (bit_xor s t) d → t / 2 ^ d ≡ s / 2 ^ d + 1
neighbours s t d lt bit =
    let positive = pow_pos d in
    let high : s / 2 ^ suc d ≡ t / 2 ^ suc d =
    same_from_xor _ _ (sym (xor_shr s t (suc d)) ∙ div-eq_of_lt bit.above) in
    let low_s : s / 2 ^ d / 2 ^ 1 ≡ s / 2 ^ suc d = shr-shr s d 1
    ∙ ap (λ k. s / 2 ^ k) (omega arith) in
    let low_t : t / 2 ^ d / 2 ^ 1 ≡ t / 2 ^ suc d = shr-shr t d 1
    ∙ ap (λ k. t / 2 ^ k) (omega arith) in
    let set = bit.set in
    let some : 1 ≤ bit_xor s t / 2 ^ d =
    (le-div_iff_mul-le {k = 2 ^ d} {x = 1} {y = bit_xor s t} positive).1 (omega arith) in
    let shifted = xor_shr s t d in
    let order : s / 2 ^ d ≤ t / 2 ^ d =
    (le-div_iff_mul-le {k = 2 ^ d} {x = s / 2 ^ d} {y = t} positive).1 (let split =
    shr_split s d in omega arith) in
    neighbours_from (s / 2 ^ d) (t / 2 ^ d) (low_s ∙ high ∙ sym low_t) order (omega arith)

-- a multiple of a power of two begins a subtree of each length up to that power
pub IsSubtree_multiple : (q i start end : ℕ) → start ≡ q * 2 ^ i → start < end
    → end ≤ start + 2 ^ i → IsSubtree start end
IsSubtree_multiple q i start end is some within =
    let least = power_over_least (end - start) in
    let power = least.power in
    let small : power_over (end - start) ≤ 2 ^ i = least.least (2 ^ i) (i, refl) (omega arith) in
    let exponent : power.0 ≤ i =
    ⊎_elim
    (λ (lt : i < power.0).
    let more : 2 ^ suc i ≤ 2 ^ power.0 = pow_mono {i = suc i} {j = power.0} (omega arith) in
    let double = pow-succ' 2 i in
    let positive = pow_pos i in
    let f = power.1 in
    let no : ⊥ = omega arith in
    absurd no)
    (λ (le : power.0 ≤ i). le)
    (cases_lt i power.0) in
    let parts : 2 ^ i ≡ 2 ^ (i - power.0) * 2 ^ power.0 =
    ap (λ k. 2 ^ k) (omega arith) ∙ pow-add 2 (i - power.0) power.0 in
    let multiple : start ≡ (q * 2 ^ (i - power.0)) * 2 ^ power.0 =
    is ∙ ap (λ p. q * p) parts ∙ sym (mul_assoc q (2 ^ (i - power.0)) (2 ^ power.0)) in
    record {
      inhabited = some;
      aligned = (
        power_over (end - start),
        (
          least,
          ap (λ p. start % p) power.1
              ∙ ap (λ n. n % 2 ^ power.0) multiple
              ∙ mul-mod_left (q * 2 ^ (i - power.0)) (2 ^ power.0),
        ),
      );
    }

-- a number above the last multiple of a power before middle is that multiple without its low bits
left_part : (s middle b k : ℕ) → middle ≡ (k + 1) * 2 ^ b → s < middle → middle ≤ s + 2 ^ b
    → clear_low s b + 2 ^ b ≡ middle
left_part s middle b k is before near =
    let quotient : s / 2 ^ b ≡ k = div-eq_of_lt-le {k = k} (2 ^ b) {m =
    s} (omega arith) (omega arith) in
    ap (λ n. n * 2 ^ b + 2 ^ b) quotient ∙ sym (is ∙ omega arith)

pub covers_one : (start end : ℕ) → end - start ≡ 1
    → CoversInterval start end (record {
      first = record { start = start; end = end };
      second =
          None;
    })
covers_one start end one = record {
  begins = omega arith;
  holds = omega arith;
  first = IsSubtree_multiple start 0 start end (sym (mul-one start)) (omega arith) (omega arith);
  rest = refl;
}

pub covers_two : (s t end d b : ℕ) → s < t → end ≡ t + 1 → IsHighestBit (bit_xor s t) d
    → b ≡ bit_length (2 ^ d - 1 - bit_and s (2 ^ d - 1))
    → CoversInterval s end (record {
      first = record { start = clear_low s b; end = clear_low t d };
      second =
          Some (record { start = clear_low t d; end = end });
    })
covers_two s t end d b lt end_is bit b_is =
    let next = neighbours s t d lt bit in
    let positive = pow_pos d in
    let middle_is : t / 2 ^ d * 2 ^ d ≡ (s / 2 ^ d + 1) * 2 ^ d = ap (λ q. q * 2 ^ d) next in
    let mask = and_mask s d in
    let split_s = shr_split s d in
    let split_t = shr_split t d in
    let rest_s : s % 2 ^ d < 2 ^ d = mod-lt s positive in
    let rest_t : t % 2 ^ d < 2 ^ d = mod-lt t positive in
    let P : ℕ → Type 0 = HasLength (2 ^ d - 1 - bit_and s (2 ^ d - 1)) in
    let length : HasLength (2 ^ d - 1 - bit_and s (2 ^ d - 1)) b =
    subst P (sym b_is) (bit_length_bounds _) in
    let above = length.above in
    let below = length.below in
    let lacks : 2 ^ d - 1 - bit_and s (2 ^ d - 1) + 1 + s ≡ t / 2 ^ d * 2 ^ d = omega arith in
    let within : b ≤ d = length_le (2 ^ d - 1) d b (omega arith) (omega arith) in
    let parts : 2 ^ d ≡ 2 ^ (d - b) * 2 ^ b = ap (λ k. 2 ^ k) (omega arith) ∙ pow-add 2 (d - b) b in
    let some = pow_pos (d - b) in
    let a = s / 2 ^ d in
    let q = 2 ^ (d - b) in
    let count : (s / 2 ^ d + 1) * 2 ^ (d - b) ≡ (s / 2 ^ d * 2 ^ (d - b) + 2 ^ (d - b) - 1) + 1 =
    omega arith in
    let multiple : t / 2 ^ d * 2 ^ d ≡ ((s / 2 ^ d * 2 ^ (d - b) + 2 ^ (d - b) - 1) + 1) * 2 ^ b =
    middle_is ∙ ap (λ p. (s / 2 ^ d + 1) * p) parts
    ∙ sym (mul_assoc (s / 2 ^ d + 1) (2 ^ (d - b)) (2 ^ b))
    ∙ ap (λ m. m * 2 ^ b) count in
    let left : clear_low s b + 2 ^ b ≡ t / 2 ^ d * 2 ^ d =
    left_part s (t / 2 ^ d * 2 ^ d) b (s / 2 ^ d * 2 ^ (d - b) + 2 ^ (d - b) - 1) multiple
    (omega arith)
    (omega arith) in
    let capacity = pow_pos b in
    let split_low = shr_split s b in
    record {
      begins = omega arith;
      holds = omega arith;
      first = IsSubtree_multiple (s / 2 ^ b) b (clear_low s b) (clear_low t d) refl (omega arith)
          (omega arith);
      rest = (
        refl,
        (
          refl,
          IsSubtree_multiple (t / 2 ^ d) d (clear_low t d) end refl (omega arith)
              (omega arith),
        ),
      );
    }

pub cover_of-one : (start end : ℕ) → end - start ≡ 1
    → cover_of start end ≡ record { first = record { start = start; end = end }; second = None }
unfolding cover_of
cover_of-one start end one = cond-true _ _ _ (eq-eqb (end - start) 1 one)

-- The code, for an interval of more than one entry.

-- the highest bit that differs, and that it is one of 64
pub difference : (start last : ℕ) → start < last → last < 2 ^ 64
    → IsHighestBit (bit_xor start last) (bit_length (bit_xor start last) - 1)
    × ((1 ≤ bit_length (bit_xor start last)) × (bit_length (bit_xor start last) ≤ 64))
difference start last order fits =
    let some = xor_positive start last order in
    let bound = xor_lt 64 start last (omega arith) fits in
    let length = bit_length_bounds (bit_xor start last) in (
      highest_bit (bit_xor start last) (bit_length (bit_xor start last)) some length,
      (
        length_some (bit_xor start last) (bit_length (bit_xor start last)) some length.above,
        length_le (bit_xor start last) 64 (bit_length (bit_xor start last)) bound length.below,
      ),
    )
  where
    length_some : (x b : ℕ) → 0 < x → x < 2 ^ b → 1 ≤ b
    length_some x zero some above = let no : ⊥ = omega arith in absurd no
    length_some x (suc b) some above = omega arith

-- the bits below d that a number of 64 bits lacks, by its complement
pub lacking : (n d : ℕ) → n < 2 ^ 64 → d < 64
    → bit_and (2 ^ 64 - 1 - n) (1 * 2 ^ d % 2 ^ 64 - 1) ≡ 2 ^ d - 1 - bit_and n (2 ^ d - 1)
lacking n d fits small =
    let power = one_shl d 64 small in
    let positive = pow_pos d in
    let capacity : 2 ^ suc d ≤ 2 ^ 64 = pow_mono {i = suc d} {j = 64} (omega arith) in
    let double = pow-succ' 2 d in
    let both = and-not 64 n (2 ^ d - 1) fits (omega arith) in
    ap (λ m. bit_and (2 ^ 64 - 1 - n) (m - 1)) power ∙ omega arith

pub lacking_within : (n d : ℕ) → bit_length (2 ^ d - 1 - bit_and n (2 ^ d - 1)) ≤ d
lacking_within n d =
    let positive = pow_pos d in
    let length = bit_length_bounds (2 ^ d - 1 - bit_and n (2 ^ d - 1)) in
    let below = length.below in
    length_le (2 ^ d - 1) d (bit_length (2 ^ d - 1 - bit_and n (2 ^ d - 1))) (omega arith)
    (omega arith)

pub cover_of-two : (start end split left left_start middle : ℕ) → (end - start ≡ 1 → ⊥)
    → split ≡ bit_length (bit_xor start (end - 1)) - 1
    → left ≡ bit_length (2 ^ split - 1 - bit_and start (2 ^ split - 1))
    → middle ≡ clear_low (end - 1) split → left_start ≡ clear_low start left
    → record {
      first = record { start = left_start; end = middle };
      second = Some
          (record { start = middle; end = end });
    } ≡ cover_of start end
unfolding cover_of
cover_of-two start end split left left_start middle several split_is left_is middle_is start_is =
    rw (start_is, middle_is, left_is, split_is)
    (sym (cond-false _ _ _ (ne_eqb (end - start) 1 several)))

pub covers_found : (start end split left left_start middle : ℕ) → start < end
    → (end - start ≡ 1 → ⊥) → end < 2 ^ 64
    → split ≡ bit_length (bit_xor start (end - 1)) - 1
    → left ≡ bit_length (2 ^ split - 1 - bit_and start (2 ^ split - 1))
    → middle ≡ clear_low (end - 1) split → left_start ≡ clear_low start left
    → CoversInterval start end (record {
      first = record { start = left_start; end = middle };
      second =
          Some (record { start = middle; end = end });
    })
covers_found start end split left left_start middle before several fits split_is left_is
    middle_is start_is =
    let order : start < end - 1 = omega arith in
    let found = difference start (end - 1) order (omega arith) in
    let highest : IsHighestBit (bit_xor start (end - 1)) split =
    (let P : ℕ → Type 0 = IsHighestBit (bit_xor start (end - 1)) in subst P
    (sym split_is) found.0) in
    rw (start_is, middle_is) (covers_two start (end - 1) end split left order
    (omega arith) highest left_is)
