-- The encoding of a number and its reader are each other's.
use Rattle.std.proofs.Common.{◌≡◌, ◌≢◌, ℕ, zero, suc, ◌+◌, ◌-◌, ◌*◌, ◌/◌, ◌%◌, ◌^◌, ◌<◌, ◌≤◌, true}
use Rattle.std.proofs.Common.{false, [], ◌∷◌, length, get_or, Option, Some, None, Ok, refl, sym, ap}
use Rattle.std.proofs.Common.{subst, ◌∙◌, arith, inl, inr, ◌⊎◌, ne_eqb, le-ltb, lt-ltb, ltb-true}
use Rattle.std.proofs.Common.{pow-suc, mul-le-mul_right, zero-mul, zero-add, true≢false}
use Rattle.std.proofs.Common.{div-add-mod', add-one}
use Rattle.std.specs.Prelude.{if◌then◌else◌, nat_lt}
use Rattle.std.proofs.lemmas.Bool.{cases_lt}
use Rattle.std.specs.Int.{w64, to_be_bytes, from_be_bytes}
use Rattle.std.proofs.lemmas.Nat.{mul-add-lt, from_be_bytes-to_be_bytes_8}
use Rattle.std.proofs.Math.Nat.{pow-le-pow_right, div-lt_iff_lt-mul, pow-zero}
use Rattle.byte_formats.specs.Types.{Text}
use Rattle.byte_formats.specs.Offsets.{IsBytes}
use Rattle.byte_formats.specs.Numbers.{value, digits}
use Rattle.byte_formats.proofs.Steps.{guard_ok, ok_is, chosen, IsBytes-rest}
use Rattle.byte_formats.proofs.Digits.{value-lt, value-digits, digits-value, power_pos}
use Rattle.byte_formats.proofs.Digits.{length-digits}
use Rattle.der_core.specs.declared.fault.DerError.{DerError}
use Rattle.der_core.specs.declared.fault.DerError.TheVariants.{BadInteger}
use Rattle.der_core.specs.Contents.{is_padded, if_small, unsigned_of}
use Rattle.der_core.specs.Integers.{width_from, integer}

-- n has m + 1 bytes: it fits them with a highest bit of 0, and doesn't fit fewer.
pub record HasWidth (n m : ℕ) : Type 0 where
  pub fits : n < 128 * 256 ^ m
  pub fewest : (m ≡ 0) ⊎ (128 * 256 ^ (m - 1) ≤ n)

power_le : (a b : ℕ) → a ≤ b → 256 ^ a ≤ 256 ^ b
power_le a b le = pow-le-pow_right (omega arith) le

-- Fewer bytes don't hold it.
not_fewer : (n m j : ℕ) → HasWidth n m → j < m → 128 * 256 ^ j ≤ n
not_fewer n m j w lt =
    elim w.fewest [
      | inl none ↦ absurd (omega arith)
      | inr large ↦
          let le : j ≤ m - 1 = omega arith in
          omega (arith, large, power_le j (m - 1) le)
    ]

width_is : (fuel k m n : ℕ) → k ≤ m → m ≤ k + fuel → HasWidth n m → width_from fuel k n ≡ m + 1
width_is zero k m n low high w = omega arith
width_is (suc fuel) k m n low high w =
    elim (cases_lt k m) [
      | inl lt ↦
          let test : nat_lt n (128 * 256 ^ k) ≡ false = le-ltb _ _ (not_fewer n m k w lt) in
          rw test (width_is fuel (k + 1) m n (omega arith) (omega arith) w)
      | inr le ↦
          let same : m ≡ k = omega arith in
          let P : ℕ → Type 0 = λ j. n < 128 * 256 ^ j in
          let test : nat_lt n (128 * 256 ^ k) ≡ true = lt-ltb _ _ (subst P same w.fits) in
          rw (test, same) refl
    ]

width_found : (fuel k n : ℕ) → n < 128 * 256 ^ (k + fuel) → (k ≡ 0) ⊎ (128 * 256 ^ (k - 1) ≤ n)
    → (m : ℕ) × (width_from fuel k n ≡ m + 1) × HasWidth n m
width_found zero k n fits fewest =
    let same : k + 0 ≡ k = omega arith in
    let P : ℕ → Type 0 = λ j. n < 128 * 256 ^ j in
    (k, refl, record { fits = subst P same fits; fewest = fewest })
width_found (suc fuel) k n fits fewest =
    elim (cases_lt n (128 * 256 ^ k)) [
      | inl lt ↦ (k, rw (lt-ltb n (128 * 256 ^ k) lt) refl, record { fits = lt; fewest = fewest })
      | inr le ↦
          let same : k + suc fuel ≡ (k + 1) + fuel = omega arith in
          let back : (k + 1) - 1 ≡ k = omega arith in
          let P : ℕ → Type 0 = λ j. n < 128 * 256 ^ j in
          let Q : ℕ → Type 0 = λ j. 128 * 256 ^ j ≤ n in
          let more = width_found fuel (k + 1) n (subst P same fits) (inr (subst Q (sym back) le)) in
          (more.0, rw (le-ltb n (128 * 256 ^ k) le) more.1, more.2)
    ]

-- Contents that begin with 0 and aren't padded have the sign bit in their second byte.
plain_second : (a b : ℕ) (rest : Text) → a ≡ 0 → is_padded (a ∷ b ∷ rest) ≡ false → 128 ≤ b
plain_second a b rest zero_is plain =
    elim (cases_lt b 128) [
      | inl lt ↦
          let padded : is_padded (a ∷ b ∷ rest) ≡ true = rw (zero_is, lt-ltb b 128 lt) refl in
          absurd (true≢false (sym padded ∙ plain))
      | inr le ↦ le
    ]

plain_large : (a b : ℕ) (rest : Text) → is_padded (a ∷ b ∷ rest) ≡ false
    → 128 * 256 ^ length rest ≤ a * 256 ^ suc
    (length rest) + (b * 256 ^ length rest + value 256 rest)
plain_large a b rest plain =
    elim (cases_lt 0 a) [
      | inl pos ↦
          let one : 1 * 256 ^ suc (length rest) ≤ a * 256 ^ suc (length rest) =
          mul-le-mul_right (256 ^ suc (length rest)) pos in
          omega (arith, one, pow-suc 256 (length rest))
      | inr none ↦
          let one : 128 * 256 ^ length rest ≤ b * 256 ^ length rest =
          mul-le-mul_right (256 ^ length rest) (plain_second a b rest (omega arith) plain) in
          omega (arith, one)
    ]

-- Contents that aren't padded and don't begin with the sign bit have the width of their number.
contents_width : (a : ℕ) (rest : Text) → IsBytes (a ∷ rest) → a < 128 → is_padded (a ∷ rest) ≡ false
    → HasWidth (value 256 (a ∷ rest)) (length rest)
contents_width a [] h low plain = record { fits = rw pow-zero (omega arith); fewest = inl refl }
contents_width a (b ∷ rest) h low plain =
    let others : value 256 (b ∷ rest) < 256 ^ suc (length rest) =
    value-lt 256 (b ∷ rest) (IsBytes-rest a (b ∷ rest) h) in
    let less = mul-add-lt a (256 ^ suc (length rest)) (value 256 (b ∷ rest)) 128 low others in
    let back : suc (length rest) - 1 ≡ length rest = omega arith in
    record { fits = omega (arith, less); fewest = inr (rw back (plain_large a b rest plain)) }

small_width : (n m : ℕ) → n < 2 ^ 64 → HasWidth n m → m ≤ 8
small_width n m small w =
    elim (cases_lt 8 m) [
      | inl lt ↦ let large = not_fewer n m 8 w lt in absurd (omega arith)
      | inr le ↦ le
    ]

-- The encoding has the width of the number.
integer_is : (n m : ℕ) → n < 2 ^ 64 → HasWidth n m → integer n ≡ digits 256 (m + 1) n
unfolding integer
integer_is n m small w = ap (λ (k : ℕ). digits 256 k n) (width_is 8 0 m n (omega arith)
    (small_width n m small w) w)

integer_width : (n : ℕ) → n < 2 ^ 64 → (m : ℕ) × HasWidth n m
integer_width n small =
    let found = width_found 8 0 n (omega arith) (inl refl) in
    (found.0, found.2)

-- The contents that read as a number are its encoding.
contents_are : (a : ℕ) (rest : Text) → IsBytes (a ∷ rest) → a < 128 → is_padded (a ∷ rest) ≡ false
    → value 256 (a ∷ rest) < 2 ^ 64
    → a ∷ rest ≡ integer (value 256 (a ∷ rest))
contents_are a rest h low plain small =
    let n : ℕ = value 256 (a ∷ rest) in
    let encoded = integer_is n (length rest) small (contents_width a rest h low plain) in
    let same : digits 256 (suc (length rest)) n ≡ a ∷ rest = digits-value 256 (a ∷ rest) h in
    sym (encoded ∙ (ap (λ (k : ℕ). digits 256 k n) (add-one (length rest)) ∙ same))

small_is : (v n : ℕ) → if_small v ≡ Some n → (v < 2 ^ 64) × (v ≡ n)
small_is v n e =
    let none : Option ℕ = None in
    elim (chosen (nat_lt v (2 ^ 64)) (Some v) none (Some n) e) [
      | inl c ↦ (ltb-true v (2 ^ 64) c.0, cc (c.1))
      | inr c ↦ absurd (cc (c.1))
    ]

pub unsigned_takes : (place : ℕ) (contents : Text) (n : ℕ) → IsBytes contents
    → unsigned_of place contents ≡ Ok (Some n) → (contents ≡ integer n) × (n < 2 ^ 64)
unfolding unsigned_of
unsigned_takes place [] n h e = absurd cc
unsigned_takes place (a ∷ rest) n h e =
    let v : ℕ = value 256 (a ∷ rest) in
    let none : Option ℕ = None in
    let g = guard_ok (is_padded (a ∷ rest)) (BadInteger place) (Ok (if nat_lt a 128 then if_small v
    else none)) (Some n) e in
    let found : (if nat_lt a 128 then if_small v else none) ≡ Some n =
    ok_is DerError (if nat_lt a 128 then if_small v else none) (Some n) g.1 in
    elim (chosen (nat_lt a 128) (if_small v) none (Some n) found) [
      | inl c ↦
          let s = small_is v n c.1 in
          let P : ℕ → Type 0 = λ k. (a ∷ rest ≡ integer k) × (k < 2 ^ 64) in
          subst P s.1 (contents_are a rest h (ltb-true a 128 c.0) g.0 s.0, s.0)
      | inr c ↦ absurd (cc (c.1))
    ]

encoding_plain : (n m : ℕ) → HasWidth n m → is_padded (digits 256 (suc m) n) ≡ false
encoding_plain n zero w = refl
encoding_plain n (suc k) w =
    let a : ℕ = n / 256 ^ suc k in
    let b : ℕ = n % 256 ^ suc k / 256 ^ k in
    let low : a < 128 = (div-lt_iff_lt-mul (power_pos 256 (suc k) (omega arith))).1 w.fits in
    let large = not_fewer n (suc k) k w (omega arith) in
    let not_sign : a ≢ 255 = omega arith in
    elim (cases_lt 0 a) [
      | inl pos ↦ let other : a ≢ 0 = omega arith in rw (
        ne_eqb a 0 other,
        ne_eqb a 255 not_sign,
      ) refl
      | inr none ↦
          let zero_is : a ≡ 0 = omega arith in
          let whole : a * 256 ^ suc k + n % 256 ^ suc k ≡ n = div-add-mod' n (256 ^ suc k) in
          let same : n % 256 ^ suc k ≡ n = rw (zero_is, zero-mul, zero-add) at whole in
          let high : 128 ≤ b = high_second n k (n % 256 ^ suc k) same large in
          rw (le-ltb b 128 high, ne_eqb a 255 not_sign, zero_is) refl
    ]
  where
    high_second : (n k r : ℕ) → r ≡ n → 128 * 256 ^ k ≤ n → 128 ≤ r / 256 ^ k
    high_second n k r same large =
        elim (cases_lt (r / 256 ^ k) 128) [
          | inl lt ↦ let below = (div-lt_iff_lt-mul (power_pos 256 k (omega arith))).0 lt in absurd
              (omega arith)
          | inr le ↦ le
        ]

pub unsigned_again : (place n : ℕ) → n < 2 ^ 64 → unsigned_of place (integer n) ≡ Ok (Some n)
unfolding unsigned_of
unsigned_again place n small =
    let w = integer_width n small in
    let m : ℕ = w.0 in
    let encoded : integer n ≡ digits 256 (suc m) n = integer_is n m small w.1
    ∙ ap (λ (k : ℕ). digits 256 k n) (add-one m) in
    let low : n / 256 ^ m < 128 = (div-lt_iff_lt-mul (power_pos 256 m (omega arith))).1 w.1.fits in
    let below : n < 256 ^ suc m = omega (arith, w.1.fits, pow-suc 256 m) in
    let same : value 256 (digits 256 (suc m) n) ≡ n =
    value-digits 256 (suc m) n (omega arith) below in
    ap (unsigned_of place) encoded ∙ rw (
      encoding_plain n m w.1,
      lt-ltb (n / 256 ^ m) 128 low,
      same,
      lt-ltb n (2 ^ 64) small,
    ) refl

-- Contents that aren't padded and don't begin with the sign bit are the encoding of their number.
pub plain_contents : (bytes : Text) (n : ℕ) → IsBytes bytes → 0 < length bytes
    → get_or bytes 0 0 < 128 → is_padded bytes ≡ false → value 256 bytes ≡ n → n < 2 ^ 64
    → bytes ≡ integer n
plain_contents [] n h some low plain same small = absurd (omega arith)
plain_contents (a ∷ rest) n h some low plain same small =
    let P : ℕ → Type 0 = λ k. a ∷ rest ≡ integer k in
    subst P same (contents_are a rest h low plain (rw same small))

eight_bytes : (a b c d e f g h : ℕ) → value 256 (0 ∷ a ∷ b ∷ c ∷ d ∷ e ∷ f ∷ g ∷ h ∷ [])
    ≡ from_be_bytes w64 (a ∷ b ∷ c ∷ d ∷ e ∷ f ∷ g ∷ h ∷ [])
eight_bytes a b c d e f g h = omega arith

-- The bytes of a number of 64 bits represent it.
pub value_of_bytes : (n : ℕ) → n < 2 ^ 64 → value 256 (0 ∷ to_be_bytes w64 n) ≡ n
value_of_bytes n small = eight_bytes _ _ _ _ _ _ _ _ ∙ from_be_bytes-to_be_bytes_8 n small

-- The encoding has at most nine bytes.
pub length-integer : (n : ℕ) → n < 2 ^ 64 → length (integer n) ≤ 9
length-integer n small =
    let w = integer_width n small in
    omega (
      arith,
      small_width n w.0 small w.1,
      ap length (integer_is n w.0 small w.1),
      length-digits 256 (w.0 + 1) n,
    )
