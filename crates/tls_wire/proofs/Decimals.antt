-- Numbers in decimal: what is read is written so, and what is written so is read.
use Rattle.std.proofs.Common.{◌≡◌, ◌≢◌, ℕ, ◌<◌, ◌≤◌, ◌^◌, Bool, true, false, List, Some, None, Err}
use Rattle.std.proofs.Common.{length, refl, if◌then◌else◌, arith, decimal, get_or, sym, ap, ◌∙◌}
use Rattle.std.proofs.Common.{⊎_elim}
use Rattle.std.specs.Prelude.{nat_lt, ◌&&◌}
use Rattle.std.specs.Str.{IsUtf8, all_ascii_digits}
use Rattle.std.specs.Str.Parse.{digits_value, ParsesUnsigned}
use Rattle.std.proofs.lemmas.Bool.{and_parts, cases_lt, eq-eqb, lt-ltb, ltb-true, ne_eqb}
use Rattle.std.proofs.lemmas.Bool.Decides.{nat_tests}
use Rattle.std.proofs.lemmas.Str.{IsUtf8-from_ascii}
use Rattle.std.proofs.lemmas.Str.Parse.{parse_digits, numerals_by_value, tells_all_ascii_digits}
use Rattle.std.proofs.lemmas.Str.Parse.{IsNumeralModel}
use Rattle.std.proofs.lemmas.Fmt.{IsAscii-from_digits, decimal-digits_value, decimal_digit}
use Rattle.std.proofs.lemmas.Fmt.{decimal_nonempty, digits_decimal, digits_value-decimal}
use Rattle.std.proofs.lemmas.Fmt.{first_decimal}
use Rattle.tls_wire.specs.Decimal.{is_decimal, number_of}

own : IsNumeralModel (λ text. all_ascii_digits text ≡ true) (digits_value 10)
own = numerals_by_value _ tells_all_ascii_digits

-- a text in decimal, in parts
record IsDecimal (text : List ℕ) : Type 0 where
  digits : all_ascii_digits text ≡ true
  some : 0 < length text
  shortest : get_or text 0 0 ≡ 48 → length text ≡ 1

decimal_parts : (text : List ℕ) → is_decimal text ≡ true → IsDecimal text
decimal_parts text test = record {
  digits = grind arith;
  some = grind arith;
  shortest = λ zero. grind (arith, nat_tests);
}

-- what isn't true is the other choice
none_chosen : (test : Bool) (n : ℕ) → (test ≡ true → ⊥) → None ≡ (if test then Some n else None)
none_chosen true n never = absurd (never refl)
none_chosen false n never = refl

some_chosen : (test : Bool) (m n : ℕ) → (if test then Some m else None) ≡ Some n
    → (test ≡ true) × (m ≡ n)
some_chosen true m n e = (refl, cc)
some_chosen false m n e = absurd cc

-- a text in decimal that std doesn't parse is too large
pub refused : {E : Type 0} (text : List ℕ) (e : E) → ParsesUnsigned 64 10 text (Err e)
    → is_decimal text ≡ true
    → None ≡ (if nat_lt (digits_value 10 text) (2 ^ 64) then Some (digits_value 10 text) else None)
refused text e parsed test =
    let parts = decimal_parts text test in
    none_chosen (nat_lt (digits_value 10 text) (2 ^ 64)) (digits_value 10 text) (λ small.
    parse_digits own 64 text (Err e) parsed parts.digits (parts.some, ltb-true _ _ small))

-- a text in decimal is one of characters
pub are_characters : (text : List ℕ) → is_decimal text ≡ true → IsUtf8 text
are_characters text test =
    IsUtf8-from_ascii text (IsAscii-from_digits text
    (own.to text (decimal_parts text test).digits))

-- ---- both ways

-- a text in decimal is that of its number
pub decimal_is : (text : List ℕ) → is_decimal text ≡ true → digits_value 10 text < 2 ^ 64
    → decimal (digits_value 10 text) ≡ text
decimal_is text test small =
    let parts = decimal_parts text test in
    decimal-digits_value own text parts.digits parts.some parts.shortest small

pub number_is_decimal : (text : List ℕ) (n : ℕ) → number_of text ≡ Some n
    → (decimal n ≡ text) × (n < 2 ^ 63)
unfolding number_of
number_is_decimal text n e =
    let step = some_chosen (is_decimal text && nat_lt (digits_value 10 text) (2 ^ 63))
    (digits_value 10 text) n e in
    let tests = and_parts (is_decimal text) (nat_lt (digits_value 10 text) (2 ^ 63)) step.0 in
    let below : digits_value 10 text < 2 ^ 63 = ltb-true _ _ tests.1 in (
      ap decimal (sym step.1) ∙ decimal_is text tests.0 (omega arith),
      omega (arith, step.1),
    )

one_digit : (text : List ℕ) → all_ascii_digits text ≡ true → length text ≡ 1
    → is_decimal text ≡ true
one_digit text digits one =
    let some : 0 < length text = omega arith in
    rw (lt-ltb 0 (length text) some, digits, eq-eqb (length text) 1 one) refl

some_digits : (text : List ℕ) → all_ascii_digits text ≡ true → 0 < length text
    → 48 < get_or text 0 0 → is_decimal text ≡ true
some_digits text digits some first =
    let other : get_or text 0 0 ≢ 48 = omega arith in
    rw (lt-ltb 0 (length text) some, digits, ne_eqb (get_or text 0 0) 48 other)
    (grind (arith, nat_tests))

-- the digits of a number, and the number that they write
pub decimal_digits : (n : ℕ) → n < 2 ^ 64 → all_ascii_digits (decimal n) ≡ true
decimal_digits n small = digits_decimal own n small

pub decimal_value : (n : ℕ) → n < 2 ^ 64 → digits_value 10 (decimal n) ≡ n
decimal_value n small = digits_value-decimal own n small

pub decimal_in_form : (n : ℕ) → n < 2 ^ 64 → is_decimal (decimal n) ≡ true
decimal_in_form n small =
    ⊎_elim
    (λ (more : 0 < n). some_digits (decimal n) (decimal_digits n small)
    (decimal_nonempty n small) (first_decimal n more small))
    (λ (none : n ≤ 0). one_digit (decimal n) (decimal_digits n small)
    (ap length (decimal_digit n (omega arith))))
    (cases_lt 0 n)

pub decimal_is_number : (n : ℕ) → n < 2 ^ 63 → number_of (decimal n) ≡ Some n
unfolding number_of
decimal_is_number n small =
    let fits : n < 2 ^ 64 = omega arith in
    rw (decimal_in_form n fits, decimal_value n fits, lt-ltb n (2 ^ 63) small) refl
