-- Dates and times of day, written in a form and read again.
use Rattle.std.proofs.Common.{◌≡◌, ℕ, ◌+◌, ◌-◌, ◌*◌, ◌/◌, ◌%◌, ◌<◌, ◌≤◌, ◌==◌, ◌&&◌, Bool, true, []}
use Rattle.std.proofs.Common.{◌∷◌, ◌++◌, refl, sym, ap, ◌∙◌, arith}
use Rattle.std.proofs.lemmas.Bool.{and_parts, eqb-true}
use Rattle.std.proofs.lemmas.Bool.Decides.{nat_tests}
use Rattle.std.specs.Char.{is_ascii_digit}
use Rattle.std.specs.Cmp.Derive.{both_true}
use Rattle.byte_formats.specs.Types.{Text}
use Rattle.cert_time.specs.declared.civil.CivilTime.{CivilTime}
use Rattle.cert_time.specs.Forms.{fits_byte, fits_form, two_digits, four_digits, HasDigits}
use Rattle.cert_time.specs.Texts.{text_form, text_parts, text_with}
use Rattle.cert_time.specs.Times.{utc_form, utc_parts, utc_with, general_form, general_parts}
use Rattle.cert_time.specs.Times.{general_with, full_year}
use Rattle.cert_time.proofs.Forms.{fits_form-length}
use Rattle.cert_time.proofs.UnixTimes.{same_civil}

-- each byte of a text fits the same offset of the form
EachFits : Text → Text → Type 0
EachFits (f ∷ form) (b ∷ text) = (fits_byte f b ≡ true) × EachFits form text
EachFits _ _ = Unit {0}

each_fits : (form text : Text) → fits_form form text ≡ true → EachFits form text
unfolding EachFits
each_fits [] [] h = tt
each_fits [] (b ∷ text) h = tt
each_fits (f ∷ form) [] h = tt
each_fits (f ∷ form) (b ∷ text) h =
    let p = and_parts (fits_byte f b) (fits_form form text) h in (p.0, each_fits form text p.1)

-- 1. What is read in a form is written so again.

digit : (b : ℕ) → is_ascii_digit b ≡ true → (48 ≤ b) × (b ≤ 57)
digit b h = (grind (arith, nat_tests), grind (arith, nat_tests))

cons_same : (a b : ℕ) (xs ys : Text) → a ≡ b → xs ≡ ys → a ∷ xs ≡ b ∷ ys
cons_same a b xs ys p q = ap (λ (n : ℕ). n ∷ xs) p ∙ ap (λ (ns : Text). b ∷ ns) q

byte_back : (a b : ℕ) → (a == b) ≡ true → (xs ys : Text) → xs ≡ ys → b ∷ xs ≡ a ∷ ys
byte_back a b h xs ys e = cons_same b a xs ys (sym (eqb-true a b h)) e

abbrev number : ℕ → ℕ → ℕ
number a b = 10 * (a - 48) + (b - 48)

number_bound : (a b : ℕ) → is_ascii_digit a ≡ true → is_ascii_digit b ≡ true → number a b < 100
number_bound a b h k = let p = digit a h in let q = digit b k in omega arith

two_back : (a b : ℕ) → is_ascii_digit a ≡ true → is_ascii_digit b ≡ true → (xs ys : Text) → xs ≡ ys
    → two_digits (number a b) ++ xs ≡ a ∷ b ∷ ys
two_back a b h k xs ys e =
    let p = digit a h in
    let q = digit b k in
    cons_same _ _ _ _ (omega arith) (cons_same _ _ _ _ (omega arith) e)

high : (p q : ℕ) → q < 100 → (100 * p + q) / 100 ≡ p
high p q h = omega arith

low : (p q : ℕ) → q < 100 → (100 * p + q) % 100 ≡ q
low p q h = omega arith

four_back : (a b c d : ℕ) → is_ascii_digit a ≡ true → is_ascii_digit b ≡ true
    → is_ascii_digit c ≡ true → is_ascii_digit d ≡ true → (xs ys : Text) → xs ≡ ys
    → four_digits (100 * number a b + number c d) ++ xs ≡ a ∷ b ∷ c ∷ d ∷ ys
four_back a b c d h k i j xs ys e =
    let bound = number_bound c d i j in
    rw (high (number a b) (number c d) bound, low (number a b) (number c d) bound)
    (two_back a b h k _ _ (two_back c d i j xs ys e))

full_year-low : (n : ℕ) → n < 100 → full_year n % 100 ≡ n
full_year-low n h = grind (arith, nat_tests)

utc_year_back : (a b : ℕ) → is_ascii_digit a ≡ true → is_ascii_digit b ≡ true → (xs ys : Text)
    → xs ≡ ys → two_digits (full_year (number a b) % 100) ++ xs ≡ a ∷ b ∷ ys
utc_year_back a b h k xs ys e =
    rw (full_year-low (number a b) (number_bound a b h k)) (two_back a b h k xs ys e)

pub text_back : (t : Text) → fits_form text_form t ≡ true → text_with (text_parts t) ≡ t
unfolding EachFits
text_back (y0 ∷ y1 ∷ y2 ∷ y3 ∷ a ∷ m0 ∷ m1 ∷ b ∷ d0 ∷ d1 ∷ t ∷ h0 ∷ h1 ∷ c ∷ i0 ∷ i1 ∷ l ∷ s0 ∷ s1
    ∷ z ∷ []) h =
    let e = each_fits text_form (y0 ∷ y1 ∷ y2 ∷ y3 ∷ a ∷ m0 ∷ m1 ∷ b ∷ d0 ∷ d1 ∷ t ∷ h0 ∷ h1 ∷ c
    ∷ i0 ∷ i1 ∷ l ∷ s0 ∷ s1 ∷ z ∷ []) h in
    four_back y0 y1 y2 y3 e.0 e.1.0 e.1.1.0 e.1.1.1.0 _ _
    (byte_back a _ e.1.1.1.1.0 _ _ (two_back m0 m1 e.1.1.1.1.1.0 e.1.1.1.1.1.1.0 _ _
    (byte_back b _ e.1.1.1.1.1.1.1.0 _ _
    (two_back d0 d1 e.1.1.1.1.1.1.1.1.0 e.1.1.1.1.1.1.1.1.1.0 _ _
    (byte_back t _ e.1.1.1.1.1.1.1.1.1.1.0 _ _
    (two_back h0 h1 e.1.1.1.1.1.1.1.1.1.1.1.0 e.1.1.1.1.1.1.1.1.1.1.1.1.0 _ _
    (byte_back c _ e.1.1.1.1.1.1.1.1.1.1.1.1.1.0 _ _
    (two_back i0 i1 e.1.1.1.1.1.1.1.1.1.1.1.1.1.1.0 e.1.1.1.1.1.1.1.1.1.1.1.1.1.1.1.0 _ _
    (byte_back l _ e.1.1.1.1.1.1.1.1.1.1.1.1.1.1.1.1.0 _ _
    (two_back s0 s1 e.1.1.1.1.1.1.1.1.1.1.1.1.1.1.1.1.1.0
    e.1.1.1.1.1.1.1.1.1.1.1.1.1.1.1.1.1.1.0 _ _
    (byte_back z _ e.1.1.1.1.1.1.1.1.1.1.1.1.1.1.1.1.1.1.1.0 _ _ refl)))))))))))
text_back t h = absurd (omega (arith, fits_form-length text_form t h))

pub utc_back : (t : Text) → fits_form utc_form t ≡ true → utc_with (utc_parts t) ≡ t
unfolding EachFits
utc_back (y0 ∷ y1 ∷ m0 ∷ m1 ∷ d0 ∷ d1 ∷ h0 ∷ h1 ∷ i0 ∷ i1 ∷ s0 ∷ s1 ∷ z ∷ []) h =
    let e = each_fits utc_form (y0 ∷ y1 ∷ m0 ∷ m1 ∷ d0 ∷ d1 ∷ h0 ∷ h1 ∷ i0 ∷ i1 ∷ s0 ∷ s1 ∷ z ∷ [])
    h in
    utc_year_back y0 y1 e.0 e.1.0 _ _ (two_back m0 m1 e.1.1.0 e.1.1.1.0 _ _
    (two_back d0 d1 e.1.1.1.1.0 e.1.1.1.1.1.0 _ _
    (two_back h0 h1 e.1.1.1.1.1.1.0 e.1.1.1.1.1.1.1.0 _ _
    (two_back i0 i1 e.1.1.1.1.1.1.1.1.0 e.1.1.1.1.1.1.1.1.1.0 _ _
    (two_back s0 s1 e.1.1.1.1.1.1.1.1.1.1.0 e.1.1.1.1.1.1.1.1.1.1.1.0 _ _
    (byte_back z _ e.1.1.1.1.1.1.1.1.1.1.1.1.0 _ _ refl))))))
utc_back t h = absurd (omega (arith, fits_form-length utc_form t h))

pub general_back : (t : Text) → fits_form general_form t ≡ true → general_with (general_parts t) ≡ t
unfolding EachFits
general_back (y0 ∷ y1 ∷ y2 ∷ y3 ∷ m0 ∷ m1 ∷ d0 ∷ d1 ∷ h0 ∷ h1 ∷ i0 ∷ i1 ∷ s0 ∷ s1 ∷ z ∷ []) h =
    let e = each_fits general_form (y0 ∷ y1 ∷ y2 ∷ y3 ∷ m0 ∷ m1 ∷ d0 ∷ d1 ∷ h0 ∷ h1 ∷ i0 ∷ i1 ∷ s0
    ∷ s1 ∷ z ∷ []) h in
    four_back y0 y1 y2 y3 e.0 e.1.0 e.1.1.0 e.1.1.1.0 _ _
    (two_back m0 m1 e.1.1.1.1.0 e.1.1.1.1.1.0 _ _
    (two_back d0 d1 e.1.1.1.1.1.1.0 e.1.1.1.1.1.1.1.0 _ _
    (two_back h0 h1 e.1.1.1.1.1.1.1.1.0 e.1.1.1.1.1.1.1.1.1.0 _ _
    (two_back i0 i1 e.1.1.1.1.1.1.1.1.1.1.0 e.1.1.1.1.1.1.1.1.1.1.1.0 _ _
    (two_back s0 s1 e.1.1.1.1.1.1.1.1.1.1.1.1.0 e.1.1.1.1.1.1.1.1.1.1.1.1.1.0 _ _
    (byte_back z _ e.1.1.1.1.1.1.1.1.1.1.1.1.1.1.0 _ _ refl))))))
general_back t h = absurd (omega (arith, fits_form-length general_form t h))

-- 2. What is written has the form, and reads as what was written.

two_fit : (n : ℕ) → n < 100 → (rest : Bool) → rest ≡ true
    → (is_ascii_digit (48 + n / 10) && (is_ascii_digit (48 + n % 10) && rest)) ≡ true
two_fit n h rest e = both_true (grind (arith, nat_tests)) (both_true (grind (arith, nat_tests)) e)

two_read : (n : ℕ) → n < 100 → number (48 + n / 10) (48 + n % 10) ≡ n
two_read n h = omega arith

four_read : (n : ℕ) → n < 10000 → 100 * number (48 + n / 100 / 10) (48 + n / 100 % 10) + number
    (48 + n % 100 / 10) (48 + n % 100 % 10) ≡ n
four_read n h = rw (two_read (n / 100) (omega arith), two_read (n % 100) (omega arith))
    (omega arith)

pub text_fits : (c : CivilTime) → HasDigits c → fits_form text_form (text_with c) ≡ true
text_fits c h = two_fit (c.year / 100) (omega (arith, h.year)) _
    (two_fit (c.year % 100) (omega arith) _
    (two_fit (c.month) h.month _ (two_fit (c.day) h.day _
    (two_fit (c.hour) h.hour _ (two_fit (c.minute) h.minute _
    (two_fit (c.second) h.second _ refl))))))

pub text_read : (c : CivilTime) → HasDigits c → text_parts (text_with c) ≡ c
text_read c h =
    same_civil _ c (four_read c.year h.year) (two_read c.month h.month) (two_read c.day h.day)
    (two_read c.hour h.hour) (two_read c.minute h.minute) (two_read c.second h.second)

pub utc_fits : (c : CivilTime) → HasDigits c → fits_form utc_form (utc_with c) ≡ true
utc_fits c h = two_fit (c.year % 100) (omega arith) _
    (two_fit (c.month) h.month _ (two_fit (c.day) h.day _
    (two_fit (c.hour) h.hour _ (two_fit (c.minute) h.minute _
    (two_fit (c.second) h.second _ refl)))))

-- of the years from 1950 to 2049 the last two digits say which one is meant
full_year-is : (n : ℕ) → 1950 ≤ n → n < 2050 → full_year (n % 100) ≡ n
full_year-is n h k = grind (arith, nat_tests)

pub utc_read : (c : CivilTime) → HasDigits c → 1950 ≤ c.year → c.year < 2050
    → utc_parts (utc_with c) ≡ c
utc_read c h from to =
    same_civil _ c (ap (λ (n : ℕ). full_year n) (two_read (c.year % 100) (omega arith))
    ∙ full_year-is c.year from to) (two_read c.month h.month) (two_read c.day h.day)
    (two_read c.hour h.hour) (two_read c.minute h.minute) (two_read c.second h.second)

pub general_fits : (c : CivilTime) → HasDigits c → fits_form general_form (general_with c) ≡ true
general_fits c h = two_fit (c.year / 100) (omega (arith, h.year)) _
    (two_fit (c.year % 100) (omega arith) _
    (two_fit (c.month) h.month _ (two_fit (c.day) h.day _
    (two_fit (c.hour) h.hour _ (two_fit (c.minute) h.minute _
    (two_fit (c.second) h.second _ refl))))))

pub general_read : (c : CivilTime) → HasDigits c → general_parts (general_with c) ≡ c
general_read c h =
    same_civil _ c (four_read c.year h.year) (two_read c.month h.month) (two_read c.day h.day)
    (two_read c.hour h.hour) (two_read c.minute h.minute) (two_read c.second h.second)

full_year-bound : (n : ℕ) → n < 100 → full_year n < 2050
full_year-bound n h = grind (arith, nat_tests)

-- the years that a UTCTime can name
pub utc_year : (t : Text) → fits_form utc_form t ≡ true → (utc_parts t).year < 2050
unfolding EachFits
utc_year (y0 ∷ y1 ∷ t) h =
    let e = each_fits utc_form (y0 ∷ y1 ∷ t) h in
    let n = number_bound y0 y1 e.0 e.1.0 in full_year-bound (number y0 y1) n
utc_year t h = absurd (omega (arith, fits_form-length utc_form t h))
