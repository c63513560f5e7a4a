-- What is read names one time, and its encoding is what was read.
use Rattle.std.proofs.Common.{◌≡◌, ℕ, ◌<◌, ◌≤◌, ◌==◌, ◌&&◌, ◌⊎◌, inl, inr, Bool, true, false}
use Rattle.std.proofs.Common.{nat_lt, nat_le, cond, length, refl, sym, ap, subst, ◌∙◌, arith, ℤ}
use Rattle.std.proofs.Common.{pos, Option, Some, None, IfSome}
use Rattle.std.proofs.lemmas.Bool.{and_parts, leb-true, eqb-true}
use Rattle.std.proofs.lemmas.Bool.Decides.{nat_tests}
use Rattle.byte_formats.specs.Types.{Text}
use Rattle.jiff_core.proofs.CalendarLemmas.{days_in_month_bounds}
use Rattle.cert_time.specs.declared.civil.CivilTime.{CivilTime}
use Rattle.cert_time.specs.Calendar.{exists, unix_time, unix_time_from, IsUnixTime, civil_of}
use Rattle.cert_time.specs.Forms.{HasDigits, fits_form}
use Rattle.cert_time.specs.Texts.{text_form, text_parts, text_with, text_unix_time, unix_time_text}
use Rattle.cert_time.specs.Times.{utc_form, utc_parts, utc_with, utc_unix_time, general_form}
use Rattle.cert_time.specs.Times.{general_parts, general_with, general_unix_time, unix_time_in}
use Rattle.cert_time.specs.Times.{time_tag, time_contents, tag_with, contents_with}
use Rattle.cert_time.proofs.UnixTimes.{Exists, exists-from, exists-to, Names, civil_of-names}
use Rattle.cert_time.proofs.UnixTimes.{names-civil_of, IsUnixTime-names}
use Rattle.cert_time.proofs.Encoding.{text_back, text_fits, text_read, utc_back, utc_fits, utc_read}
use Rattle.cert_time.proofs.Encoding.{utc_year, general_back, general_fits, general_read}

-- the time of a text in a form
abbrev read_by : Bool → ℕ → CivilTime → Option ℤ
read_by fits first_year c = cond fits (unix_time_from first_year c) None

some_of : (b : Bool) (w z : ℤ) → cond b (Some w) None ≡ Some z → (b ≡ true) × (w ≡ z)
some_of true w z h = (refl, cc)
some_of false w z h = cc

fits_of : (b : Bool) (first_year : ℕ) (c : CivilTime) (z : ℤ) → read_by b first_year c ≡ Some z
    → (b ≡ true) × (unix_time_from first_year c ≡ Some z)
fits_of true first_year c z h = (refl, h)
fits_of false first_year c z h = cc

-- what is read fits its form, and names the time
record IsRead (b : Bool) (first_year : ℕ) (c : CivilTime) (z : ℤ) : Type 0 where
  fits : b ≡ true
  first : first_year ≤ c.year
  names : Names z c

is_read : (b : Bool) (first_year : ℕ) (c : CivilTime) (z : ℤ) → 1950 ≤ first_year
    → read_by b first_year c ≡ Some z → IsRead b first_year c z
is_read b first_year c z low h =
    let in_form = fits_of b first_year c z h in
    let is = some_of (nat_le first_year c.year && exists c) (unix_time c) z in_form.1 in
    let tests = and_parts (nat_le first_year c.year) (exists c) is.0 in
    let year : first_year ≤ c.year = leb-true first_year c.year tests.0 in
    record {
      fits = in_form.0;
      first = year;
      names = record { exists = exists-to c tests.1; year = omega arith; is = is.1 };
    }

-- and what names the time is read, where it fits
reads : (b : Bool) (first_year : ℕ) (c : CivilTime) (z : ℤ) → b ≡ true → first_year ≤ c.year
    → Names z c → read_by b first_year c ≡ Some z
reads b first_year c z fits first names =
    let is = exists-from c names.exists in
    let same = names.is in
    grind (arith, nat_tests)

has_digits : (c : CivilTime) → Exists c → HasDigits c
has_digits c h =
    let month = days_in_month_bounds (pos c.year) c.month in
    record {
      year = omega (arith, h.year_end);
      month = omega (arith, h.month_end);
      day =
          omega (arith, h.day_end);
      hour = omega (arith, h.hour);
      minute =
          omega (arith, h.minute);
      second = omega (arith, h.second);
    }

-- from 1950 on such a time is in range
pub unix_time_from-range : (first_year : ℕ) (c : CivilTime) → 1950 ≤ first_year
    → IfSome (unix_time_from first_year c) IsUnixTime
unix_time_from-range first_year c low =
    range_of (unix_time_from first_year c)
    (λ z e. IsUnixTime-names z c (is_read true first_year c z low e).names) where
      range_of : (o : Option ℤ) → ((z : ℤ) → o ≡ Some z → IsUnixTime z) → IfSome o IsUnixTime
      range_of None h = tt
      range_of (Some z) h = h z refl

along : (z : ℤ) (c p : CivilTime) → p ≡ c → Names z c → Names z p
along z c p e n = let P : CivilTime → Type 0 = λ q. Names z q in subst P (sym e) n

-- 1. Texts

pub text_unix_time-unix_time_text : (z : ℤ) → IsUnixTime z
    → text_unix_time (unix_time_text z) ≡ Some z
unfolding text_unix_time unix_time_text
text_unix_time-unix_time_text z h =
    let c = civil_of z in
    let n = civil_of-names z h in
    let digits = has_digits c n.exists in
    let names = along z c (text_parts (text_with c)) (text_read c digits) n in
    reads _ 1950 (text_parts (text_with c)) z (text_fits c digits) names.year names

pub text_unix_time-only : (t : Text) (z : ℤ) → text_unix_time t ≡ Some z → IsUnixTime z
    × (t ≡ unix_time_text z)
unfolding text_unix_time unix_time_text
text_unix_time-only t z h =
    let r = is_read (fits_form text_form t) 1950 (text_parts t) z (omega arith) h in
    let m = IsUnixTime-names z (text_parts t) r.names in
    (m, sym (text_back t r.fits) ∙ ap text_with (names-civil_of z (text_parts t) m r.names))

-- 2. Times of certificates

utc_case : (z : ℤ) (contents : Text) → utc_unix_time contents ≡ Some z → IsUnixTime z
    × ((civil_of z).year < 2050) × (contents ≡ utc_with (civil_of z))
unfolding utc_unix_time
utc_case z t h =
    let r = is_read (fits_form utc_form t) 1950 (utc_parts t) z (omega arith) h in
    let m = IsUnixTime-names z (utc_parts t) r.names in
    let e = names-civil_of z (utc_parts t) m r.names in
    let year : (utc_parts t).year ≡ (civil_of z).year = ap (λ (c : CivilTime). c.year) e in
    let low = utc_year t r.fits in
    (m, omega (arith, year), sym (utc_back t r.fits) ∙ ap utc_with e)

general_case : (z : ℤ) (contents : Text) → general_unix_time contents ≡ Some z → IsUnixTime z
    × (2050 ≤ (civil_of z).year) × (contents ≡ general_with (civil_of z))
unfolding general_unix_time
general_case z t h =
    let r = is_read (fits_form general_form t) 2050 (general_parts t) z (omega arith) h in
    let m = IsUnixTime-names z (general_parts t) r.names in
    let e = names-civil_of z (general_parts t) m r.names in
    let year : (general_parts t).year ≡ (civil_of z).year = ap (λ (c : CivilTime). c.year) e in
    let high = r.first in
    (m, omega (arith, year), sym (general_back t r.fits) ∙ ap general_with e)

by_tag : (b c : Bool) (u g : Option ℤ) (z : ℤ) → cond b u (cond c g None) ≡ Some z
    → ((b ≡ true) × (u ≡ Some z)) ⊎ ((c ≡ true) × (g ≡ Some z))
by_tag true c u g z h = inl (refl, h)
by_tag false true u g z h = inr (refl, h)
by_tag false false u g z h = cc

-- the encoding of a time, chosen by its year
below : (c : CivilTime) → c.year < 2050 → (tag_with c ≡ 23) × (contents_with c ≡ utc_with c)
below c h = let test : nat_lt c.year 2050 ≡ true = grind (arith, nat_tests) in (rw test, rw test)

from : (c : CivilTime) → 2050 ≤ c.year → (tag_with c ≡ 24) × (contents_with c ≡ general_with c)
from c h = let test : nat_lt c.year 2050 ≡ false = grind (arith, nat_tests) in (rw test, rw test)

pub unix_time_in-only : (tag : ℕ) (contents : Text) (z : ℤ) → unix_time_in tag contents ≡ Some z
    → IsUnixTime z × (tag ≡ time_tag z) × (contents ≡ time_contents z)
unfolding unix_time_in time_tag time_contents
unix_time_in-only tag contents z h =
    elim
    (by_tag (tag == 23) (tag == 24) (utc_unix_time contents) (general_unix_time contents) z h) [
      | inl u ↦ let r = utc_case z contents u.1 in let w =
          below (civil_of z) r.1 in (r.0, eqb-true tag 23 u.0 ∙ sym w.0, r.2 ∙ sym w.1)
      | inr g ↦ let r = general_case z contents g.1 in let w =
          from (civil_of z) r.1 in (r.0, eqb-true tag 24 g.0 ∙ sym w.0, r.2 ∙ sym w.1)
    ]

utc_is : (z : ℤ) → IsUnixTime z → (civil_of z).year < 2050
    → utc_unix_time (utc_with (civil_of z)) ≡ Some z
unfolding utc_unix_time
utc_is z h low =
    let c = civil_of z in
    let n = civil_of-names z h in
    let digits = has_digits c n.exists in
    let names = along z c (utc_parts (utc_with c)) (utc_read c digits n.year low) n in
    reads _ 1950 (utc_parts (utc_with c)) z (utc_fits c digits) names.year names

general_is : (z : ℤ) → IsUnixTime z → 2050 ≤ (civil_of z).year
    → general_unix_time (general_with (civil_of z)) ≡ Some z
unfolding general_unix_time
general_is z h high =
    let c = civil_of z in
    let n = civil_of-names z h in
    let digits = has_digits c n.exists in
    let e = general_read c digits in
    let names = along z c (general_parts (general_with c)) e n in
    let year : (general_parts (general_with c)).year ≡ c.year = ap (λ (p : CivilTime). p.year) e in
    reads _ 2050 (general_parts (general_with c)) z (general_fits c digits) (omega (
      arith,
      year,
      high,
    )) names

by_year : (z : ℤ) → IsUnixTime z → (b : Bool) → nat_lt (civil_of z).year 2050 ≡ b
    → unix_time_in (cond b 23 24) (cond b (utc_with (civil_of z)) (general_with (civil_of z)))
    ≡ Some z
unfolding unix_time_in
by_year z h true e = utc_is z h (grind (arith, nat_tests))
by_year z h false e = general_is z h (grind (arith, nat_tests))

pub unix_time_in-time : (z : ℤ) → IsUnixTime z
    → unix_time_in (time_tag z) (time_contents z) ≡ Some z
unfolding time_tag time_contents
unix_time_in-time z h = by_year z h (nat_lt (civil_of z).year 2050) refl

-- both ways at once

pub text_law : (text : Text) (z : ℤ) → (text_unix_time text ≡ Some z → IsUnixTime z
    × (text ≡ unix_time_text z))
    × (IsUnixTime z × (text ≡ unix_time_text z) → text_unix_time text ≡ Some z)
text_law text z = (text_unix_time-only text z, λ p. rw p.1 (text_unix_time-unix_time_text z p.0))

pub time_law : (tag : ℕ) (contents : Text) (z : ℤ)
    → (unix_time_in tag contents ≡ Some z → IsUnixTime z
    × (tag ≡ time_tag z) × (contents ≡ time_contents z)) × (IsUnixTime z × (tag ≡ time_tag z)
    × (contents ≡ time_contents z) → unix_time_in tag contents ≡ Some z)
time_law tag contents z = (
  unix_time_in-only tag contents z,
  λ p. rw (p.1, p.2) (unix_time_in-time z p.0),
)

abbrev IsShape : ℕ → Text → Type 0
IsShape tag contents = ((tag ≡ 23) × (length contents ≡ 13)) ⊎ ((tag ≡ 24) × (length contents ≡ 15))

shape : (c : CivilTime) (b : Bool) → IsShape (cond b 23 24) (cond b (utc_with c) (general_with c))
shape c true = inl (refl, refl)
shape c false = inr (refl, refl)

-- a UTCTime has 13 bytes, and a GeneralizedTime 15
pub time_shape : (z : ℤ) → IsShape (time_tag z) (time_contents z)
unfolding time_tag time_contents
time_shape z = shape (civil_of z) (nat_lt (civil_of z).year 2050)
