-- Times and the dates and times of day that they name.
use Rattle.std.proofs.Common.{◌≡◌, ℕ, ◌+◌, ◌*◌, ◌/◌, ◌%◌, ◌<◌, ◌≤◌, true, refl, sym, ap, ◌∙◌, arith}
use Rattle.std.proofs.Common.{rules, ℤ, pos, negsuc, ◌+ℤ◌, ◌-ℤ◌, ◌*ℤ◌, ◌≤ℤ◌, unsigned_abs, Some}
use Rattle.std.proofs.Common.{FitsSigned, w64, Bool, false, cond, ◌&&◌, nat_le, None}
use Rattle.std.specs.Prelude.{int_div}
use Rattle.std.proofs.lemmas.Bool.Decides.{nat_tests}
use Rattle.std.proofs.lemmas.Int.{by_lt_z}
use Rattle.jiff_core.specs.declared.civil.date.Date.{Date as JiffDate}
use Rattle.jiff_core.specs.declared.civil.datetime.DateTime.{DateTime}
use Rattle.jiff_core.specs.Calendar.{days_in_month, days_from_civil, day_count, days_of_years}
use Rattle.jiff_core.specs.Calendar.{days_of_months, IsDate}
use Rattle.jiff_core.specs.Date.{IsYmd}
use Rattle.jiff_core.specs.Time.{IsHms, IsTime}
use Rattle.jiff_core.specs.DateTime.{civil_nanos, civil_seconds}
use Rattle.jiff_core.proofs.SignedLemmas.{signed_arith}
use Rattle.jiff_core.proofs.CalendarLemmas.{days_from_civil-day_count, day_count-lt_year}
use Rattle.jiff_core.proofs.CalendarLemmas.{day_count-day_of_year, days_of_months-zero}
use Rattle.jiff_core.proofs.DateLemmas.{civil, epoch_day_injective, epoch_day_range}
use Rattle.jiff_core.proofs.DateTimeLemmas.{civil_nanos-civil_seconds, civil_nanos_range}
use Rattle.cert_time.specs.declared.civil.CivilTime.{CivilTime}
use Rattle.cert_time.specs.Calendar.{exists, unix_time, unix_time_from, IsUnixTime, date_after}
use Rattle.cert_time.specs.Calendar.{civil_of}
use Rattle.cert_time.specs.Calendar.{at_second}
use Rattle.cert_time.proofs.Dates.{date_after-is, year_to_9999, days_from_civil-1950}

-- the library's 1970-01-01T00:00:00
pub epoch_nanos : (dt : DateTime) → IsYmd (pos 1970) (pos 1) (pos 1) dt.date
    → IsHms (pos 0) (pos 0) (pos 0) (pos 0) dt.time → civil_nanos dt ≡ pos 0
unfolding civil_nanos days_from_civil day_count days_of_years days_of_months
epoch_nanos dt date time =
    let month : dt.date.month ≡ 1 = omega (arith, signed_arith, date.1) in
    let day : dt.date.day ≡ 1 = omega (arith, signed_arith, date.2) in
    let hour : dt.time.hour ≡ 0 = omega (arith, signed_arith, time.0) in
    let minute : dt.time.minute ≡ 0 = omega (arith, signed_arith, time.1) in
    let second : dt.time.second ≡ 0 = omega (arith, signed_arith, time.2) in
    let subsec : dt.time.subsec_nanosecond ≡ 0 = omega (arith, signed_arith, time.3) in
    rw (date.0, month, day, hour, minute, second, subsec) refl

-- what `exists` tests
pub record Exists (c : CivilTime) : Type 0 where
  pub year_end : c.year ≤ 9999
  pub month : 1 ≤ c.month
  pub month_end : c.month ≤ 12
  pub day : 1 ≤ c.day
  pub day_end : c.day ≤ days_in_month (pos c.year) c.month
  pub hour : c.hour < 24
  pub minute : c.minute < 60
  pub second : c.second < 60

pub exists-from : (c : CivilTime) → Exists c → exists c ≡ true
exists-from c h = grind (arith, nat_tests)

pub exists-to : (c : CivilTime) → exists c ≡ true → Exists c
exists-to c h = record {
  year_end = grind (arith, nat_tests);
  month = grind (arith, nat_tests);
  month_end = grind (arith, nat_tests);
  day = grind (arith, nat_tests);
  day_end = grind (arith, nat_tests);
  hour = grind (arith, nat_tests);
  minute = grind (arith, nat_tests);
  second = grind (arith, nat_tests);
}

-- dates and times of day with the same parts are the same
pub same_civil : (a b : CivilTime) → a.year ≡ b.year → a.month ≡ b.month → a.day ≡ b.day
    → a.hour ≡ b.hour → a.minute ≡ b.minute → a.second ≡ b.second → a ≡ b
same_civil a b year month day hour minute second =
    ap (λ (n : ℕ). record a { year = n }) year
    ∙ ap (λ (n : ℕ). record a { year = b.year; month = n }) month
    ∙ ap (λ (n : ℕ). record a { year = b.year; month = b.month; day = n }) day
    ∙ ap (λ (n : ℕ). record b { hour = n; minute = a.minute; second = a.second }) hour
    ∙ ap (λ (n : ℕ). record b { minute = n; second = a.second }) minute
    ∙ ap (λ (n : ℕ). record b { second = n }) second

-- the date alone, as a date of the library
abbrev jiff_date : (c : CivilTime) → Exists c → JiffDate
jiff_date c h = record {
  year = pos c.year;
  month = c.month;
  day = c.day;
  year_in = omega (arith, signed_arith, h.year_end);
  month_in = (h.month, h.month_end);
  day_in = (h.day, h.day_end);
}

-- two dates and times that exist and name one time are the same
pub unix_time_injective : (a b : CivilTime) → Exists a → Exists b → unix_time a ≡ unix_time b
    → a ≡ b
unix_time_injective a b h k e =
    let days : days_from_civil (pos a.year) a.month a.day
    ≡ days_from_civil (pos b.year) b.month b.day = omega (arith, signed_arith) in
    let date = epoch_day_injective (jiff_date a h) (jiff_date b k) days in
    let seconds : 3600 * a.hour + 60 * a.minute + a.second
    ≡ 3600 * b.hour + 60 * b.minute + b.second = omega (arith, signed_arith) in
    same_civil a b (omega (arith, signed_arith, date.0)) date.1 date.2 (omega arith) (omega arith)
    (omega arith)

-- a date and a time of day that exist, in 1950 or later, and name this time
pub record Names (z : ℤ) (c : CivilTime) : Type 0 where
  pub exists : Exists c
  pub year : 1950 ≤ c.year
  pub is : unix_time c ≡ z

clock : (s : ℕ) → 3600 * (s / 3600) + 60 * (s % 3600 / 60) + s % 60 ≡ s
clock s = omega arith

at_second-names : (z : ℤ) → IsUnixTime z → (n : ℕ) → z +ℤ pos 631152000 ≡ pos n
    → Names z (at_second (date_after (n / 86400)) (n % 86400))
at_second-names z h n e =
    let day = date_after-is (n / 86400) in
    let bound : n / 86400 ≤ 2940201 = omega (arith, signed_arith) in
    record {
      exists = record {
        year_end = year_to_9999 _ _ day bound;
        month = day.is_day.month;
        month_end = day.is_day.month_end;
        day = day.is_day.day;
        day_end = day.is_day.day_end;
        hour = omega arith;
        minute = omega arith;
        second = omega arith;
      };
      year = day.is_day.year;
      is = omega (arith, signed_arith, day.number, clock (n % 86400));
    }

pub nonnegative : (z : ℤ) → pos 0 ≤ℤ z → z ≡ pos (unsigned_abs z)
nonnegative (pos n) h = refl
nonnegative (negsuc n) h = absurd (omega (arith, signed_arith))

-- each time has a date and a time of day
pub civil_of-names : (z : ℤ) → IsUnixTime z → Names z (civil_of z)
unfolding civil_of
civil_of-names z h =
    at_second-names z h (unsigned_abs (z +ℤ pos 631152000)) (nonnegative (z +ℤ pos 631152000)
    (omega (arith, signed_arith)))

-- and no other
pub names-civil_of : (z : ℤ) (c : CivilTime) → IsUnixTime z → Names z c → c ≡ civil_of z
names-civil_of z c h n =
    let k = civil_of-names z h in unix_time_injective c (civil_of z) n.exists k.exists (n.is
    ∙ sym k.is)

day_from_1950 : (c : CivilTime) → Exists c → 1950 ≤ c.year
    → negsuc 7304 ≤ℤ days_from_civil (pos c.year) c.month c.day
day_from_1950 c h from =
    by_lt_z (pos 1950) (pos c.year)
    (λ lt. omega (
      arith,
      signed_arith,
      days_from_civil-1950,
      days_from_civil-day_count,
      day_count-lt_year (pos 1950) 1 1 (pos c.year) c.month c.day (search rules) h.day lt,
    ))
    (λ ge. let year : pos c.year ≡ pos 1950 = omega (arith, signed_arith) in
    rw year (omega (
      arith,
      signed_arith,
      days_from_civil-1950,
      days_from_civil-day_count,
      day_count-day_of_year (pos 1950) c.month c.day h.day,
      day_count-day_of_year (pos 1950) 1 1 (omega arith),
      days_of_months-zero (pos 1950),
    )))

-- what exists from 1950 on names a time
pub IsUnixTime-names : (z : ℤ) (c : CivilTime) → Names z c → IsUnixTime z
IsUnixTime-names z c h =
    let from = day_from_1950 c h.exists h.year in
    let to = epoch_day_range (jiff_date c h.exists) in
    (omega (arith, signed_arith, h.is), omega (arith, signed_arith, h.is))

-- the library's date and time have these parts
pub record HasParts (dt : DateTime) (c : CivilTime) : Type 0 where
  pub year : dt.date.year ≡ pos c.year
  pub month : dt.date.month ≡ c.month
  pub day : dt.date.day ≡ c.day
  pub hour : dt.time.hour ≡ c.hour
  pub minute : dt.time.minute ≡ c.minute
  pub second : dt.time.second ≡ c.second

pub HasParts-exists : (dt : DateTime) (c : CivilTime) → HasParts dt c → c.year ≤ 9999 → Exists c
HasParts-exists dt c h to =
    let same_month : days_in_month dt.date.year dt.date.month ≡ days_in_month (pos c.year) c.month =
    ap (λ (y : ℤ). days_in_month y dt.date.month) h.year
    ∙ ap (λ (m : ℕ). days_in_month (pos c.year) m) h.month in
    record {
      year_end = to;
      month = omega (arith, h.month, dt.date.month_in);
      month_end = omega (arith, h.month, dt.date.month_in);
      day = omega (arith, h.day, dt.date.day_in);
      day_end = omega (arith, same_month, h.day, dt.date.day_in);
      hour = omega (arith, h.hour, dt.time.hour_in);
      minute = omega (arith, h.minute, dt.time.minute_in);
      second = omega (arith, h.second, dt.time.second_in);
    }

pub HasParts-unix_time : (dt : DateTime) (c : CivilTime) → HasParts dt c
    → civil_seconds dt ≡ unix_time c
unfolding civil_seconds
HasParts-unix_time dt c h =
    rw (h.year, h.month, h.day, h.hour, h.minute, h.second) (omega (arith, signed_arith))

-- what the library makes of a date and a time of day that it has
pub unix_time_from-parts : (first_year : ℕ) (dt : DateTime) (c : CivilTime) → HasParts dt c
    → first_year ≤ c.year → c.year ≤ 9999 → unix_time_from first_year c ≡ Some (civil_seconds dt)
unix_time_from-parts first_year dt c h from to =
    let is = exists-from c (HasParts-exists dt c h to) in
    let same = HasParts-unix_time dt c h in
    grind (arith, nat_tests)

-- what the library wants of a date and a time of day, and what is there where it has none
pub IsDate-exists : (c : CivilTime) (year month day hour minute second : ℤ) → Exists c
    → year ≡ pos c.year → month ≡ pos c.month → day ≡ pos c.day → hour ≡ pos c.hour
    → minute ≡ pos c.minute → second ≡ pos c.second
    → IsDate year month day × IsTime hour minute second (pos 0)
IsDate-exists c year month day hour minute second h y m d k n s =
    rw (y, m, d, k, n, s) (
      (
        (omega (arith, signed_arith), omega (arith, signed_arith, h.year_end)),
        (omega (arith, signed_arith, h.month), omega (arith, signed_arith, h.month_end)),
        (omega (arith, signed_arith, h.day), omega (arith, signed_arith, h.day_end)),
      ),
      (
        (omega (arith, signed_arith), omega (arith, signed_arith, h.hour)),
        (omega (arith, signed_arith), omega (arith, signed_arith, h.minute)),
        (omega (arith, signed_arith), omega (arith, signed_arith, h.second)),
        (omega (arith, signed_arith), omega (arith, signed_arith)),
      ),
    )

none_of : (from there : Bool) (z : ℤ) → (there ≡ true → ⊥) → cond (from && there) (Some z) None
    ≡ None
none_of true true z h = absurd (h refl)
none_of true false z h = refl
none_of false there z h = refl

pub unix_time_from-none : (first_year : ℕ) (c : CivilTime) → (Exists c → ⊥)
    → unix_time_from first_year c ≡ None
unix_time_from-none first_year c h =
    none_of (nat_le first_year c.year) (exists c) (unix_time c) (λ e. h (exists-to c e))

-- whole seconds from the library's 1970-01-01T00:00:00 to a date and a time of day
pub civil_seconds-since : (dt epoch : DateTime) (n : ℤ) → civil_nanos epoch ≡ pos 0
    → dt.time.subsec_nanosecond ≡ 0 → n ≡ civil_nanos dt -ℤ civil_nanos epoch
    → int_div n (pos 1_000_000_000) ≡ civil_seconds dt
civil_seconds-since dt epoch n zero whole e =
    omega (arith, signed_arith, zero, whole, e, civil_nanos-civil_seconds dt)

pub civil_seconds-bound : (dt : DateTime) → FitsSigned w64 (civil_seconds dt)
civil_seconds-bound dt =
    omega (
      arith,
      signed_arith,
      civil_nanos-civil_seconds dt,
      civil_nanos_range dt,
      dt.time.subsec_in,
    )

-- the library's date and time of a time
pub civil_seconds-nanos : (z : ℤ) (dt : DateTime) → civil_nanos dt ≡ z *ℤ pos 1_000_000_000
    → civil_seconds dt ≡ z
civil_seconds-nanos z dt e =
    omega (arith, signed_arith, e, civil_nanos-civil_seconds dt, dt.time.subsec_in)

pub year-from_1950 : (z : ℤ) (dt : DateTime) → IsUnixTime z → civil_seconds dt ≡ z
    → pos 1950 ≤ℤ dt.date.year
unfolding civil_seconds
year-from_1950 z dt h e =
    by_lt_z dt.date.year (pos 1950)
    (λ lt. absurd (omega (
      arith,
      signed_arith,
      e,
      days_from_civil-1950,
      days_from_civil-day_count,
      day_count-lt_year dt.date.year dt.date.month dt.date.day (pos 1950) 1 1 (civil dt.date)
          (omega arith) lt,
    )))
    (λ ge. ge)

pub civil_of-parts : (z : ℤ) (dt : DateTime) (c : CivilTime) → IsUnixTime z → civil_seconds dt ≡ z
    → HasParts dt c → c ≡ civil_of z
civil_of-parts z dt c h e parts =
    let from = year-from_1950 z dt h e in
    names-civil_of z c h (record {
      exists = HasParts-exists dt c parts (omega (
        arith,
        signed_arith,
        parts.year,
        dt.date.year_in,
      ));
      year = omega (arith, signed_arith, parts.year);
      is = sym (HasParts-unix_time dt c parts) ∙ e;
    })
