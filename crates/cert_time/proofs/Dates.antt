-- The date so many days after 1 January 1950 has the day number that says so.
use Rattle.std.proofs.Common.{◌≡◌, ℕ, zero, suc, ◌+◌, ◌<◌, ◌≤◌, Bool, true, false, cond, nat_lt}
use Rattle.std.proofs.Common.{refl, arith, rules, pos, negsuc, ◌+ℤ◌}
use Rattle.std.proofs.lemmas.Bool.Decides.{nat_tests}
use Rattle.std.proofs.lemmas.Int.{by_lt_z}
use Rattle.jiff_core.specs.Calendar.{days_in_month, days_from_civil, day_count, days_of_years}
use Rattle.jiff_core.specs.Calendar.{days_of_months}
use Rattle.jiff_core.proofs.SignedLemmas.{signed_arith}
use Rattle.jiff_core.proofs.CalendarLemmas.{days_in_month_bounds, days_from_civil-day_count}
use Rattle.jiff_core.proofs.CalendarLemmas.{day_count-lt_year}
use Rattle.jiff_core.proofs.DateLemmas.{days_from_civil-day, days_from_civil-next_month}
use Rattle.jiff_core.proofs.DateLemmas.{days_from_civil-next_year, days_from_civil-max}
use Rattle.cert_time.specs.Calendar.{Date, date_after}

-- a day of the calendar, in 1950 or later
pub record IsDay (d : Date) : Type 0 where
  pub year : 1950 ≤ d.year
  pub month : 1 ≤ d.month
  pub month_end : d.month ≤ 12
  pub day : 1 ≤ d.day
  pub day_end : d.day ≤ days_in_month (pos d.year) d.month

-- and n days after 1 January 1950, whose day number is -7305
pub record IsDayAfter (n : ℕ) (d : Date) : Type 0 where
  pub is_day : IsDay d
  pub number : days_from_civil (pos d.year) d.month d.day ≡ negsuc 7304 +ℤ pos n

pub days_from_civil-1950 : days_from_civil (pos 1950) 1 1 ≡ negsuc 7304
unfolding days_from_civil day_count days_of_years days_of_months
days_from_civil-1950 = refl

in_month : (n : ℕ) (d : Date) → IsDayAfter n d → d.day < days_in_month (pos d.year) d.month
    → IsDayAfter (suc n) (record d { day = d.day + 1 })
in_month n d h lt = record {
  is_day = record {
    year = h.is_day.year;
    month = h.is_day.month;
    month_end =
        h.is_day.month_end;
    day = omega arith;
    day_end = omega arith;
  };
  number = omega (
    arith,
    signed_arith,
    h.number,
    days_from_civil-day (pos d.year) d.month d.day (d.day + 1) h.is_day.day (omega arith),
  );
}

next_month : (n : ℕ) (d : Date) → IsDayAfter n d → days_in_month (pos d.year) d.month ≤ d.day
    → d.month < 12 → IsDayAfter (suc n) (record d { month = d.month + 1; day = 1 })
next_month n d h le lt =
    let bounds = days_in_month_bounds (pos d.year) (d.month + 1) in
    record {
      is_day = record {
        year = h.is_day.year;
        month = omega arith;
        month_end = omega arith;
        day =
            omega arith;
        day_end = omega arith;
      };
      number = omega (
        arith,
        signed_arith,
        h.number,
        days_from_civil-next_month (pos d.year) d.month d.day h.is_day.month (omega (
          arith,
          h.is_day.day_end,
        )),
      );
    }

next_year : (n : ℕ) (d : Date) → IsDayAfter n d → days_in_month (pos d.year) d.month ≤ d.day
    → 12 ≤ d.month → IsDayAfter (suc n) (record { year = d.year + 1; month = 1; day = 1 })
next_year n d h le december =
    let bounds = days_in_month_bounds (pos (d.year + 1)) 1 in
    let twelve : d.month ≡ 12 = omega (arith, h.is_day.month_end) in
    let last : d.day ≡ 31 = grind (arith, nat_tests, h.is_day.day_end) in
    let from : days_from_civil (pos d.year) 12 31 ≡ negsuc 7304 +ℤ pos n =
    rw (twelve, last) at h.number in
    record {
      is_day = record {
        year = omega (arith, h.is_day.year);
        month = omega arith;
        month_end =
            omega arith;
        day = omega arith;
        day_end = omega arith;
      };
      number = omega (
        arith,
        signed_arith,
        from,
        days_from_civil-next_year (pos d.year) (pos (d.year + 1)) (omega (arith, signed_arith))
            (omega (arith, signed_arith)),
      );
    }

-- the day after is one day later
after_next : (n : ℕ) (d : Date) → IsDayAfter n d → (b c : Bool)
    → nat_lt d.day (days_in_month (pos d.year) d.month) ≡ b → nat_lt d.month 12 ≡ c
    → IsDayAfter (suc n) (cond b (record d { day = d.day + 1 }) (cond c (record d {
      month =
          d.month + 1;
      day = 1;
    }) (record { year = d.year + 1; month = 1; day = 1 })))
after_next n d h true c e f = in_month n d h (grind (arith, nat_tests))
after_next n d h false true e f = next_month n d h (grind (arith, nat_tests)) (grind (
  arith,
  nat_tests,
))
after_next n d h false false e f = next_year n d h (grind (arith, nat_tests)) (grind (
  arith,
  nat_tests,
))

pub date_after-is : (n : ℕ) → IsDayAfter n (date_after n)
unfolding date_after
date_after-is zero = record {
  is_day = record {
    year = omega arith;
    month = omega arith;
    month_end = omega arith;
    day =
        omega arith;
    day_end = omega arith;
  };
  number = days_from_civil-1950;
}
date_after-is (suc n) = after_next n (date_after n) (date_after-is n) _ _ refl refl

-- a day that isn't after 31 December 9999 is of a year of four digits
pub year_to_9999 : (n : ℕ) (d : Date) → IsDayAfter n d → n ≤ 2940201 → d.year ≤ 9999
year_to_9999 n d h le =
    by_lt_z (pos 9999) (pos d.year)
    (λ lt. absurd (omega (
      arith,
      signed_arith,
      h.number,
      days_from_civil-max,
      days_from_civil-day_count,
      day_count-lt_year (pos 9999) 12 31 (pos d.year) d.month d.day
          (search rules) h.is_day.day lt,
    )))
    (λ ge. omega (arith, signed_arith))
