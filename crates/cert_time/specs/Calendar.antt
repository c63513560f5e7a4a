-- Dates and times of day of the Gregorian calendar in UTC (RFC 5280, section 4.1.2.5), and the
-- seconds since 1970-01-01T00:00:00Z that they name. `days_from_civil` is the number of days from
-- 1970-01-01 to a date, counted year by year and month by month.
use Rattle.std.specs.Prelude.{ℕ, zero, suc, ◌+◌, ◌*◌, ◌/◌, ◌%◌, ◌&&◌, nat_lt, nat_le, Bool}
use Rattle.std.specs.Prelude.{if◌then◌else◌, ℤ, pos, negsuc, ◌+ℤ◌, ◌*ℤ◌, ◌≤ℤ◌, unsigned_abs, Option}
use Rattle.std.specs.Prelude.{Some, None}
use Rattle.jiff_core.specs.Calendar.{days_in_month, days_from_civil}
use Rattle.cert_time.specs.declared.civil.CivilTime.{CivilTime}

-- The calendar has the day, in a year of at most four digits, and a clock without leap seconds
-- shows the time.
abbrev pub exists : CivilTime → Bool
exists c =
    nat_le c.year 9999 && nat_le 1 c.month && nat_le c.month 12 && nat_le 1 c.day
    && nat_le c.day (days_in_month (pos c.year) c.month)
    && nat_lt c.hour 24 && nat_lt c.minute 60 && nat_lt c.second 60

-- The seconds from 1970-01-01T00:00:00Z to a date and a time of day: the whole days between, and
-- the seconds of the day.
abbrev pub unix_time : CivilTime → ℤ
unix_time c =
    days_from_civil (pos c.year) c.month c.day *ℤ pos 86400
    +ℤ pos (3600 * c.hour + 60 * c.minute + c.second)

-- The time that a date and a time of day name, which exist, in this year or a later one.
abbrev pub unix_time_from : ℕ → CivilTime → Option ℤ
unix_time_from first_year c =
    if nat_le first_year c.year && exists c then Some (unix_time c) else None

-- The times from 1950-01-01T00:00:00Z to 9999-12-31T23:59:59Z.
abbrev pub IsUnixTime : ℤ → Type 0
IsUnixTime z = (negsuc 631151999 ≤ℤ z) × (z ≤ℤ pos 253402300799)

-- The two times of a validity, in seconds since 1970: any two numbers.
pub record Period : Type 0 where
  pub not_before : ℤ
  pub not_after : ℤ

-- Both are times that a certificate can state, in either order.
pub record IsPeriod (p : Period) : Type 0 where
  pub not_before : IsUnixTime p.not_before
  pub not_after : IsUnixTime p.not_after

-- A date.
pub record Date : Type 0 where
  pub year : ℕ
  pub month : ℕ
  pub day : ℕ

-- The day after: the next one of the month, else the first of the next month, else the first of
-- the next year.
abbrev pub next_day : Date → Date
next_day d =
    if nat_lt d.day (days_in_month (pos d.year) d.month) then record d { day = d.day + 1 }
    else (if nat_lt d.month 12 then record d { month = d.month + 1; day = 1 }
    else record { year = d.year + 1; month = 1; day = 1 })

-- The date so many days after 1 January 1950.
unfoldable pub date_after : ℕ → Date
date_after zero = record { year = 1950; month = 1; day = 1 }
date_after (suc n) = next_day (date_after n)

-- A date with so many seconds since its midnight.
abbrev pub at_second : Date → ℕ → CivilTime
at_second d s =
    record {
      year = d.year;
      month = d.month;
      day = d.day;
      hour = s / 3600;
      minute = s % 3600 / 60;
      second = s % 60;
    }

-- The date and the time of day of a time from 1950 on.
unfoldable pub civil_of : ℤ → CivilTime
civil_of z =
    let since_1950 = unsigned_abs (z +ℤ pos 631152000) in
    at_second (date_after (since_1950 / 86400)) (since_1950 % 86400)
