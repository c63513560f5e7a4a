-- The times of a certificate, and its validity (RFC 5280, section 4.1.2.5; X.690, sections 11.7
-- and 11.8).
use Rattle.std.specs.Prelude.{ℕ, ◌+◌, ◌/◌, ◌%◌, ◌==◌, nat_lt, if◌then◌else◌, ℤ, ◌∷◌, ◌++◌, length}
use Rattle.std.specs.Prelude.{codes, Option, None}
use Rattle.byte_formats.specs.Types.{Text}
use Rattle.cert_time.specs.declared.civil.CivilTime.{CivilTime}
use Rattle.cert_time.specs.Calendar.{Period, unix_time_from, civil_of}
use Rattle.cert_time.specs.Forms.{fits_form, two_digits_at, four_digits_at, two_digits}

-- MMDDHHMMSS at an offset, in a year.
abbrev pub civil_in : ℕ → ℕ → Text → CivilTime
civil_in year i t =
    record {
      year = year;
      month = two_digits_at t i;
      day = two_digits_at t (i + 2);
      hour = two_digits_at t (i + 4);
      minute = two_digits_at t (i + 6);
      second = two_digits_at t (i + 8);
    }

-- UTCTime (4.1.2.5.1): YYMMDDHHMMSSZ, where a year below 50 is one of the 2000s, and any other one
-- of the 1900s.
abbrev pub full_year : ℕ → ℕ
full_year yy = if nat_lt yy 50 then 2000 + yy else 1900 + yy

abbrev pub utc_form : Text
utc_form = codes "000000000000Z"

abbrev pub utc_parts : Text → CivilTime
utc_parts t = civil_in (full_year (two_digits_at t 0)) 2 t

abbrev pub utc_with : CivilTime → Text
utc_with c =
    two_digits (c.year % 100) ++ (two_digits c.month ++ (two_digits c.day
    ++ (two_digits c.hour ++ (two_digits c.minute ++ (two_digits c.second ++ codes "Z")))))

-- GeneralizedTime (4.1.2.5.2): YYYYMMDDHHMMSSZ, for the years from 2050 on.
abbrev pub general_form : Text
general_form = codes "00000000000000Z"

abbrev pub general_parts : Text → CivilTime
general_parts t = civil_in (four_digits_at t 0) 4 t

abbrev pub general_with : CivilTime → Text
general_with c = two_digits (c.year / 100) ++ utc_with c

-- The time that the contents of an element name: UTCTime has tag 0x17, and GeneralizedTime tag
-- 0x18.
unfoldable pub utc_unix_time : Text → Option ℤ
utc_unix_time t = if fits_form utc_form t then unix_time_from 1950 (utc_parts t) else None

unfoldable pub general_unix_time : Text → Option ℤ
general_unix_time t =
    if fits_form general_form t then unix_time_from 2050 (general_parts t) else None

unfoldable pub unix_time_in : ℕ → Text → Option ℤ
unix_time_in tag contents =
    if tag == 0x17 then utc_unix_time contents
    else (if tag == 0x18 then general_unix_time contents else None)

-- The time of a date and a time of day: UTCTime up to 2049, and GeneralizedTime from 2050 on.
abbrev pub tag_with : CivilTime → ℕ
tag_with c = if nat_lt c.year 2050 then 0x17 else 0x18

abbrev pub contents_with : CivilTime → Text
contents_with c = if nat_lt c.year 2050 then utc_with c else general_with c

-- The tag and the contents of the encoding that represents a time.
unfoldable pub time_tag : ℤ → ℕ
time_tag z = tag_with (civil_of z)

unfoldable pub time_contents : ℤ → Text
time_contents z = contents_with (civil_of z)

-- An element of DER whose contents have fewer than 128 bytes: its tag, its length in one byte, and
-- its contents.
abbrev pub short_element : ℕ → Text → Text
short_element tag contents = tag ∷ length contents ∷ contents

-- A validity, as an element: a SEQUENCE of two times.
abbrev pub sequence_of_times : ℕ → Text → ℕ → Text → Text
sequence_of_times first_tag first second_tag second =
    short_element 0x30 (short_element first_tag first ++ short_element second_tag second)

unfoldable pub validity_element : Period → Text
validity_element p =
    sequence_of_times (time_tag p.not_before) (time_contents p.not_before)
    (time_tag p.not_after) (time_contents p.not_after)
