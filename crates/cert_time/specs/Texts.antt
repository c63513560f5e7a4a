-- Times as texts: YYYY-MM-DDTHH:MM:SSZ.
use Rattle.std.specs.Prelude.{if◌then◌else◌, ℤ, ◌++◌, codes, Option, None}
use Rattle.byte_formats.specs.Types.{Text}
use Rattle.cert_time.specs.declared.civil.CivilTime.{CivilTime}
use Rattle.cert_time.specs.Calendar.{unix_time_from, civil_of}
use Rattle.cert_time.specs.Forms.{fits_form, two_digits_at, four_digits_at, two_digits, four_digits}

-- The form of a text.
abbrev pub text_form : Text
text_form = codes "0000-00-00T00:00:00Z"

-- The parts that a text in this form has.
abbrev pub text_parts : Text → CivilTime
text_parts t =
    record {
      year = four_digits_at t 0;
      month = two_digits_at t 5;
      day = two_digits_at t 8;
      hour = two_digits_at t 11;
      minute = two_digits_at t 14;
      second = two_digits_at t 17;
    }

-- The text with these parts.
abbrev pub text_with : CivilTime → Text
text_with c =
    four_digits c.year ++ (codes "-" ++ (two_digits c.month ++ (codes "-" ++ (two_digits c.day
    ++ (codes "T" ++ (two_digits c.hour ++ (codes ":" ++ (two_digits c.minute
    ++ (codes ":" ++ (two_digits c.second ++ codes "Z"))))))))))

-- The time that a text names: it has the form, and the date and the time of day exist, in 1950 or
-- later.
unfoldable pub text_unix_time : Text → Option ℤ
text_unix_time t = if fits_form text_form t then unix_time_from 1950 (text_parts t) else None

-- The text of a time.
unfoldable pub unix_time_text : ℤ → Text
unix_time_text z = text_with (civil_of z)
