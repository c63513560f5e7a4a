-- Forms of texts made of digits, and the numbers that digits write.
use Rattle.std.specs.Prelude.{ℕ, ◌+◌, ◌-◌, ◌*◌, ◌/◌, ◌%◌, ◌<◌, ◌==◌, ◌&&◌, Bool, true, false}
use Rattle.std.specs.Prelude.{if◌then◌else◌, [], ◌∷◌, ◌++◌, slice_index}
use Rattle.std.specs.Char.{is_ascii_digit}
use Rattle.byte_formats.specs.Types.{Text}
use Rattle.cert_time.specs.declared.civil.CivilTime.{CivilTime}

-- A byte at an offset of a form, where 0 in the form is any digit, and anything else is itself.
abbrev pub fits_byte : ℕ → ℕ → Bool
fits_byte form byte = if form == 0x30 then is_ascii_digit byte else byte == form

-- A text that has a form: each of its bytes fits, and it is as long.
abbrev pub fits_form : Text → Text → Bool
fits_form [] [] = true
fits_form (f ∷ form) (b ∷ text) = fits_byte f b && fits_form form text
fits_form _ _ = false

-- The number that two digits, or four, of a text write.
abbrev pub two_digits_at : Text → ℕ → ℕ
two_digits_at text i = 10 * (slice_index text i - 0x30) + (slice_index text (i + 1) - 0x30)

abbrev pub four_digits_at : Text → ℕ → ℕ
four_digits_at text i = 100 * two_digits_at text i + two_digits_at text (i + 2)

-- The digits of a number below 100, and of one below 10000.
abbrev pub two_digits : ℕ → Text
two_digits n = (0x30 + n / 10) ∷ (0x30 + n % 10) ∷ []

abbrev pub four_digits : ℕ → Text
four_digits n = two_digits (n / 100) ++ two_digits (n % 100)

-- The parts of a date and a time of day have as many digits as the forms have positions for them.
pub record HasDigits (c : CivilTime) : Type 0 where
  pub year : c.year < 10000
  pub month : c.month < 100
  pub day : c.day < 100
  pub hour : c.hour < 100
  pub minute : c.minute < 100
  pub second : c.second < 100
