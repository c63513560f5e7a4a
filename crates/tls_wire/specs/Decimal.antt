-- Numbers in decimal, alone in their text.
use Rattle.std.specs.Prelude.{ℕ, ◌^◌, ◌==◌, ◌&&◌, ◌||◌, Bool, not, nat_lt, length, slice_index}
use Rattle.std.specs.Prelude.{Option, Some, None, if◌then◌else◌}
use Rattle.std.specs.Str.{all_ascii_digits}
use Rattle.std.specs.Str.Parse.{digits_value}
use Rattle.byte_formats.specs.Types.{Text}

-- Digits alone, at least one, and no zero before another digit.
abbrev pub is_decimal : Text → Bool
is_decimal text = nat_lt 0 (length text) && all_ascii_digits text && ((length text == 1) || not
    (slice_index text 0 == 0x30))

-- The number that a text is: decimal, and at most 2^63 - 1.
unfoldable pub number_of : Text → Option ℕ
number_of text =
    if is_decimal text && nat_lt (digits_value 10 text) (2 ^ 63) then Some (digits_value 10 text)
    else None
