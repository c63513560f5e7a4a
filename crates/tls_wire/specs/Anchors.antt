-- Reading anchor ids (X.690, section 8.20.2), with their faults in their order.
use Rattle.std.specs.Prelude.{ℕ, ◌+◌, ◌%◌, ◌^◌, nat_lt, nat_le, ◌==◌, Bool, true, not}
use Rattle.std.specs.Prelude.{List, [], ◌∷◌, length, map, take, drop, flat_map, Result, Ok, Err}
use Rattle.std.specs.Prelude.{if◌then◌else◌}
use Rattle.std.specs.Char.{is_ascii_digit}
use Rattle.std.specs.List.{prefix_len, take_while}
use Rattle.std.specs.Int.Digits.{number_from_digits}
use Rattle.std.specs.Str.Parse.{digits_value}
use Rattle.byte_formats.specs.Types.{Text}
use Rattle.byte_formats.specs.Offsets.{At, at, after, begins_with}
use Rattle.byte_formats.specs.Readings.{Reading, ◌>>=◌, is_read, discarded}
use Rattle.byte_formats.specs.Lists.{up_to_end}
use Rattle.tls_wire.specs.Arcs.{arc, dotted}
use Rattle.tls_wire.specs.Decimal.{is_decimal}
use Rattle.tls_wire.specs.declared.fault.AnchorError.{AnchorError}
use Rattle.tls_wire.specs.declared.fault.AnchorError.TheVariants as text_faults
use Rattle.tls_wire.specs.declared.fault.AnchorBytesError.{AnchorBytesError}
use Rattle.tls_wire.specs.declared.fault.AnchorBytesError.TheVariants as byte_faults

-- ---- bytes

-- How many bytes with the highest bit set begin what is left: the digits of an arc before the last.
abbrev pub high_count : Text → ℕ
high_count bytes = prefix_len (λ b. nat_le 0x80 b) bytes

-- The number that digits in base 128 write, whatever the highest bit of each byte.
abbrev pub base_128 : Text → ℕ
base_128 bytes = number_from_digits 128 (map (λ b. b % 128) bytes)

-- One arc: these bytes, up to its last one. It doesn't begin with a digit of 0, and where it is too
-- large, its end isn't searched.
abbrev pub arc_of : Text → Reading ℕ AnchorBytesError
arc_of bytes a =
    if begins_with 0x80 a.rest then Err (byte_faults.Padding a.place)
    else (if nat_le (2 ^ 64) (base_128 bytes) then Err (byte_faults.ArcTooLarge a.place)
    else (if length bytes == high_count a.rest then Err byte_faults.Unfinished
    else Ok (base_128 bytes, after (length bytes) a)))

unfoldable pub arc_at : Reading ℕ AnchorBytesError
arc_at a = arc_of (take (high_count a.rest + 1) a.rest) a

-- The bytes are arcs up to their end.
unfoldable pub arcs_only : Text → Result (Unit {0}) AnchorBytesError
arcs_only bytes = discarded (up_to_end arc_at (at bytes 0)) >>= λ end. Ok tt

-- The anchor id with these bytes.
unfoldable pub anchor_of : Text → Result Text AnchorBytesError
anchor_of bytes =
    if length bytes == 0 then Err byte_faults.Empty
    else (if nat_lt 255 (length bytes) then Err byte_faults.TooLong
    else (arcs_only bytes >>= λ done. Ok bytes))

-- ---- texts

-- What ends a number: a dot, or the end.
abbrev pub ends_number : Text → Bool
ends_number [] = true
ends_number (c ∷ rest) = c == 0x2E

-- One number: these digits, up to a dot or the end.
abbrev pub decimal_of : Text → Reading ℕ AnchorError
decimal_of digits a =
    if length digits == 0 then Err (text_faults.NotDecimal a.place)
    else (if not (is_decimal digits) then Err (text_faults.LeadingZero a.place)
    else (if nat_le (2 ^ 64) (digits_value 10 digits) then Err (text_faults.ArcTooLarge a.place)
    else (if ends_number (drop (length digits) a.rest) then
    Ok (digits_value 10 digits, after (length digits) a)
    else Err (text_faults.NotDecimal (a.place + length digits)))))

unfoldable pub decimal_at : Reading ℕ AnchorError
decimal_at a = decimal_of (take_while is_ascii_digit a.rest) a

-- A dot, and a number.
unfoldable pub dot_decimal_at : Reading ℕ AnchorError
dot_decimal_at a =
    if begins_with 0x2E a.rest then decimal_at (after 1 a)
    else Err (text_faults.NotDecimal a.place)

-- The arcs of a text in dotted decimal, one after the other.
unfoldable pub arcs_in : Text → Result Text AnchorError
arcs_in text =
    decimal_at (at text 0) >>= λ n.
    up_to_end dot_decimal_at n.1 >>= λ ns.
    Ok (flat_map arc (n.0 ∷ ns.0))

-- The anchor id with this text: first its numbers, then the length of its bytes.
unfoldable pub anchor_text : Text → Result Text AnchorError
anchor_text text =
    if length text == 0 then Err text_faults.Empty
    else (
    arcs_in text >>= λ bytes.
    if nat_lt 255 (length bytes) then Err text_faults.TooLong else Ok bytes
    )

-- The text is that of an anchor id.
abbrev pub is_anchor_text : Text → Bool
is_anchor_text text = is_read (anchor_text text)

-- The text of the anchor id with these bytes: its arcs in dotted decimal.
abbrev pub text_in : Result (List ℕ × At) AnchorBytesError → Text
text_in (Ok x) = dotted x.0
text_in (Err e) = []

unfoldable pub text_of : Text → Text
text_of bytes = text_in (up_to_end arc_at (at bytes 0))
