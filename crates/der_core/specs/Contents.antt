-- The contents of elements that have rules of their own.
use Rattle.std.specs.Prelude.{ℕ, ◌-◌, ◌%◌, ◌^◌, Bool, true, false, ◌&&◌, ◌||◌, nat_lt, nat_le, ◌==◌}
use Rattle.std.specs.Prelude.{[], ◌∷◌, length, slice_index, Option, Some, None, Result, Ok, Err}
use Rattle.std.specs.Prelude.{if◌then◌else◌}
use Rattle.byte_formats.specs.Types.{Text}
use Rattle.byte_formats.specs.Numbers.{value}
use Rattle.der_core.specs.declared.fault.DerError.{DerError}
use Rattle.der_core.specs.declared.fault.DerError.TheVariants.{BadInteger, BadBool, BadOid, BadBits}

-- The first nine bits are all alike, so that the first byte could be left out (X.690, section
-- 8.3.2).
abbrev pub is_padded : Text → Bool
is_padded (a ∷ b ∷ rest) = (a == 0x00 && nat_lt b 0x80) || (a == 0xFF && nat_le 0x80 b)
is_padded _ = false

-- The number, where it fits 64 bits.
abbrev pub if_small : ℕ → Option ℕ
if_small n = if nat_lt n (2 ^ 64) then Some n else None

-- INTEGER (8.3): in the fewest bytes and not empty. A number below 0 or from 2 ^ 64 on is none.
unfoldable pub unsigned_of : ℕ → Text → Result (Option ℕ) DerError
unsigned_of place [] = Err (BadInteger place)
unsigned_of place (first ∷ rest) =
    if is_padded (first ∷ rest) then Err (BadInteger place)
    else Ok (if nat_lt first 0x80 then if_small (value 256 (first ∷ rest)) else None)

-- BOOLEAN (8.2 and 11.1): one byte, 00 or FF.
unfoldable pub boolean_of : ℕ → Text → Result Bool DerError
boolean_of place (b ∷ []) =
    if b == 0x00 then Ok false else (if b == 0xFF then Ok true else Err (BadBool place))
boolean_of place _ = Err (BadBool place)

-- Arcs one after the other (8.19.2): each ends with its first byte below 80 and doesn't begin with
-- 80, in hexadecimal. The flag says that an arc begins here.
unfoldable pub are_arcs : Bool → Text → Bool
are_arcs begins [] = begins
are_arcs begins (b ∷ rest) = if begins && b == 0x80 then false else are_arcs (nat_lt b 0x80) rest

-- OBJECT IDENTIFIER (8.19): arcs, at least one.
unfoldable pub oid_of : ℕ → Text → Result Text DerError
oid_of place contents =
    if length contents == 0 then Err (BadOid place)
    else (if are_arcs true contents then Ok contents else Err (BadOid place))

-- So many low bits of the last byte are zero; after no bytes there are none.
abbrev pub are_unused : ℕ → Text → Bool
are_unused unused bytes =
    if length bytes == 0 then unused == 0
    else (slice_index bytes (length bytes - 1) % 2 ^ unused == 0)

-- BIT STRING (8.6 and 11.2): the number of unused bits, from 0 to 7, and the bytes.
unfoldable pub bits_of : ℕ → Text → Result (ℕ × Text) DerError
bits_of place [] = Err (BadBits place)
bits_of place (unused ∷ bytes) =
    if nat_le unused 7 && are_unused unused bytes then Ok (unused, bytes) else Err (BadBits place)
