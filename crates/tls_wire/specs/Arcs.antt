-- Anchor ids: the contents of a relative object identifier (X.690, section 8.20), and their text
-- in dotted decimal.
use Rattle.std.specs.Prelude.{◌≡◌, ℕ, ◌+◌, ◌/◌, ◌%◌, ◌^◌, ◌<◌, ◌≤◌, List, [], ◌∷◌, ◌++◌, length}
use Rattle.std.specs.Prelude.{map, decimal, flat_map}
use Rattle.std.specs.List.{AllByRecursion}
use Rattle.std.specs.Int.Digits.{digits_of}
use Rattle.byte_formats.specs.Types.{Text}

-- The digits of a number in base 128, the highest first and none for 0, each with the highest bit
-- of its byte set.
abbrev pub high_digits : ℕ → Text
high_digits n = map (λ d. 128 + d) (digits_of 128 n)

-- An arc: its digits in base 128, in the fewest bytes; the highest bit is set in all but the last
-- (8.20.2).
unfoldable pub arc : ℕ → Text
arc n = high_digits (n / 128) ++ (n % 128 ∷ [])

-- The arcs that an anchor id may have.
abbrev pub IsArc : ℕ → Type 0
IsArc n = n < 2 ^ 64

-- A dot and a number.
abbrev pub dot_decimal : ℕ → Text
dot_decimal n = 0x2E ∷ decimal n

-- Numbers in decimal, with dots between them.
abbrev pub dotted : List ℕ → Text
dotted [] = []
dotted (n ∷ ns) = decimal n ++ flat_map dot_decimal ns

-- The bytes of an anchor id: 1 to 255 bytes, which are arcs, one after the other.
pub record IsAnchorId (bytes : Text) : Type 0 where
  pub arcs : List ℕ
  pub are_arcs : AllByRecursion IsArc arcs
  pub encoded : bytes ≡ flat_map arc arcs
  pub some : 0 < length bytes
  pub short : length bytes ≤ 255
