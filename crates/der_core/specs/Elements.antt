-- The distinguished encoding of an element: a tag of one byte, a length in the fewest bytes, the
-- contents (X.690, sections 8.1 and 10.1).
use Rattle.std.specs.Prelude.{◌≢◌, ℕ, ◌/◌, ◌%◌, ◌^◌, ◌<◌, nat_lt, [], ◌∷◌, ◌++◌, length}
use Rattle.std.specs.Prelude.{if◌then◌else◌}
use Rattle.byte_formats.specs.Types.{Text}

-- A length below 2 ^ 24 in the fewest bytes (8.1.3 and 10.1): one byte if it is below 128, else a
-- byte that counts its bytes, and these.
abbrev pub length_octets : ℕ → Text
length_octets n =
    if nat_lt n 0x80 then n ∷ []
    else (if nat_lt n 0x100 then 0x81 ∷ n ∷ []
    else (if nat_lt n 0x10000 then 0x82 ∷ n / 256 ∷ n % 256 ∷ []
    else 0x83 ∷ n / 65536 ∷ n / 256 % 256 ∷ n % 256 ∷ []))

-- Tag, length and contents.
unfoldable pub element : ℕ → Text → Text
element tag contents = tag ∷ (length_octets (length contents) ++ contents)

-- A tag of one byte: its low five bits aren't all ones (8.1.2.2).
pub record IsTag (tag : ℕ) : Type 0 where
  pub byte : tag < 256
  pub low : tag % 32 ≢ 31

-- What has an encoding here.
pub record FitsElement (tag : ℕ) (contents : Text) : Type 0 where
  pub is_tag : IsTag tag
  pub short : length contents < 2 ^ 24
