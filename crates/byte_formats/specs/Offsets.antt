-- Positions in an input: how far a reader has come, and what is left.
use Rattle.std.specs.Prelude.{ℕ, ◌+◌, ◌<◌, Bool, false, ◌==◌, [], ◌∷◌, length, drop, slice_index}
use Rattle.std.specs.Prelude.{not}
use Rattle.byte_formats.specs.Types.{Text}

-- An offset in an input, and the bytes from there on.
pub record At : Type 0 where
  pub place : ℕ
  pub rest : Text

-- The position at this offset of an input.
abbrev pub at : Text → ℕ → At
at input place = record { place = place; rest = drop place input }

-- The position n bytes further on.
abbrev pub after : ℕ → At → At
after n a = record { place = a.place + n; rest = drop n a.rest }

-- Each item is a byte.
abbrev pub IsBytes : Text → Type 0
IsBytes bytes = (i : ℕ) → slice_index bytes i < 256

-- The bytes begin with this one.
abbrev pub begins_with : ℕ → Text → Bool
begins_with byte [] = false
begins_with byte (first ∷ rest) = first == byte

-- There is at least one byte.
abbrev pub has_bytes : Text → Bool
has_bytes bytes = not (length bytes == 0)
