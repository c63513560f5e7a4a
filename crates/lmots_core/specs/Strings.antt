-- Byte strings, cut and joined as RFC 8554 does (3.1).
use Rattle.std.specs.Prelude.{ℕ, zero, suc, [], ◌++◌, take, drop}
use Rattle.std.specs.Int.{w32, from_be_bytes}
use Rattle.byte_formats.specs.Types.{Text}

-- The 32 bytes of s from offset i on: a hash, or a seed.
abbrev pub value_at : Text → ℕ → Text
value_at s i = take 32 (drop i s)

-- The number that the 4 bytes of s from offset i on encode, the highest first: strTou32 (3.1.1).
unfoldable pub u32_at : Text → ℕ → ℕ
u32_at s i = from_be_bytes w32 (take 4 (drop i s))

-- f 0, …, f (n - 1), one after the other: what keys, signatures and paths are made of.
unfoldable pub concatenated : (ℕ → Text) → ℕ → Text
concatenated f zero = []
concatenated f (suc n) = concatenated f n ++ f n
