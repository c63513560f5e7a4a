-- Values one after the other, up to the first that doesn't read.
use Rattle.std.specs.Prelude.{ℕ, zero, suc, List, [], length}
use Rattle.byte_formats.specs.Offsets.{At}
use Rattle.byte_formats.specs.Readings.{Reading}
use Rattle.byte_formats.specs.Lists.{value_then}

-- The first n values, up to the first that doesn't read.
unfoldable pub first_at : {X E : Type 0} → Reading X E → ℕ → At → List X
first_at read zero a = []
first_at read (suc n) a = value_then (read a) (λ b. first_at read n b)

-- All of them, where each takes a byte at least.
abbrev pub left_at : {X E : Type 0} → Reading X E → At → List X
left_at read a = first_at read (length a.rest) a
