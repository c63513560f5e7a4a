-- A tally: the first record of its journal says how far it counts, and each later one adds a
-- number. Each is one byte.
use Rattle.std.specs.Prelude.{ℕ, ◌+◌, ◌==◌, nat_le, if◌then◌else◌, length, slice_index}
use Rattle.std.specs.Prelude.{Option, Some, None}
use Rattle.byte_formats.specs.Types.{Text}

-- how far it counts, and how far it has counted
pub record Tally : Type 0 where
  pub limit : ℕ
  pub total : ℕ

-- the tally that a first record begins
abbrev pub begun_tally : Text → Option Tally
begun_tally body =
    if length body == 1 then Some (record { limit = slice_index body 0; total = 0 }) else None

-- a number more, which may not pass the limit
abbrev pub added : Tally → ℕ → Option Tally
added s n =
    if nat_le (s.total + n) s.limit
    then Some (record { limit = s.limit; total = s.total + n }) else None

-- the tally after one record more
abbrev pub next_tally : Tally → Text → Option Tally
next_tally s body = if length body == 1 then added s (slice_index body 0) else None
