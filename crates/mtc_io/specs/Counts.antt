-- Counts of failures. A count is a number of 64 bits that stands still at its last value.
use Rattle.std.specs.Prelude.{◌≡◌, ℕ, ◌+◌, ◌<◌, ◌≤◌, ◌⊎◌, min, max, Result, OnOk, OnErr}

-- the last value of a count
abbrev pub last_count : ℕ
last_count = 18446744073709551615

-- the count rose, or stands at its last value
abbrev pub Rose : ℕ → ℕ → Type 0
Rose before after = (before < after) ⊎ (last_count ≤ after)

-- A call's answer has its cause: the count never falls, an error comes only where it rose, and Ok
-- only where it didn't.
pub record HasCause {T E : Type 0} (before after : ℕ) (result : Result T E) : Type 0 where
  pub later : before ≤ after
  pub failed : OnErr result (Rose before after)
  pub fine : OnOk result (after ≡ before)

-- a count to which more is added: it stops at the last value, and never falls
abbrev pub with_count : ℕ → ℕ → ℕ
with_count before more = max before (min (before + more) last_count)
