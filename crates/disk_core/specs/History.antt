-- What follows from the history of a disk in memory.
use Rattle.std.specs.Prelude.{ℕ, length}
use Rattle.byte_formats.specs.Types.{Text}
use Rattle.disk_core.specs.Noted.{made_calls}
use Rattle.disk_core.specs.Replay.{state_now, IsCrashState, LeftSince}
use Rattle.disk_core.specs.declared.memory.history.History.{History}

-- what a read gives
abbrev pub seen_of : History → Text
seen_of h = (state_now h.first (made_calls h.calls)).seen

-- what a crash now may leave
abbrev pub left_of : History → Text → Type 0
left_of h = IsCrashState (state_now h.first (made_calls h.calls))

-- the number of calls in the record
abbrev pub clock_in : History → ℕ
clock_in h = length (made_calls h.calls)

-- what a crash since that time might have left
abbrev pub since_of : History → ℕ → Text → Type 0
since_of h = LeftSince h.first (made_calls h.calls)
