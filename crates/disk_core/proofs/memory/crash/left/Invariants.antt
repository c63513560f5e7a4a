use Rattle.std.proofs.Common.{◌≡◌}
use Rattle.disk_core.specs.Replay.{IsCrashState}
use Rattle.disk_core.proofs.Calls.{state_in}
use Rattle.disk_core.proofs.memory.crash.left.Given as goal

abbrev pub invariant-loop-change : goal.invariant-loop-change
invariant-loop-change l =
    (l.seen.items ≡ (state_in l.first l.changes l.change-index).seen)
    × IsCrashState (state_in l.first l.changes l.change-index) l.crash_state.items
