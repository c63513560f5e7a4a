use Rattle.std.proofs.Common.{length}
use Rattle.monitor_core.proofs.Skips.{Skips}
use Rattle.monitor_core.proofs.state_text.after_report.Given as goal

-- The lines that are left lead where all of them do.
abbrev pub invariant-lines : goal.invariant-lines
invariant-lines l = Skips l.fn.text l.n l.rest

abbrev pub decreases-lines : goal.decreases-lines
decreases-lines l = length l.rest
