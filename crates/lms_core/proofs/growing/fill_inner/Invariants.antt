use Rattle.std.proofs.Common.{◌+◌, ◌-◌}
use Rattle.lms_core.specs.Held.{HoldsFrom}
use Rattle.lms_core.proofs.growing.fill_inner.Given as goal

abbrev pub invariant-loop-step : goal.invariant-loop-step
invariant-loop-step l = HoldsFrom l.key (l.leaves + 1 - l.step) l.nodes
