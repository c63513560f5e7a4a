use Rattle.std.proofs.Common.{◌≡◌, ◌++◌, take}
use Rattle.std.specs.List.{flat_map}
use Rattle.mtc_monitor.specs.HeldOutcome.{signed_line}
use Rattle.mtc_monitor.proofs.held_lines.put_steps.Given as goal

-- The lines of the steps so far stand after the bytes.
abbrev pub invariant-loop-step : goal.invariant-loop-step
invariant-loop-step l = l.out ≡ l.initial.out ++ flat_map signed_line (take l.step-index l.steps)
