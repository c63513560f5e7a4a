use Rattle.std.proofs.Common.{◌-◌, ◌≤◌, length}
use Rattle.cert_fields.proofs.Twice.{DifferBefore}
use Rattle.cert_fields.proofs.repeats.has_equal_neighbours.Given as goal

-- None of those before has an equal neighbour.
abbrev pub invariant-loop-i : goal.invariant-loop-i
invariant-loop-i l = (1 ≤ l.i) × DifferBefore l.block l.i

abbrev pub decreases-loop-i : goal.decreases-loop-i
decreases-loop-i l = length l.block - l.i
