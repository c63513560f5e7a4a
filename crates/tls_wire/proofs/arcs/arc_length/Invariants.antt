use Rattle.std.proofs.Common.{length}
use Rattle.tls_wire.specs.Arcs.{arc}
use Rattle.tls_wire.proofs.AnchorTexts.{Counted}
use Rattle.tls_wire.proofs.arcs.arc_length.Given as goal

-- The bytes so far, and the digits that are left, make the arc.
abbrev pub invariant-loop-high : goal.invariant-loop-high
invariant-loop-high l = Counted (length (arc l.fn.value)) l.count l.high

abbrev pub decreases-loop-high : goal.decreases-loop-high
decreases-loop-high l = l.high
