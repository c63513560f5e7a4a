use Rattle.std.proofs.Common.{length}
use Rattle.tls_wire.specs.Anchors.{arcs_in}
use Rattle.tls_wire.proofs.TextLoops.{NumbersLeft}
use Rattle.tls_wire.proofs.dotted.arcs_of_text.Given as goal

-- The arcs so far and the numbers that are left make the whole.
abbrev pub invariant-loop-input : goal.invariant-loop-input
invariant-loop-input l = NumbersLeft (arcs_in l.text) l.bytes l.input

abbrev pub decreases-loop-input : goal.decreases-loop-input
decreases-loop-input l = length l.input.rest
