use Rattle.std.proofs.Common.{length}
use Rattle.byte_formats.specs.Offsets.{at}
use Rattle.byte_formats.specs.Readings.{discarded}
use Rattle.byte_formats.specs.Lists.{up_to_end}
use Rattle.byte_formats.proofs.Loops.{Walks}
use Rattle.tls_wire.specs.Anchors.{arc_at}
use Rattle.tls_wire.proofs.arcs.read_arcs.Given as goal

-- What is left is read as the whole is.
abbrev pub invariant-loop-input : goal.invariant-loop-input
invariant-loop-input l = Walks arc_at (discarded (up_to_end arc_at (at l.fn.bytes 0))) l.input

abbrev pub decreases-loop-input : goal.decreases-loop-input
decreases-loop-input l = length l.input.rest
