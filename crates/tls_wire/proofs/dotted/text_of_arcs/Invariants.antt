use Rattle.std.proofs.Common.{length, string_bytes}
use Rattle.tls_wire.specs.Anchors.{text_of}
use Rattle.tls_wire.proofs.TextLoops.{ArcsLeft}
use Rattle.tls_wire.proofs.dotted.text_of_arcs.Given as goal

-- The text so far and the arcs that are left make the whole.
abbrev pub invariant-loop-input : goal.invariant-loop-input
invariant-loop-input l = ArcsLeft (text_of l.bytes) (string_bytes l.text) l.input

abbrev pub decreases-loop-input : goal.decreases-loop-input
decreases-loop-input l = length l.input.rest
