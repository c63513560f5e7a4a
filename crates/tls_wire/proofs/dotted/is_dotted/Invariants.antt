use Rattle.std.proofs.Common.{length}
use Rattle.tls_wire.proofs.AnchorTexts.{CountLeft}
use Rattle.tls_wire.proofs.dotted.is_dotted.Given as goal

-- The arcs so far have so many bytes, and with the numbers that are left they make the whole.
abbrev pub invariant-loop-count : goal.invariant-loop-count
invariant-loop-count l = CountLeft l.text l.count l.input

abbrev pub decreases-loop-count : goal.decreases-loop-count
decreases-loop-count l = length l.input.rest
