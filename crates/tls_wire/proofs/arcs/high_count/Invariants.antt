use Rattle.std.proofs.Common.{◌≡◌, ◌+◌, length}
use Rattle.tls_wire.specs.Anchors.{high_count}
use Rattle.tls_wire.proofs.arcs.high_count.Given as goal

-- Those so far and those that are left are all.
abbrev pub invariant-loop-rest : goal.invariant-loop-rest
invariant-loop-rest l = (l.count + high_count l.rest ≡ high_count l.fn.bytes)
    × (l.count + length l.rest ≡ length l.fn.bytes)

abbrev pub decreases-loop-rest : goal.decreases-loop-rest
decreases-loop-rest l = length l.rest
