use Rattle.std.proofs.Common.{◌≡◌, ◌%◌, length, map}
use Rattle.std.specs.Int.Digits.{number_from_digits_after}
use Rattle.tls_wire.specs.Anchors.{base_128}
use Rattle.tls_wire.proofs.arcs.base_128.Given as goal

-- The number so far and the digits that are left make the whole.
abbrev pub invariant-loop-rest : goal.invariant-loop-rest
invariant-loop-rest l = number_from_digits_after 128 l.n (map (λ b. b % 128) l.rest)
    ≡ base_128 l.fn.bytes

abbrev pub decreases-loop-rest : goal.decreases-loop-rest
decreases-loop-rest l = length l.rest
