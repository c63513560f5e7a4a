use Rattle.std.proofs.Common.{◌≡◌}
use Rattle.cert_fields.specs.Extensions.{are_repeated, identifiers}
use Rattle.cert_fields.proofs.repeats.has_repeats_by.Given as goal

-- Two of the extensions that are left have the same identifier where two of all have it.
abbrev pub invariant-loop-left : goal.invariant-loop-left
invariant-loop-left l = are_repeated (identifiers l.left l.reader)
    ≡ are_repeated (identifiers l.fn.count l.fn.list)

abbrev pub decreases-loop-left : goal.decreases-loop-left
decreases-loop-left l = l.left
