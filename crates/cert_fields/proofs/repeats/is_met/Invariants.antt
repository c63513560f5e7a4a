use Rattle.cert_fields.specs.Extensions.{is_among, any_among, identifiers}
use Rattle.cert_fields.specs.Views.{texts}
use Rattle.cert_fields.proofs.Walks.{StillAny}
use Rattle.cert_fields.proofs.repeats.is_met.Given as goal

-- The extensions that are left to read have an identifier of the block if all of them have one.
abbrev pub invariant-loop-left : goal.invariant-loop-left
invariant-loop-left l =
    StillAny (any_among (texts l.fn.block) (identifiers l.fn.count l.fn.list))
    (λ identifier. is_among identifier (texts l.fn.block)) l.left l.reader

abbrev pub decreases-loop-left : goal.decreases-loop-left
decreases-loop-left l = l.left
