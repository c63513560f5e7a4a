use Rattle.std.proofs.Common.{length, ap, ◌∙◌, arith}
use Rattle.authority_core.proofs.Sizes.{octets-short}
use Rattle.authority_core.proofs.issuing.extensions.alt_name.Goals as goal

pub put-requires-2-clause-short : goal.put-requires-2-clause-short
put-requires-2-clause-short c =
    omega (
      arith,
      ap length (c.as_slice.ensures ∙ c.in_ok-octets.ensures),
      octets-short c.request.inside.names c.request.invariant.names,
    )
