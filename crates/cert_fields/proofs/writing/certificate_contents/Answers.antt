use Rattle.std.proofs.Common.{ap, length, arith}
use Rattle.cert_fields.proofs.Sizes.{given-short}
use Rattle.cert_fields.proofs.writing.certificate_contents.Goals as goal

pub put_contents-requires-clause-short : goal.put_contents-requires-clause-short
put_contents-requires-clause-short c =
    let short = given-short c.args.parts.now c.in_ok-signed.ensures.serial c.requires.short in
    omega (
      arith,
      ap length c.as_slice.ensures,
      ap length c.in_ok-signed.ensures.exact,
      short.signed,
    )
