use Rattle.tls_wire.proofs.Decimals.{refused}
use Rattle.tls_wire.proofs.decimal.parsed.Goals as goal

pub returns-in-Err : goal.returns-in-Err
returns-in-Err c = refused c.args.digits.now c.in-Err.field-0 c.in-Err.ensures.value.0 c.requires
