use Rattle.tls_wire.proofs.Decimals.{are_characters}
use Rattle.tls_wire.proofs.decimal.decimal_value.Goals as goal

pub returns-in-Err : goal.returns-in-Err
returns-in-Err c = absurd (c.in-Err.ensures.cases.0 (are_characters c.args.text.now c.requires))
