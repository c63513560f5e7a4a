use Rattle.std.proofs.Common.{arith}
use Rattle.tile_store.proofs.Numbers.{number-one, number-two, number-zero}
use Rattle.tile_store.proofs.layout.number_of.Goals as goal

pub returns-in-0-clause-number : goal.returns-in-0-clause-number
returns-in-0-clause-number c = number-zero c.args.key.level c.args.key.place (omega arith)

pub returns-in-1-clause-number : goal.returns-in-1-clause-number
returns-in-1-clause-number c = number-one c.args.key.level c.args.key.place (omega arith)

pub returns-in_default-clause-number : goal.returns-in_default-clause-number
returns-in_default-clause-number c = number-two c.args.key.level c.args.key.place (omega arith)
