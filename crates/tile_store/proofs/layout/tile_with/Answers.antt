use Rattle.std.proofs.Common.{◌/◌, ◌%◌, ◌∙◌, arith}
use Rattle.tile_store.proofs.Numbers.{number-high, number-low, number-middle}
use Rattle.tile_store.proofs.layout.tile_with.Goals as goal

pub returns-then-rest-clause-number : goal.returns-then-rest-clause-number
returns-then-rest-clause-number c = number-high (c.args.number / 65793) ∙ omega arith

pub returns-then-last-clause-number : goal.returns-then-last-clause-number
returns-then-last-clause-number c =
    number-middle (c.args.number / 65793) (c.args.number % 65793 / 257) (omega arith)
    ∙ omega arith

pub returns-else-last-clause-number : goal.returns-else-last-clause-number
returns-else-last-clause-number c =
    number-low (c.args.number / 65793) (c.args.number % 65793 / 257)
    (c.args.number % 65793 % 257) (omega arith) (omega arith)
    ∙ omega arith
