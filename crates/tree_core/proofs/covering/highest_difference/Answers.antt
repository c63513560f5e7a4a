use Rattle.std.proofs.Common.{arith}
use Rattle.tree_core.proofs.Covers.{difference}
use Rattle.tree_core.proofs.covering.highest_difference.Goals as goal

pub overflow_sub-result : goal.overflow_sub-result
overflow_sub-result c =
    let found = difference c.args.first c.args.last c.requires (omega arith) in
    let some = found.1.0 in
    omega arith

pub returns-clause-within : goal.returns-clause-within
returns-clause-within c =
    let found = difference c.args.first c.args.last c.requires (omega arith) in
    let fits = found.1.1 in
    omega arith
