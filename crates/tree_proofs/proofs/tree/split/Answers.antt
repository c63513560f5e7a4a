use Rattle.std.proofs.Common.{arith}
use Rattle.tree_proofs.proofs.Splits.{shifted, split_inside}
use Rattle.tree_proofs.proofs.tree.split.Goals as goal

pub returns-clause-value : goal.returns-clause-value
returns-clause-value c =
    shifted c.args.count c.ilog2.result c.requires c.ilog2.ensures.bound c.ilog2.ensures.power_le
    c.ilog2.ensures.next_power_gt

pub returns-clause-inside : goal.returns-clause-inside
returns-clause-inside c =
    let inside = split_inside c.args.count c.requires in
    let positive = inside.positive in
    let below = inside.below in
    let is = returns-clause-value c in
    (omega arith, omega arith)
