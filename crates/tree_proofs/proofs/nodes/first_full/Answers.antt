use Rattle.std.proofs.Common.{◌+◌, ap, arith}
use Rattle.std.proofs.lemmas.Nat.{one_shl}
use Rattle.tree_proofs.proofs.Fulls.{begins_full, some_in}
use Rattle.tree_proofs.proofs.nodes.first_full.Goals as goal

pub overflow_sub-end : goal.overflow_sub-end
overflow_sub-end c = let some = some_in c.args.start c.args.end c.requires in omega arith

pub ilog2-level-requires : goal.ilog2-level-requires
ilog2-level-requires c = let some = some_in c.args.start c.args.end c.requires in omega arith

pub returns : goal.returns
returns c =
    let ilog2 = c.ilog2-level.ensures in
    begins_full c.args.start c.args.end c.ilog2-level.result _ c.requires ilog2.bound ilog2.power_le
    ilog2.next_power_gt (ap (λ p. c.args.start + p) (one_shl c.ilog2-level.result 64 ilog2.bound))
