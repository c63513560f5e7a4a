use Rattle.std.proofs.Common.{◌-◌, ◌<◌, ◌^◌, sym, arith}
use Rattle.tree_core.proofs.Powers.{power_over_unique}
use Rattle.tree_core.proofs.Subtrees.{is_subtree-empty, is_subtree-large, is_subtree-over}
use Rattle.tree_core.proofs.subtree.subtree_ok.Goals as goal

pub returns-then-start-end : goal.returns-then-start-end
returns-then-start-end c = sym (is_subtree-empty c.args.start c.args.end c.if-start-end.true)

pub returns-in-Some : goal.returns-in-Some
returns-in-Some c =
    let over = power_over_unique (c.args.end - c.args.start) c.in-Some.power c.in-Some.ensures in
    sym (is_subtree-over c.args.start c.args.end c.in-Some.power c.if-start-end.false over)

pub returns-in-None : goal.returns-in-None
returns-in-None c =
    let large : 2 ^ 63 < c.args.end - c.args.start = c.in-None.ensures in
    sym (is_subtree-large c.args.start c.args.end c.if-start-end.false (omega arith) large)
