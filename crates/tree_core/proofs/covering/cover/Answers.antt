use Rattle.std.proofs.Common.{sym, arith}
use Rattle.tree_core.proofs.Covers.{cover_of-one, cover_of-two, covers_found, covers_one}
use Rattle.tree_core.proofs.covering.cover.Goals as goal

pub returns-then-end-start-eq1-clause-exact : goal.returns-then-end-start-eq1-clause-exact
returns-then-end-start-eq1-clause-exact c =
    sym (cover_of-one c.args.start c.args.end c.if-end-start-eq1.true)

pub returns-then-end-start-eq1-clause-covers : goal.returns-then-end-start-eq1-clause-covers
returns-then-end-start-eq1-clause-covers c =
    covers_one c.args.start c.args.end c.if-end-start-eq1.true

pub returns-clause-exact : goal.returns-clause-exact
returns-clause-exact c =
    cover_of-two c.args.start c.args.end _ _ _ _ c.if-end-start-eq1.false
    c.highest_difference-split.ensures.bit
    c.length_lacking-left_split.ensures.length c.without_low-middle.ensures c.without_low.ensures

pub returns-clause-covers : goal.returns-clause-covers
returns-clause-covers c =
    covers_found c.args.start c.args.end _ _ _ _ c.requires c.if-end-start-eq1.false (omega arith)
    c.highest_difference-split.ensures.bit c.length_lacking-left_split.ensures.length
    c.without_low-middle.ensures
    c.without_low.ensures
