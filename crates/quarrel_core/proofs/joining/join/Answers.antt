use Rattle.quarrel_core.proofs.JoiningCases.{turned_back}
use Rattle.quarrel_core.proofs.Joins.{joins_if_checked}
use Rattle.quarrel_core.proofs.joining.join.Goals as goal

pub returns-clause-exact : goal.returns-clause-exact
returns-clause-exact g c =
    turned_back g.H.TreeHash.hash c.args.start c.args.end c.args.old.now.size c.args.new
    c.args.node.now c.args.old.now.root c.args.first.now c.args.second.now c.in_ok-joined.joined
    c.in_ok-joined.ensures.joined

pub returns-clause-joins : goal.returns-clause-joins
returns-clause-joins g c =
    joins_if_checked g.H.TreeHash.hash g.met.H.TreeHash.sized c.args.start c.args.end
    c.args.old.now c.args.new c.args.node.now c.args.first.now c.args.second.now
    c.in_ok-joined.joined c.requires.grows c.law_are_whole.ensures c.law_are_whole-2.ensures
    (turned_back g.H.TreeHash.hash c.args.start c.args.end c.args.old.now.size c.args.new
    c.args.node.now c.args.old.now.root c.args.first.now c.args.second.now c.in_ok-joined.joined
    c.in_ok-joined.ensures.joined)
