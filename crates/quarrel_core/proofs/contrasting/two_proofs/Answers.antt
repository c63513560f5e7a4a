use Rattle.std.proofs.Common.{◌≡◌, rules}
use Rattle.tree_proofs.proofs.Fulls.{some_in}
use Rattle.quarrel_core.proofs.Contrasts.{extracts_found}
use Rattle.quarrel_core.proofs.contrasting.two_proofs.Goals as goal

pub contrast_in-requires-clause-order : goal.contrast_in-requires-clause-order
contrast_in-requires-clause-order g c = some_in c.args.start c.args.end c.requires.first.valid

pub contrast_in-requires-clause-within : goal.contrast_in-requires-clause-within
contrast_in-requires-clause-within g c = c.requires.first.within

pub returns : goal.returns
returns g c =
    let differ : c.args.node.now ≡ c.args.other.now → ⊥ = search rules in
    extracts_found g.H.TreeHash.hash c.args.start c.args.end c.args.held.now.size
    c.args.node.now c.args.other.now c.args.held.now.root c.args.first.now c.args.second.now
    c.in_ok-finding.finding
    c.requires.first c.requires.second c.law_are_whole.ensures c.law_are_whole-2.ensures differ
    c.in_ok-finding.ensures.finding
