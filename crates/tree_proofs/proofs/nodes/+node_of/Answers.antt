use Rattle.std.proofs.Common.{◌<◌, ◌∙◌, arith}
use Rattle.tree_proofs.proofs.Fulls.{joined, root_at, modelled_within}
use Rattle.tree_proofs.proofs.nodes.+node_of.Goals as goal

pub returns-then-middle-end-clause-value : goal.returns-then-middle-end-clause-value
returns-then-middle-end-clause-value g t c =
    let full = c.first_full-level.ensures in
    root_at g.N.H.TreeHash.hash (g.N.Nodes.leaves c.args.nodes.now) _ _ c.args.start c.args.end
    c.in_ok-node.node
    full.begins (full.ends ∙ c.if-middle-end.true) c.in_ok-node.ensures.value

pub returns-clause-value : goal.returns-clause-value
returns-clause-value g t c =
    let full = c.first_full-level.ensures in
    let within = full.within in
    let other = c.if-middle-end.false in
    let more : c.first_full-level.result.1 < c.args.end = omega arith in
    let modelled = modelled_within (g.N.Nodes.leaves c.args.nodes.now)
    (g.N.Nodes.count c.args.nodes.now) c.args.end
    (g.met.N.Nodes.counted c.args.nodes.now) c.requires.within in
    joined g.N.H.TreeHash.hash (g.N.Nodes.leaves c.args.nodes.now)
    (g.N.Nodes.leaves c.node.new.self)
    c.args.start c.first_full-level.result.1 c.args.end c.in_ok-node.node c.in_ok-rest.rest
    c.pair.result
    full.inside more (full.split more) modelled c.in_ok-node.ensures.list
    (root_at g.N.H.TreeHash.hash (g.N.Nodes.leaves c.args.nodes.now) _ _ c.args.start
    c.first_full-level.result.1
    c.in_ok-node.node full.begins full.ends c.in_ok-node.ensures.value)
    c.in_ok-rest.ensures.value c.pair.ensures
