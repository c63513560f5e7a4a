use Rattle.std.proofs.Common.{◌+◌, ◌-◌, ◌<◌, ◌∙◌, arith}
use Rattle.tree_core.specs.Path.{part_of, path_of}
use Rattle.tree_proofs.proofs.Fulls.{modelled_within}
use Rattle.tree_proofs.proofs.Making.{cause_on, made_by, not_higher, path_of_one, split_left}
use Rattle.tree_proofs.proofs.Making.{split_right}
use Rattle.tree_proofs.proofs.Parts.{path-left, path-right}
use Rattle.tree_proofs.proofs.inclusion.+include.Goals as goal

pub returns-then-end-start-eq1-clause-path : goal.returns-then-end-start-eq1-clause-path
returns-then-end-start-eq1-clause-path g t c =
    path_of_one g.N.H.TreeHash.hash (g.N.Nodes.leaves c.args.nodes.now) c.args.index c.args.start
    c.args.end _
    (let one = c.if-end-start-eq1.true in omega arith)
    (modelled_within _ _ c.args.end (g.met.N.Nodes.counted c.args.nodes.now) c.requires.within)
    c.clear.ensures

pub push_node-requires-clause-capacity : goal.push_node-requires-clause-capacity
push_node-requires-clause-capacity g t c = let short =
    c.in_ok-include.ensures.short 64 (omega arith) in omega arith

pub returns-in_ok-include-clause-path : goal.returns-in_ok-include-clause-path
returns-in_ok-include-clause-path g t c =
    let split = c.split_between-middle.ensures in
    let from = split.from in
    let below = split.below in
    let more : c.args.start + 1 < c.args.end = omega arith in
    made_by c.push_node.result g.N.H.TreeHash.hash
    (g.N.Nodes.leaves c.args.nodes.now) (g.N.Nodes.leaves c.include.new.nodes)
    (λ xs. path_of g.N.H.TreeHash.hash (c.args.index - c.args.start)
    (part_of xs c.args.start c.split_between-middle.result))
    (λ xs. path_of g.N.H.TreeHash.hash (c.args.index - c.args.start)
    (part_of xs c.args.start c.args.end))
    c.args.end c.split_between-middle.result c.args.end c.include.new.out
    c.push_node.new.out
    (λ xs within. path-left g.N.H.TreeHash.hash xs c.args.index c.args.start
    c.split_between-middle.result c.args.end within more
    c.split_between-middle.ensures.split c.requires.from c.if-index-middle.true)
    (modelled_within _ _ c.args.end (g.met.N.Nodes.counted c.args.nodes.now) c.requires.within)
    c.in_ok-include.ensures.list c.in_ok-include.ensures.path
    c.push_node.ensures.pushed

pub returns-in_ok-include-clause-short : goal.returns-in_ok-include-clause-short
returns-in_ok-include-clause-short g t c =
    let split = c.split_between-middle.ensures in
    let from = split.from in
    let below = split.below in
    not_higher c.push_node.result g.N.H.TreeHash.hash
    (g.N.Nodes.leaves c.include.new.nodes)
    c.args.start c.args.end c.split_between-middle.result c.args.end _
    c.include.new.out c.push_node.new.out (omega arith)
    (split_left c.args.start _ c.args.end split.split) c.in_ok-include.ensures.short
    c.push_node.ensures.pushed

pub returns-in_ok-include-clause-list : goal.returns-in_ok-include-clause-list
returns-in_ok-include-clause-list g t c =
    c.push_node.ensures.list ∙ c.in_ok-include.ensures.list

pub returns-in_ok-include-clause-count : goal.returns-in_ok-include-clause-count
returns-in_ok-include-clause-count g t c =
    c.push_node.ensures.count ∙ c.in_ok-include.ensures.count

pub returns-in_ok-include-clause-stays : goal.returns-in_ok-include-clause-stays
returns-in_ok-include-clause-stays g t c =
    g.met.N.Nodes.stays_on c.args.nodes.now c.include.new.nodes
    c.push_node.new.nodes c.in_ok-include.ensures.stays
    c.push_node.ensures.stays

pub returns-in_ok-include-clause-cause : goal.returns-in_ok-include-clause-cause
returns-in_ok-include-clause-cause g t c =
    cause_on c.push_node.result _ _ _ c.in_ok-include.ensures.cause.fine
    c.push_node.ensures.cause

pub push_node-requires-else-index-middle-clause-capacity :
    goal.push_node-requires-else-index-middle-clause-capacity
push_node-requires-else-index-middle-clause-capacity g t c = let short =
    c.in_ok-include-2.ensures.short 64 (omega arith) in omega arith

pub returns-in_ok-include-2-clause-path : goal.returns-in_ok-include-2-clause-path
returns-in_ok-include-2-clause-path g t c =
    let split = c.split_between-middle.ensures in
    let from = split.from in
    let below = split.below in
    let more : c.args.start + 1 < c.args.end = omega arith in
    made_by c.push_node-else-index-middle.result g.N.H.TreeHash.hash
    (g.N.Nodes.leaves c.args.nodes.now) (g.N.Nodes.leaves c.include-else-index-middle.new.nodes)
    (λ xs. path_of g.N.H.TreeHash.hash (c.args.index - c.split_between-middle.result)
    (part_of xs c.split_between-middle.result c.args.end))
    (λ xs. path_of g.N.H.TreeHash.hash (c.args.index - c.args.start)
    (part_of xs c.args.start c.args.end))
    c.args.end c.args.start c.split_between-middle.result c.include-else-index-middle.new.out
    c.push_node-else-index-middle.new.out
    (λ xs within. path-right g.N.H.TreeHash.hash xs c.args.index c.args.start
    c.split_between-middle.result c.args.end within more
    c.split_between-middle.ensures.split c.if-index-middle.false)
    (modelled_within _ _ c.args.end (g.met.N.Nodes.counted c.args.nodes.now) c.requires.within)
    c.in_ok-include-2.ensures.list c.in_ok-include-2.ensures.path
    c.push_node-else-index-middle.ensures.pushed

pub returns-in_ok-include-2-clause-short : goal.returns-in_ok-include-2-clause-short
returns-in_ok-include-2-clause-short g t c =
    let split = c.split_between-middle.ensures in
    let from = split.from in
    let below = split.below in
    not_higher c.push_node-else-index-middle.result g.N.H.TreeHash.hash
    (g.N.Nodes.leaves c.include-else-index-middle.new.nodes)
    c.args.start c.args.end c.args.start c.split_between-middle.result _
    c.include-else-index-middle.new.out c.push_node-else-index-middle.new.out (omega arith)
    (split_right c.args.start _ c.args.end split.split) c.in_ok-include-2.ensures.short
    c.push_node-else-index-middle.ensures.pushed

pub returns-in_ok-include-2-clause-list : goal.returns-in_ok-include-2-clause-list
returns-in_ok-include-2-clause-list g t c =
    c.push_node-else-index-middle.ensures.list ∙ c.in_ok-include-2.ensures.list

pub returns-in_ok-include-2-clause-count : goal.returns-in_ok-include-2-clause-count
returns-in_ok-include-2-clause-count g t c =
    c.push_node-else-index-middle.ensures.count ∙ c.in_ok-include-2.ensures.count

pub returns-in_ok-include-2-clause-stays : goal.returns-in_ok-include-2-clause-stays
returns-in_ok-include-2-clause-stays g t c =
    g.met.N.Nodes.stays_on c.args.nodes.now c.include-else-index-middle.new.nodes
    c.push_node-else-index-middle.new.nodes c.in_ok-include-2.ensures.stays
    c.push_node-else-index-middle.ensures.stays

pub returns-in_ok-include-2-clause-cause : goal.returns-in_ok-include-2-clause-cause
returns-in_ok-include-2-clause-cause g t c =
    cause_on c.push_node-else-index-middle.result _ _ _ c.in_ok-include-2.ensures.cause.fine
    c.push_node-else-index-middle.ensures.cause
