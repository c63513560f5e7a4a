use Rattle.std.proofs.Common.{◌+◌, ◌-◌, ◌<◌, false, ◌∙◌, arith}
use Rattle.tree_core.specs.Path.{part_of}
use Rattle.tree_proofs.proofs.Fulls.{some_in, modelled_within}
use Rattle.tree_proofs.proofs.Made.{part_proof-left, part_proof-over, part_proof-right}
use Rattle.tree_proofs.proofs.Making.{cause_on, made_by, one_alone, one_higher, part_from}
use Rattle.tree_proofs.proofs.Making.{proof_of_known, proof_of_root, split_left, split_right}
use Rattle.tree_proofs.specs.Proof.{proof_of}
use Rattle.tree_proofs.proofs.consistency.+consist_in.Goals as goal

pub returns-then-known-clause-proof : goal.returns-then-known-clause-proof
returns-then-known-clause-proof g t c =
    proof_of_known g.N.H.TreeHash.hash (g.N.Nodes.leaves c.args.nodes.now) c.args.low c.args.high
    c.args.start c.args.end
    c.args.known _ (some_in c.args.low c.args.high c.requires.valid) c.if-low-start.true
    c.if-high-end.true
    (modelled_within _ _ c.args.high (g.met.N.Nodes.counted c.args.nodes.now) c.requires.within)
    c.if-known.true c.clear.ensures

pub returns-then-high-end-clause-proof : goal.returns-then-high-end-clause-proof
returns-then-high-end-clause-proof g t c =
    proof_of_root c.push_node.result g.N.H.TreeHash.hash (g.N.Nodes.leaves c.args.nodes.now)
    c.args.low c.args.high c.args.start c.args.end c.args.known c.clear.new.self
    c.push_node.new.out (some_in c.args.low c.args.high c.requires.valid) c.if-low-start.true
    c.if-high-end.true
    (modelled_within _ _ c.args.high (g.met.N.Nodes.counted c.args.nodes.now) c.requires.within)
    c.if-known.false c.clear.ensures c.push_node.ensures.pushed

pub returns-then-high-end-clause-short : goal.returns-then-high-end-clause-short
returns-then-high-end-clause-short g t c =
    one_alone c.push_node.result g.N.H.TreeHash.hash (g.N.Nodes.leaves c.args.nodes.now)
    c.args.low c.args.high (c.args.high - c.args.low) c.clear.new.self c.push_node.new.out
    c.clear.ensures c.push_node.ensures.pushed

pub push_node-requires-then-end-middle-clause-capacity :
    goal.push_node-requires-then-end-middle-clause-capacity
push_node-requires-then-end-middle-clause-capacity g t c = let short =
    c.in_ok-consist_in.ensures.short 64 (omega arith) in omega arith

pub returns-in_ok-consist_in-clause-proof : goal.returns-in_ok-consist_in-clause-proof
returns-in_ok-consist_in-clause-proof g t c =
    let split = c.split_between-middle.ensures in
    let from = split.from in
    let below = split.below in
    let more : c.args.low + 1 < c.args.high = omega arith in
    made_by c.push_node-then-end-middle.result g.N.H.TreeHash.hash
    (g.N.Nodes.leaves c.args.nodes.now) (g.N.Nodes.leaves c.consist_in.new.nodes)
    (λ xs. proof_of g.N.H.TreeHash.hash (c.args.start - c.args.low) (c.args.end - c.args.low)
    c.args.known (part_of xs c.args.low c.split_between-middle.result))
    (λ xs. proof_of g.N.H.TreeHash.hash (c.args.start - c.args.low) (c.args.end - c.args.low)
    c.args.known (part_of xs c.args.low c.args.high))
    c.args.high c.split_between-middle.result c.args.high c.consist_in.new.out
    c.push_node-then-end-middle.new.out
    (λ xs within. part_proof-left g.N.H.TreeHash.hash xs c.args.start c.args.end c.args.low
    c.split_between-middle.result c.args.high
    c.args.known within more split.split c.requires.from c.requires.some c.if-end-middle.true)
    (modelled_within _ _ c.args.high (g.met.N.Nodes.counted c.args.nodes.now) c.requires.within)
    c.in_ok-consist_in.ensures.list c.in_ok-consist_in.ensures.proof
    c.push_node-then-end-middle.ensures.pushed

pub returns-in_ok-consist_in-clause-short : goal.returns-in_ok-consist_in-clause-short
returns-in_ok-consist_in-clause-short g t c =
    let split = c.split_between-middle.ensures in
    let from = split.from in
    let below = split.below in
    one_higher c.push_node-then-end-middle.result g.N.H.TreeHash.hash
    (g.N.Nodes.leaves c.consist_in.new.nodes)
    c.args.low c.args.high c.split_between-middle.result c.args.high _ 1
    c.consist_in.new.out c.push_node-then-end-middle.new.out (omega arith)
    (split_left c.args.low _ c.args.high split.split) c.in_ok-consist_in.ensures.short
    c.push_node-then-end-middle.ensures.pushed

pub returns-in_ok-consist_in-clause-list : goal.returns-in_ok-consist_in-clause-list
returns-in_ok-consist_in-clause-list g t c =
    c.push_node-then-end-middle.ensures.list ∙ c.in_ok-consist_in.ensures.list

pub returns-in_ok-consist_in-clause-count : goal.returns-in_ok-consist_in-clause-count
returns-in_ok-consist_in-clause-count g t c =
    c.push_node-then-end-middle.ensures.count ∙ c.in_ok-consist_in.ensures.count

pub returns-in_ok-consist_in-clause-stays : goal.returns-in_ok-consist_in-clause-stays
returns-in_ok-consist_in-clause-stays g t c =
    g.met.N.Nodes.stays_on c.args.nodes.now c.consist_in.new.nodes
    c.push_node-then-end-middle.new.nodes c.in_ok-consist_in.ensures.stays
    c.push_node-then-end-middle.ensures.stays

pub returns-in_ok-consist_in-clause-cause : goal.returns-in_ok-consist_in-clause-cause
returns-in_ok-consist_in-clause-cause g t c =
    cause_on c.push_node-then-end-middle.result _ _ _ c.in_ok-consist_in.ensures.cause.fine
    c.push_node-then-end-middle.ensures.cause

pub push_node-requires-then-middle-start-clause-capacity :
    goal.push_node-requires-then-middle-start-clause-capacity
push_node-requires-then-middle-start-clause-capacity g t c = let short =
    c.in_ok-consist_in-2.ensures.short 64 (omega arith) in omega arith

pub returns-in_ok-consist_in-2-clause-proof : goal.returns-in_ok-consist_in-2-clause-proof
returns-in_ok-consist_in-2-clause-proof g t c =
    let split = c.split_between-middle.ensures in
    let from = split.from in
    let below = split.below in
    let more : c.args.low + 1 < c.args.high = omega arith in
    made_by c.push_node-then-middle-start.result g.N.H.TreeHash.hash
    (g.N.Nodes.leaves c.args.nodes.now) (g.N.Nodes.leaves c.consist_in-then-middle-start.new.nodes)
    (λ xs. proof_of g.N.H.TreeHash.hash (c.args.start - c.split_between-middle.result)
    (c.args.end - c.split_between-middle.result) c.args.known
    (part_of xs c.split_between-middle.result c.args.high))
    (λ xs. proof_of g.N.H.TreeHash.hash (c.args.start - c.args.low) (c.args.end - c.args.low)
    c.args.known (part_of xs c.args.low c.args.high))
    c.args.high c.args.low c.split_between-middle.result c.consist_in-then-middle-start.new.out
    c.push_node-then-middle-start.new.out
    (λ xs within. part_proof-right g.N.H.TreeHash.hash xs c.args.start c.args.end c.args.low
    c.split_between-middle.result c.args.high
    c.args.known within more split.split c.if-middle-start.true c.requires.some c.requires.inside)
    (modelled_within _ _ c.args.high (g.met.N.Nodes.counted c.args.nodes.now) c.requires.within)
    c.in_ok-consist_in-2.ensures.list c.in_ok-consist_in-2.ensures.proof
    c.push_node-then-middle-start.ensures.pushed

pub returns-in_ok-consist_in-2-clause-short : goal.returns-in_ok-consist_in-2-clause-short
returns-in_ok-consist_in-2-clause-short g t c =
    let split = c.split_between-middle.ensures in
    let from = split.from in
    let below = split.below in
    one_higher c.push_node-then-middle-start.result g.N.H.TreeHash.hash
    (g.N.Nodes.leaves c.consist_in-then-middle-start.new.nodes)
    c.args.low c.args.high c.args.low c.split_between-middle.result _ 1
    c.consist_in-then-middle-start.new.out c.push_node-then-middle-start.new.out (omega arith)
    (split_right c.args.low _ c.args.high split.split) c.in_ok-consist_in-2.ensures.short
    c.push_node-then-middle-start.ensures.pushed

pub returns-in_ok-consist_in-2-clause-list : goal.returns-in_ok-consist_in-2-clause-list
returns-in_ok-consist_in-2-clause-list g t c =
    c.push_node-then-middle-start.ensures.list ∙ c.in_ok-consist_in-2.ensures.list

pub returns-in_ok-consist_in-2-clause-count : goal.returns-in_ok-consist_in-2-clause-count
returns-in_ok-consist_in-2-clause-count g t c =
    c.push_node-then-middle-start.ensures.count ∙ c.in_ok-consist_in-2.ensures.count

pub returns-in_ok-consist_in-2-clause-stays : goal.returns-in_ok-consist_in-2-clause-stays
returns-in_ok-consist_in-2-clause-stays g t c =
    g.met.N.Nodes.stays_on c.args.nodes.now c.consist_in-then-middle-start.new.nodes
    c.push_node-then-middle-start.new.nodes c.in_ok-consist_in-2.ensures.stays
    c.push_node-then-middle-start.ensures.stays

pub returns-in_ok-consist_in-2-clause-cause : goal.returns-in_ok-consist_in-2-clause-cause
returns-in_ok-consist_in-2-clause-cause g t c =
    cause_on c.push_node-then-middle-start.result _ _ _ c.in_ok-consist_in-2.ensures.cause.fine
    c.push_node-then-middle-start.ensures.cause

pub push_node-requires-else-middle-start-clause-capacity :
    goal.push_node-requires-else-middle-start-clause-capacity
push_node-requires-else-middle-start-clause-capacity g t c = let short =
    c.in_ok-consist_in-3.ensures.short 64 (omega arith) in omega arith

pub returns-in_ok-consist_in-3-clause-proof : goal.returns-in_ok-consist_in-3-clause-proof
returns-in_ok-consist_in-3-clause-proof g t c =
    let split = c.split_between-middle.ensures in
    let from = split.from in
    let below = split.below in
    let more : c.args.low + 1 < c.args.high = omega arith in
    made_by c.push_node-else-middle-start.result g.N.H.TreeHash.hash
    (g.N.Nodes.leaves c.args.nodes.now) (g.N.Nodes.leaves c.consist_in-else-middle-start.new.nodes)
    (λ xs. proof_of g.N.H.TreeHash.hash
    (c.split_between-middle.result - c.split_between-middle.result)
    (c.args.end - c.split_between-middle.result) false
    (part_of xs c.split_between-middle.result c.args.high))
    (λ xs. proof_of g.N.H.TreeHash.hash (c.args.start - c.args.low) (c.args.end - c.args.low)
    c.args.known (part_of xs c.args.low c.args.high))
    c.args.high c.args.low c.split_between-middle.result c.consist_in-else-middle-start.new.out
    c.push_node-else-middle-start.new.out
    (λ xs within. part_proof-over g.N.H.TreeHash.hash xs c.args.start c.args.end c.args.low
    c.split_between-middle.result c.args.high
    c.args.known within more split.split c.requires.from
    (part_from c.args.low c.args.high c.args.start c.args.end c.requires.from c.requires.inside
    c.else-low-start.either) c.if-middle-start.false c.if-end-middle.false c.requires.inside)
    (modelled_within _ _ c.args.high (g.met.N.Nodes.counted c.args.nodes.now) c.requires.within)
    c.in_ok-consist_in-3.ensures.list c.in_ok-consist_in-3.ensures.proof
    c.push_node-else-middle-start.ensures.pushed

pub returns-in_ok-consist_in-3-clause-short : goal.returns-in_ok-consist_in-3-clause-short
returns-in_ok-consist_in-3-clause-short g t c =
    let split = c.split_between-middle.ensures in
    let from = split.from in
    let below = split.below in
    one_higher c.push_node-else-middle-start.result g.N.H.TreeHash.hash
    (g.N.Nodes.leaves c.consist_in-else-middle-start.new.nodes)
    c.args.low c.args.high c.args.low c.split_between-middle.result _ 1
    c.consist_in-else-middle-start.new.out c.push_node-else-middle-start.new.out (omega arith)
    (split_right c.args.low _ c.args.high split.split) c.in_ok-consist_in-3.ensures.short
    c.push_node-else-middle-start.ensures.pushed

pub returns-in_ok-consist_in-3-clause-list : goal.returns-in_ok-consist_in-3-clause-list
returns-in_ok-consist_in-3-clause-list g t c =
    c.push_node-else-middle-start.ensures.list ∙ c.in_ok-consist_in-3.ensures.list

pub returns-in_ok-consist_in-3-clause-count : goal.returns-in_ok-consist_in-3-clause-count
returns-in_ok-consist_in-3-clause-count g t c =
    c.push_node-else-middle-start.ensures.count ∙ c.in_ok-consist_in-3.ensures.count

pub returns-in_ok-consist_in-3-clause-stays : goal.returns-in_ok-consist_in-3-clause-stays
returns-in_ok-consist_in-3-clause-stays g t c =
    g.met.N.Nodes.stays_on c.args.nodes.now c.consist_in-else-middle-start.new.nodes
    c.push_node-else-middle-start.new.nodes c.in_ok-consist_in-3.ensures.stays
    c.push_node-else-middle-start.ensures.stays

pub returns-in_ok-consist_in-3-clause-cause : goal.returns-in_ok-consist_in-3-clause-cause
returns-in_ok-consist_in-3-clause-cause g t c =
    cause_on c.push_node-else-middle-start.result _ _ _ c.in_ok-consist_in-3.ensures.cause.fine
    c.push_node-else-middle-start.ensures.cause
