use Rattle.std.proofs.Common.{sym}
use Rattle.tiled_items.proofs.Pushing.{all_counted, all_pushed, push_few, push_spare, pushed_first}
use Rattle.tiled_items.proofs.Pushing.{pushed_on}
use Rattle.tiled_items.proofs.held.HeldItems.push_leaves.Goals as goal

pub items-init : goal.items-init
items-init g c =
    pushed_first g.H.TreeHash.hash c.args.self.now c.args.list.now
    (λ i. (c.type_inv.list i).fits) c.requires.spare c.requires.few

pub push_leaf-requires-clause-spare : goal.push_leaf-requires-clause-spare
push_leaf-requires-clause-spare g c =
    push_spare g.H.TreeHash.hash c.args.self.now c.args.list.now c.items.self c.items.rest.now
    c.items.invariant _ _ (sym c.in-Some.ensures.item)

pub push_leaf-requires-clause-few : goal.push_leaf-requires-clause-few
push_leaf-requires-clause-few g c =
    push_few g.H.TreeHash.hash c.args.self.now c.args.list.now c.items.self c.items.rest.now
    c.items.invariant _ _ (sym c.in-Some.ensures.item)

pub items-preserved : goal.items-preserved
items-preserved g c =
    let did = c.push_leaf.ensures in
    pushed_on g.H.TreeHash.hash c.args.self.now c.args.list.now c.items.self c.items.rest.now
    c.items.invariant (c.in-Some.entry.now, c.in-Some._key.now) c.in-Some.later.now
    (sym c.in-Some.ensures.item) c.leaf.result c.push_leaf.new.self c.leaf.ensures (record {
      places = did.places;
      count = did.count;
      leaves = did.leaves;
      spare = did.spare;
      disk = did.disk;
      stored = did.stored;
    })

pub returns-clause-count : goal.returns-clause-count
returns-clause-count g c =
    all_counted g.H.TreeHash.hash c.args.self.now c.args.list.now c.items.self c.items.rest.now
    c.items.invariant (sym c.in_default.ensures.item)

pub returns-clause-leaves : goal.returns-clause-leaves
returns-clause-leaves g c =
    all_pushed g.H.TreeHash.hash c.args.self.now c.args.list.now c.items.self c.items.rest.now
    c.items.invariant (sym c.in_default.ensures.item)
