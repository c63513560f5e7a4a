use Rattle.std.proofs.Common.{◌++◌, ◌∷◌, [], List, option_map, ap, arith, sym}
use Rattle.std.proofs.Common.{◌∙◌}
use Rattle.byte_formats.specs.Types.{Hash}
use Rattle.issuance_log.specs.Items.{items_leaves}
use Rattle.issuance_log.proofs.Pushing.{push_capacity, push_few, pushed_all, pushed_first}
use Rattle.issuance_log.proofs.Pushing.{pushed_on}
use Rattle.issuance_log.proofs.items.Items.push_all.Goals as goal

pub items-init : goal.items-init
items-init g c =
    pushed_first g.H.TreeHash.hash c.args.self.now c.args.place c.args.list.now
    (λ i. (c.type_inv.list i).fits) c.requires.capacity c.requires.few c.requires.fits

pub push-requires-clause-capacity : goal.push-requires-clause-capacity
push-requires-clause-capacity g c =
    push_capacity g.H.TreeHash.hash c.args.self.now c.args.place c.args.list.now c.items.self
    c.items.place c.items.rest.now c.items.invariant _ _ (sym c.in-Some.ensures.item)

pub push-requires-clause-few : goal.push-requires-clause-few
push-requires-clause-few g c =
    push_few g.H.TreeHash.hash c.args.self.now c.args.place c.args.list.now c.items.self
    c.items.place c.items.rest.now c.items.invariant _ _ (sym c.in-Some.ensures.item)

pub items-preserved : goal.items-preserved
items-preserved g c =
    let did = c.push.ensures in
    pushed_on g.H.TreeHash.hash c.args.self.now c.args.place c.args.list.now c.items.self
    c.items.place c.items.rest.now c.items.invariant (c.in-Some.entry.now, c.in-Some.key.now)
    c.in-Some.later.now (sym c.in-Some.ensures.item) c.push.new.self _ (record {
      offsets = did.offsets;
      leaves = did.leaves ∙ ap (λ (hash : Hash).
          option_map (λ (list : List Hash). list ++ hash ∷ []) (items_leaves c.items.self))
          c.leaf.ensures;
      capacity = did.capacity;
      disk = did.disk;
      stored = did.stored;
    }) (omega (arith, c.in-Some.ensures.size))

pub returns-clause-taken : goal.returns-clause-taken
returns-clause-taken g c =
    pushed_all g.H.TreeHash.hash c.args.self.now c.args.place c.args.list.now c.items.self
    c.items.place c.items.rest.now c.items.invariant (sym c.in_default.ensures.item)
