use Rattle.std.proofs.Common.{refl, sym, arith}
use Rattle.mirror_core.proofs.ReadBodies.{left_here, left_none, left_on, left_there}
use Rattle.mirror_core.proofs.bodies.item_in.Goals as goal

pub items-init : goal.items-init
items-init c = record {
  bytes = λ i. (c.type_inv.items i).fits;
  same = refl;
  counted = refl;
}

pub items-preserved : goal.items-preserved
items-preserved c =
    left_on c.args.items.now c.items.rest.now c.args.number c.items.left c.items.invariant _ _
    (sym c.in-Some.ensures.item) _ (omega arith)

pub returns-then-left-eq0-clause-there : goal.returns-then-left-eq0-clause-there
returns-then-left-eq0-clause-there c = (
  λ yes. left_there c.args.items.now c.items.rest.now c.args.number c.items.left c.items.invariant
      _ _ (sym c.in-Some.ensures.item) c.if-left-eq0.true,
  λ below. refl,
)

pub returns-then-left-eq0-clause-item : goal.returns-then-left-eq0-clause-item
returns-then-left-eq0-clause-item c =
    left_here c.args.items.now c.items.rest.now c.args.number c.items.left c.items.invariant
    (c.in-Some.entry.now, c.in-Some.key.now) c.in-Some.later.now (sym c.in-Some.ensures.item)
    c.if-left-eq0.true

pub returns-clause-there : goal.returns-clause-there
returns-clause-there c = (
  λ wrong. absurd cc,
  λ below.
      let past = left_none c.args.items.now c.items.rest.now c.args.number c.items.left
      c.items.invariant (sym c.in_default.ensures.item) in
      absurd (omega (arith, below, past)),
)
