use Rattle.std.proofs.Common.{ap, length, refl, sym, arith}
use Rattle.issuance_log.proofs.Leading.{leading_none}
use Rattle.tiled_items.proofs.ReadBodies.{left_here, left_on, left_there}
use Rattle.tiled_items.proofs.reading.item_in.Goals as goal

pub items-init : goal.items-init
items-init c = record {
  bytes = λ i. (c.type_inv.items i).fits;
  same = refl;
  counted = refl;
}

pub items-preserved : goal.items-preserved
items-preserved c =
    left_on c.args.items.now c.items.rest.now c.args.number c.items.left c.items.invariant _ _
    (sym c.in-Some.ensures.item) _ (omega arith)

pub returns-then-left-eq0-clause-there : goal.returns-then-left-eq0-clause-there
returns-then-left-eq0-clause-there c =
    left_there c.args.items.now c.items.rest.now c.args.number c.items.left c.items.invariant
    _ _ (sym c.in-Some.ensures.item) c.if-left-eq0.true

pub returns-then-left-eq0-clause-item : goal.returns-then-left-eq0-clause-item
returns-then-left-eq0-clause-item c =
    left_here c.args.items.now c.items.rest.now c.args.number c.items.left c.items.invariant
    (c.in-Some.entry.now, c.in-Some.key.now) c.in-Some.later.now (sym c.in-Some.ensures.item)
    c.if-left-eq0.true

pub returns-clause-count : goal.returns-clause-count
returns-clause-count c =
    let counted = c.items.invariant.counted in
    let none = ap length (leading_none c.items.rest.now (sym c.in_default.ensures.item)) in
    omega (arith, counted, none)

pub overflow_sub-result : goal.overflow_sub-result
overflow_sub-result c =
    let counted = c.items.invariant.counted in
    let none = ap length (leading_none c.items.rest.now (sym c.in_default.ensures.item)) in
    omega (arith, counted, none)
