use Rattle.std.proofs.Common.{◌∙◌, true, false, arith, refl, sym}
use Rattle.issuance_log.proofs.Leading.{counted_end, counted_on, filled_end}
use Rattle.mirror_core.proofs.record.count_items.Goals as goal

pub items-init : goal.items-init
items-init c = record {
  left = λ i. (c.type_inv.bytes i).fits;
  items = omega arith;
  texts = refl;
  few = omega arith;
}

pub items-preserved : goal.items-preserved
items-preserved c =
    counted_on c.args.bytes.now c.items.rest.now c.items.count _ _ (sym c.in-Some.ensures.item)
    c.items.invariant

pub returns-then-is_empty-clause-counted : goal.returns-then-is_empty-clause-counted
returns-then-is_empty-clause-counted c =
    (counted_end c.args.bytes.now c.items.rest.now c.items.count (sym c.in_default.ensures.item)
    c.items.invariant).0

pub returns-then-is_empty-clause-whole : goal.returns-then-is_empty-clause-whole
returns-then-is_empty-clause-whole c =
    filled_end c.args.bytes.now c.items.rest.now c.items.count (sym c.in_default.ensures.item)
    c.items.invariant true (sym c.is_empty.ensures ∙ c.if-is_empty.true)

pub returns-else-is_empty-clause-whole : goal.returns-else-is_empty-clause-whole
returns-else-is_empty-clause-whole c =
    filled_end c.args.bytes.now c.items.rest.now c.items.count (sym c.in_default.ensures.item)
    c.items.invariant false (sym c.is_empty.ensures ∙ c.if-is_empty.false)
