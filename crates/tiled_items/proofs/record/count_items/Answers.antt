use Rattle.std.proofs.Common.{arith, refl, sym}
use Rattle.issuance_log.proofs.Leading.{counted_end, counted_on}
use Rattle.tiled_items.proofs.record.count_items.Goals as goal

pub items-init : goal.items-init
items-init c = record {
  left = λ i. (c.type_inv.bytes i).fits;
  items = omega arith;
  texts = refl;
  few = omega arith;
}

pub items-preserved : goal.items-preserved
items-preserved c =
    counted_on c.args.bytes.now c.items.rest.now c.items.count _ _ (sym c.in-Some.ensures.item)
    c.items.invariant

pub returns-clause-count : goal.returns-clause-count
returns-clause-count c =
    (counted_end c.args.bytes.now c.items.rest.now c.items.count (sym c.in_default.ensures.item)
    c.items.invariant).0

pub returns-clause-long : goal.returns-clause-long
returns-clause-long c = let few = c.items.invariant.few in omega (arith, few)
