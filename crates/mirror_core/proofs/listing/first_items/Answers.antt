use Rattle.std.proofs.Common.{inl, inr, sym, arith}
use Rattle.mirror_core.proofs.Listed.{all_passed, none_passed, one_passed}
use Rattle.mirror_core.proofs.listing.first_items.Goals as goal
use Rattle.mirror_core.proofs.listing.first_items.Goals.{in-Some+then-left-eq0, in_default}

pub items-init : goal.items-init
items-init c = none_passed c.args.list.now c.args.count (λ i. (c.type_inv.list i).fits)

pub items-preserved : goal.items-preserved
items-preserved c =
    one_passed c.args.list.now c.items.rest.now c.args.count c.items.left c.items.invariant _ _
    (sym c.in-Some.ensures.item) _ (omega arith)

pub returns : goal.returns
returns c =
    elim c.match-next_item.branch [
      | in-Some+then-left-eq0 w ↦
          all_passed c.args.list.now c.items.rest.now c.args.count c.items.left
          c.items.invariant (inr w.if-left-eq0.true)
      | in_default w ↦
          all_passed c.args.list.now c.items.rest.now c.args.count c.items.left
          c.items.invariant (inl (sym w.in_default.ensures.item))
    ]
