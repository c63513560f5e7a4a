use Rattle.std.proofs.Common.{◌<◌, length, refl, sym, ◌∙◌, arith}
use Rattle.byte_formats.specs.Types.{Text}
use Rattle.mirror_core.specs.Refusals.{pairs_of}
use Rattle.mirror_core.proofs.Differing.{compared_all, compared_not, compared_on, compared_out}
use Rattle.mirror_core.proofs.Differing.{length-pairs, more_left, pair_is}
use Rattle.mirror_core.proofs.comparing.compare.Goals as goal

pub items-init : goal.items-init
items-init g c = record {
  size = length-pairs g.H.TreeHash.hash c.args.items.now c.len-total.ensures.known;
  left = λ i. (c.type_inv.list i).fits;
  same = refl;
  counted = refl;
  within = omega (arith, c.requires);
}

pub returns-then-number-total-clause-same : goal.returns-then-number-total-clause-same
returns-then-number-total-clause-same g c =
    let items = c.args.items.now in
    compared_out c.args.list.now c.items.rest.now c.args.from c.items.number
    (length items.entries) (pairs_of items) c.items.invariant
    (omega (arith, c.if-number-total.true, c.len-total.ensures.count))

pub returns-then-number-total-clause-count : goal.returns-then-number-total-clause-count
returns-then-number-total-clause-count g c =
    let items = c.args.items.now in
    let below = more_left c.args.list.now c.items.rest.now c.args.from c.items.number
    (length items.entries) (pairs_of items) _ _ (sym c.in-Some.ensures.item) c.items.invariant in
    omega (arith, below, c.if-number-total.true, c.len-total.ensures.count)

pub returns-then-not-is_same-clause-differs : goal.returns-then-not-is_same-clause-differs
returns-then-not-is_same-clause-differs g c =
    let items = c.args.items.now in
    let within = c.items.invariant.within in
    let there : c.items.number < length items.entries =
    omega (arith, within, c.if-number-total.false, c.len-total.ensures.count) in
    let y : Text × Text = (c.item.result.entry.now, c.item.result.spki.now) in
    compared_not c.args.list.now c.items.rest.now c.args.from c.items.number
    (length items.entries) (pairs_of items) c.items.invariant
    (c.in-Some.entry.now, c.in-Some.key.now) c.in-Some.later.now (sym c.in-Some.ensures.item) there
    y (pair_is items c.items.number _ _ (omega (arith, c.items.invariant.size, there))
    c.item.ensures.entry c.item.ensures.key)
    (sym c.is_same.ensures ∙ c.if-not-is_same.true)

pub items-preserved : goal.items-preserved
items-preserved g c =
    let items = c.args.items.now in
    let within = c.items.invariant.within in
    let there : c.items.number < length items.entries =
    omega (arith, within, c.if-number-total.false, c.len-total.ensures.count) in
    let y : Text × Text = (c.item.result.entry.now, c.item.result.spki.now) in
    compared_on c.args.list.now c.items.rest.now c.args.from c.items.number
    (length items.entries) (pairs_of items) c.items.invariant
    (c.in-Some.entry.now, c.in-Some.key.now) c.in-Some.later.now (sym c.in-Some.ensures.item) there
    y (pair_is items c.items.number _ _ (omega (arith, c.items.invariant.size, there))
    c.item.ensures.entry c.item.ensures.key)
    (sym c.is_same.ensures ∙ c.if-not-is_same.false)

pub returns-clause-same : goal.returns-clause-same
returns-clause-same g c =
    let items = c.args.items.now in
    (compared_all c.args.list.now c.items.rest.now c.args.from c.items.number
    (length items.entries) (pairs_of items) c.items.invariant
    (sym c.in_default.ensures.item)).0

pub returns-clause-count : goal.returns-clause-count
returns-clause-count g c =
    let items = c.args.items.now in
    let within = c.items.invariant.within in
    let all = (compared_all c.args.list.now c.items.rest.now c.args.from c.items.number
    (length items.entries) (pairs_of items) c.items.invariant
    (sym c.in_default.ensures.item)).1 in
    omega (arith, all, within)
