use Rattle.std.proofs.Common.{◌+◌, ◌<◌, ◌≤◌, length, sym, ◌∙◌, arith}
use Rattle.byte_formats.specs.Types.{Text}
use Rattle.mirror_core.specs.Refusals.{pairs_of}
use Rattle.mirror_core.proofs.Batching.{counted_end, counted_first, counted_full, counted_large}
use Rattle.mirror_core.proofs.Batching.{counted_on}
use Rattle.mirror_core.proofs.Differing.{length-pairs, pair_is}
use Rattle.mirror_core.proofs.batch.count_batch.Goals as goal

pub items-init : goal.items-init
items-init g c = record {
  counted = counted_first c.args.from (pairs_of c.args.items.now);
  within = omega (arith, c.requires);
}

pub overflow_add-from : goal.overflow_add-from
overflow_add-from g c =
    let within = c.items.invariant.within in omega (arith, within, c.len-total.ensures.count)

pub returns-then-is_large : goal.returns-then-is_large
returns-then-is_large g c =
    let items = c.args.items.now in
    let h = g.H.TreeHash.hash in
    let size = length-pairs h items c.len-total.ensures.known in
    let there : c.args.from + c.items.count < length items.entries =
    omega (arith, c.items-test.true, c.len-total.ensures.count) in
    let x : Text × Text = (c.item-item.result.entry.now, c.item-item.result.spki.now) in
    counted_large (pairs_of items) c.args.from c.items.count c.items.left
    c.items.invariant.counted x (omega (arith, size, there))
    (pair_is items (c.args.from + c.items.count) _ _ (omega (arith, size, there))
    c.item-item.ensures.entry c.item-item.ensures.key)
    (sym c.is_large.ensures ∙ c.if-is_large.true)

pub returns-then-size-left : goal.returns-then-size-left
returns-then-size-left g c =
    let items = c.args.items.now in
    let h = g.H.TreeHash.hash in
    let size = length-pairs h items c.len-total.ensures.known in
    let there : c.args.from + c.items.count < length items.entries =
    omega (arith, c.items-test.true, c.len-total.ensures.count) in
    let x : Text × Text = (c.item-item.result.entry.now, c.item-item.result.spki.now) in
    counted_full (pairs_of items) c.args.from c.items.count c.items.left
    c.items.invariant.counted x (omega (arith, size, there))
    (pair_is items (c.args.from + c.items.count) _ _ (omega (arith, size, there))
    c.item-item.ensures.entry c.item-item.ensures.key)
    (omega arith)

pub items-preserved : goal.items-preserved
items-preserved g c =
    let items = c.args.items.now in
    let h = g.H.TreeHash.hash in
    let size = length-pairs h items c.len-total.ensures.known in
    let there : c.args.from + c.items.count < length items.entries =
    omega (arith, c.items-test.true, c.len-total.ensures.count) in
    let x : Text × Text = (c.item-item.result.entry.now, c.item-item.result.spki.now) in
    record {
      counted = counted_on (pairs_of items) c.args.from c.items.count c.items.left
          c.items.invariant.counted x (omega (arith, size, there))
          (pair_is items (c.args.from + c.items.count) _ _ (omega (arith, size, there))
          c.item-item.ensures.entry c.item-item.ensures.key) _
          (sym c.is_large.ensures ∙ c.if-is_large.false) (omega arith);
      within = omega (arith, there);
    }

pub returns : goal.returns
returns g c =
    let items = c.args.items.now in
    let size = length-pairs g.H.TreeHash.hash items c.len-total.ensures.known in
    let past : length items.entries ≤ c.args.from + c.items.count =
    omega (arith, c.items-test.false, c.len-total.ensures.count) in
    counted_end (pairs_of items) c.args.from c.items.count c.items.left c.items.invariant.counted
    (omega (arith, size, past))
