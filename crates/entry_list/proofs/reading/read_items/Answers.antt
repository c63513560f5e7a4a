use Rattle.std.proofs.Common.{◌≡◌, ◌<◌, length, Ok, arith, ap, sym, ◌∙◌}
use Rattle.std.proofs.lemmas.List.{length-map}
use Rattle.std.proofs.lemmas.Result.{err_from_is_err_and}
use Rattle.entry_list.specs.Items.{ItemLists}
use Rattle.entry_list.specs.Offsets.{entry_from, key_from, lists_at}
use Rattle.entry_list.proofs.Kept.{in_first, item_stands, kept_more}
use Rattle.entry_list.proofs.Loops.{items_end, items_fail, items_from, items_more, with_item}
use Rattle.entry_list.proofs.reading.read_items.Goals as goal

pub loop-cursor-init : goal.loop-cursor-init
loop-cursor-init g c = record {
  left =
      items_from g.H.TreeHash.hash c.args.bytes.now
      (lists_at c.args.bytes.now c.new-offsets.result.items) c.new-cursor.result
      (ap (lists_at c.args.bytes.now) c.new-offsets.ensures.items) c.new-cursor.ensures;
  stands = in_first c.args.bytes.now c.new-cursor.result c.new-cursor.ensures;
}

pub returns-in_err-read_item : goal.returns-in_err-read_item
returns-in_err-read_item g c =
    let bytes = c.args.bytes.now in
    let offsets = c.loop-cursor.offsets.items in
    let count : c.len.result ≡ length (lists_at bytes offsets).entries = omega (
      arith,
      length-map offsets (entry_from bytes),
    ) in
    let some : 0 < length c.loop-cursor.cursor.rest = omega arith in
    let p = err_from_is_err_and c.from_residual.result c.from_residual.ensures.1 in
    rw (p.1, p.2) (λ other. items_fail g.H.TreeHash.hash _ (lists_at bytes offsets)
    c.loop-cursor.cursor c.len.result _ count c.in_err-read_item.ensures.exact some
    c.loop-cursor.invariant.left)

pub loop-cursor-preserved : goal.loop-cursor-preserved
loop-cursor-preserved g c =
    let h = g.H.TreeHash.hash in
    let bytes = c.args.bytes.now in
    let offsets = c.loop-cursor.offsets.items in
    let old = lists_at bytes offsets in
    let item = c.in_ok-read_item.field-0 in
    let count : c.len.result ≡ length old.entries = omega (
      arith,
      length-map offsets (entry_from bytes),
    ) in
    let stands = item_stands h c.len.result bytes c.loop-cursor.cursor item.entry.now item.spki.now
    c.read_item.new.cursor (λ i. (c.type_inv.bytes i).fits) c.loop-cursor.invariant.stands
    c.in_ok-read_item.ensures.exact in
    let grown : lists_at bytes c.push.new.offsets.items
    ≡ with_item old item.entry.now item.spki.now =
    kept_more bytes offsets c.push.new.offsets.items c.place-place.result
    (c.in_ok-push.ensures {u = tt})
    ∙ ap (λ k. with_item old (entry_from bytes k) (key_from bytes k)) c.place-place.ensures
    ∙ ap (λ e. with_item old e (key_from bytes c.loop-cursor.cursor.place)) stands.first
    ∙ ap (λ k. with_item old item.entry.now k) stands.second in
    record {
      left =
          items_more h _ old _ c.loop-cursor.cursor c.len.result item.entry.now item.spki.now
          c.read_item.new.cursor count c.in_ok-read_item.ensures.exact
          c.in_ok-read_item.ensures.forward grown c.loop-cursor.invariant.left;
      stands = stands.next;
    }

pub returns : goal.returns
returns g c =
    items_end g.H.TreeHash.hash _ (lists_at c.args.bytes.now c.loop-cursor.offsets.items)
    c.loop-cursor.cursor (omega arith) c.loop-cursor.invariant.left
    ∙ ap (λ (l : ItemLists). Ok l) (sym c.of_offsets.ensures)
