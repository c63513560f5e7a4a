use Rattle.std.proofs.Common.{ap, drop, subst, ◌∙◌, slice_index_or, []}
use Rattle.byte_formats.specs.Offsets.{IsBytes}
use Rattle.byte_formats.specs.Types.{Text}
use Rattle.issuance_log.specs.Batches.{leading_items}
use Rattle.journal_core.specs.Ends.{durable_records}
use Rattle.mirror_core.proofs.ReadBodies.{item_of_all}
use Rattle.mirror_core.proofs.bodies.read_item.Goals as goal

pub returns-in-Some-clause-item : goal.returns-in-Some-clause-item
returns-in-Some-clause-item g c =
    let x : Text × Text = (c.in-Some.first.now, c.in-Some.second.now) in
    let did = c.in_ok-copy_both-in-Some.ensures.ok in
    let items = c.items_of.ensures in
    item_of_all c.args.place c.args.number c.in_ok-body.body.items x
    (c.copy_both.new.entry, c.copy_both.new.spki) (durable_records c.args.journal.now)
    (subst IsBytes c.deref.ensures.value items.bytes) c.in_ok-body.ensures.body
    (c.in-Some.ensures.item
    ∙ ap (λ (t : Text). slice_index_or (leading_items t) c.args.number ([], []))
    (items.items ∙ ap (drop 3) c.deref.ensures.value))
    (ap (λ (t : Text). (t, c.copy_both.new.spki)) did.0
    ∙ ap (λ (t : Text). (c.in-Some.first.now, t)) did.1)
