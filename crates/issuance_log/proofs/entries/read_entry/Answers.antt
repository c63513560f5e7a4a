use Rattle.std.proofs.Common.{ap, sym, ◌∙◌}
use Rattle.byte_formats.specs.Types.{Text}
use Rattle.journal_core.specs.Words.{records}
use Rattle.issuance_log.specs.Batches.{leading_item}
use Rattle.issuance_log.proofs.Rereading.{item_back}
use Rattle.issuance_log.proofs.entries.read_entry.Goals as goal

pub returns-in-Some-clause-item : goal.returns-in-Some-clause-item
returns-in-Some-clause-item g c =
    let first = c.in-Some.first.now in
    let second = c.in-Some.second.now in
    let did = c.in_ok-copy_both-in-Some.ensures.ok in
    item_back c.args.place c.in_ok-bytes.bytes.items (first, second)
    (c.copy_both.new.entry, c.copy_both.new.spki) c.in-Some._later.now
    (records c.args.journal.now) c.in_ok-bytes.ensures.bytes
    (ap leading_item (sym c.deref.ensures.value) ∙ sym c.in-Some.ensures.item)
    (ap (λ (t : Text). (t, second)) (sym did.0)
    ∙ ap (λ (t : Text). (c.copy_both.new.entry, t)) (sym did.1))
