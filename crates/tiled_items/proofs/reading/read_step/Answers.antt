use Rattle.std.proofs.Common.{◌+◌, ap, arith, length, ◌∙◌}
use Rattle.byte_formats.specs.Types.{Text}
use Rattle.issuance_log.specs.Batches.{leading_items}
use Rattle.journal_core.specs.Ends.{durable_records}
use Rattle.tiled_items.specs.Walk.{record_items}
use Rattle.tiled_items.proofs.Walking.{step_found, step_on}
use Rattle.tiled_items.proofs.reading.read_step.Goals as goal

pub returns-in-Ok-clause-step : goal.returns-in-Ok-clause-step
returns-in-Ok-clause-step g c =
    let rules = g.R.ItemRules in
    let did = c.in_ok-copy_both-in-Ok.ensures.ok in
    step_found rules.first rules.added (durable_records c.args.journal.now) c.args.place
    c.args.left c.in_ok-body.body.items (leading_items c.record_items.result.now)
    (c.copy_both.new.entry, c.copy_both.new.spki) c.in_ok-body.ensures.body
    (c.record_items.ensures
    ∙ ap (record_items rules.first rules.added c.args.place) c.deref.ensures.value)
    c.in-Ok.ensures.there
    (ap (λ (t : Text). (t, c.copy_both.new.spki)) did.0
    ∙ ap (λ (t : Text). (c.in-Ok.first.now, t)) did.1
    ∙ c.in-Ok.ensures.item)

pub returns-clause-step : goal.returns-clause-step
returns-clause-step g c =
    let rules = g.R.ItemRules in
    let size = c.len.ensures in
    let long = c.deref.ensures.len in
    let same = ap length c.deref.ensures.value in
    step_on rules.first rules.added (durable_records c.args.journal.now) c.args.place
    c.args.left c.in_ok-body.body.items (leading_items c.record_items.result.now) c.in-Err.count
    (c.args.place + 5 + c.len.result) c.in_ok-body.ensures.body
    (c.record_items.ensures
    ∙ ap (record_items rules.first rules.added c.args.place) c.deref.ensures.value)
    c.in-Err.ensures.count c.in-Err.ensures.past (omega (arith, size, long, same))
