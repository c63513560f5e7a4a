use Rattle.std.proofs.Common.{◌∙◌, rules, sym}
use Rattle.issuance_log.specs.Records.{batch_at}
use Rattle.issuance_log.proofs.Leading.{leading_short}
use Rattle.mirror_core.proofs.Leading.{batch_found, items_bytes, none_counted}
use Rattle.mirror_core.proofs.Leading.{not_counted, not_filled}
use Rattle.mirror_core.specs.Records.{mirrored_in}
use Rattle.mirror_core.proofs.record.read_batch.Goals.{in_default-via-in-Some+then-there-count+else-count-ne0}
use Rattle.mirror_core.proofs.record.read_batch.Goals.{in_default-via-in-Some+else-there-count}
use Rattle.mirror_core.proofs.record.read_batch.Goals.{in_default-via-in_default}
use Rattle.mirror_core.proofs.record.read_batch.Goals as goal

pub returns-in-Some-clause-found : goal.returns-in-Some-clause-found
returns-in-Some-clause-found c =
    batch_found c.args.body.now c.new-cursor.result c.in_ok-u8.field-0 c.u8.new.self
    c.in_ok-count.field-0 c.u16.new.self c.rest-items.result.now (λ i. (c.type_inv.body i).fits)
    c.new-cursor.ensures c.in_ok-u8.ensures c.if-branch-ne-BATCH.false c.in_ok-count.ensures
    c.rest-items.ensures c.in-Some.ensures.whole (sym c.if-there-count.true
    ∙ c.in-Some.ensures.counted) c.if-count-ne0.true

pub returns-in-Some-clause-short : goal.returns-in-Some-clause-short
returns-in-Some-clause-short c =
    leading_short _ c.rest-items.result.now
    (items_bytes c.args.body.now c.new-cursor.result c.in_ok-u8.field-0 c.u8.new.self
    c.in_ok-count.field-0 c.u16.new.self c.rest-items.result.now (λ i. (c.type_inv.body i).fits)
    c.new-cursor.ensures c.in_ok-u8.ensures c.if-branch-ne-BATCH.false c.in_ok-count.ensures
    c.rest-items.ensures)

pub returns-in_default-clause-found : goal.returns-in_default-clause-found
returns-in_default-clause-found c =
    elim c.in_default.branch [
      | in_default-via-in-Some+then-there-count+else-count-ne0 w ↦
          none_counted c.args.body.now c.new-cursor.result c.in_ok-u8.field-0 c.u8.new.self
          c.in_ok-count.field-0 c.u16.new.self c.rest-items.result.now
          (λ i. (c.type_inv.body i).fits) c.new-cursor.ensures c.in_ok-u8.ensures
          c.if-branch-ne-BATCH.false c.in_ok-count.ensures c.rest-items.ensures
          w.if-count-ne0.false
      | in_default-via-in-Some+else-there-count w ↦
          not_counted c.args.body.now c.new-cursor.result c.in_ok-u8.field-0 c.u8.new.self
          c.in_ok-count.field-0 c.u16.new.self c.rest-items.result.now
          (λ i. (c.type_inv.body i).fits) c.new-cursor.ensures c.in_ok-u8.ensures
          c.if-branch-ne-BATCH.false c.in_ok-count.ensures c.rest-items.ensures
          (λ same. w.if-there-count.false (w.in-Some.ensures.counted ∙ sym same))
      | in_default-via-in_default w ↦
          not_filled c.args.body.now c.new-cursor.result c.in_ok-u8.field-0 c.u8.new.self
          c.in_ok-count.field-0 c.u16.new.self c.rest-items.result.now
          (λ i. (c.type_inv.body i).fits) c.new-cursor.ensures c.in_ok-u8.ensures
          c.if-branch-ne-BATCH.false c.in_ok-count.ensures c.rest-items.ensures
          w.in_default.ensures.whole
    ]

pub returns-in_err-count-clause-found : goal.returns-in_err-count-clause-found
unfolding mirrored_in batch_at
returns-in_err-count-clause-found c = search rules
