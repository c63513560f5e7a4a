use Rattle.std.proofs.Common.{length, ap, arith, sym, ◌∙◌}
use Rattle.std.proofs.lemmas.List.{length-append}
use Rattle.byte_formats.specs.Offsets.{at}
use Rattle.byte_formats.specs.Types.{Text}
use Rattle.issuance_log.specs.Records.{entry_at, item_text}
use Rattle.issuance_log.proofs.Encoded.{entry_form}
use Rattle.issuance_log.proofs.Fitting.{length-item}
use Rattle.mirror_core.proofs.record.next_item.Goals as goal

pub returns-in-Ok-clause-size : goal.returns-in-Ok-clause-size
returns-in-Ok-clause-size c =
    let x : Text × Text = (c.in-Ok.entry.now, c.in-Ok.key.now) in
    let b = c.item_fields.new.cursor in
    let took = (entry_form.takes (at c.args.bytes.now 0) x b
    (λ i. (c.type_inv.bytes i).fits) (ap entry_at (sym c.new-cursor.ensures) ∙ c.in-Ok.ensures)).0
    in
    let all = ap length took.parts ∙ length-append (item_text x) b.rest in
    let size = length-item x in
    let rest = ap length c.rest.ensures in
    omega (arith, all, size, rest)

pub returns-in-Ok-clause-short : goal.returns-in-Ok-clause-short
returns-in-Ok-clause-short c =
    let x : Text × Text = (c.in-Ok.entry.now, c.in-Ok.key.now) in
    (entry_form.takes (at c.args.bytes.now 0) x c.item_fields.new.cursor
    (λ i. (c.type_inv.bytes i).fits) (ap entry_at (sym c.new-cursor.ensures) ∙ c.in-Ok.ensures)).1
