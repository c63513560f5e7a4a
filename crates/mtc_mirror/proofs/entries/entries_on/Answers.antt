use Rattle.std.proofs.Common.{◌∙◌, None, ap, refl}
use Rattle.byte_formats.specs.Types.{Text}
use Rattle.mtc_command.specs.Answers.{refused, replied}
use Rattle.mtc_command.specs.declared.answer.Stopped.TheVariants.{NotAllowed}
use Rattle.mtc_command.specs.declared.answer.Stop.TheVariants.{Memory, Room}
use Rattle.mtc_mirror.proofs.Streamed.{entries_broken, entries_gone, entries_refused}
use Rattle.mtc_mirror.proofs.Streamed.{entries_spent}
use Rattle.mtc_mirror.proofs.entries.entries_on.Goals as goal

pub returns-in-Ok-clause-streams : goal.returns-in-Ok-clause-streams
returns-in-Ok-clause-streams g c =
    let did = c.write_items.ensures in
    let is = c.in-Ok.ensures in
    entries_gone g.O.Sink c.args.journal.now c.args.size c.args.mirror.now
    c.write_items.new.self c.requires did.stays c.args.out.now c.write_items.new.out did.grows _
    is.written is.took is.size

pub returns-in-Err-Beyond-clause-streams : goal.returns-in-Err-Beyond-clause-streams
returns-in-Err-Beyond-clause-streams g c =
    let did = c.write_items.ensures in
    let is = c.in-Err-Beyond.ensures in
    entries_refused g.O.Sink c.args.journal.now c.args.size c.args.mirror.now
    c.write_items.new.self c.requires did.stays c.args.out.now c.write_items.new.out _
    c.in-Err-Beyond.have c.in-Err-Beyond.field-0-is did.untouched is.size c.refuse.result
    (c.refuse.ensures ∙ ap (λ (t : Text). replied (refused NotAllowed None t))
    c.with_number.ensures)

pub returns-in-Err-Failed-clause-streams : goal.returns-in-Err-Failed-clause-streams
returns-in-Err-Failed-clause-streams g c =
    let did = c.write_items.ensures in
    let is = c.in-Err-Failed.ensures in
    entries_broken g.O.Sink c.args.journal.now c.args.size c.args.mirror.now
    c.write_items.new.self c.requires did.stays c.args.out.now c.write_items.new.out did.grows _
    c.in-Err-Failed.field-0-is is.written is.cause is.took is.size (Room c.args.journal) refl

pub returns-in-Err-Memory-clause-streams : goal.returns-in-Err-Memory-clause-streams
returns-in-Err-Memory-clause-streams g c =
    let did = c.write_items.ensures in
    let is = c.in-Err-Memory.ensures in
    entries_spent g.O.Sink c.args.journal.now c.args.size c.args.mirror.now
    c.write_items.new.self c.requires did.stays c.args.out.now c.write_items.new.out did.grows _
    c.in-Err-Memory.field-0-is is.written is.took is.size Memory refl
