use Rattle.std.proofs.Common.{ap, length, ◌∙◌}
use Rattle.journal_core.specs.Words.{disk_of, end_of, records}
use Rattle.mirror_core.proofs.ReadBodies.{body_back, body_durable}
use Rattle.mirror_core.proofs.bodies.read_body.Goals as goal

pub returns-clause-body : goal.returns-clause-body
returns-clause-body g c =
    let journal = c.args.journal.now in
    let zeros = c.in_ok-body.ensures in
    body_durable (g.D.Disk.contents (disk_of journal)) (end_of journal) c.args.place _
    journal.stands c.requires.durable
    (body_back c.args.place _ c.read.new.out c.in_ok-body.body.items (records journal)
    (records c.read_size.new.self) c.in_ok-body.body.len c.in_ok-size.ensures.size
    c.read_size.ensures.records c.in_ok-read.ensures.body
    (c.read.auto.out ∙ ap length c.deref_mut.ensures.value ∙ zeros) zeros
    (c.in_ok-body.body.ok.0 ∙ zeros))
