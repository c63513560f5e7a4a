use Rattle.journal_core.proofs.Offsets.{size_read}
use Rattle.journal_core.proofs.journal.Journal.read_size.Goals as goal

pub returns-clause-size : goal.returns-clause-size
returns-clause-size g c =
    size_read (g.D.Disk.contents c.args.self.now.disk) c.args.place c.number.result c.read.new.out
    c.args.self.now.stands c.in_ok-read.ensures.length c.read.auto.out c.number.type_inv
    c.number.ensures
