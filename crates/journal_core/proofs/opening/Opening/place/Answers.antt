use Rattle.journal_core.proofs.Offsets.{offset_of_list}
use Rattle.journal_core.proofs.opening.Opening.place.Goals as goal

pub returns-clause-list : goal.returns-clause-list
returns-clause-list g c = offset_of_list (g.D.Disk.contents c.args.self.now.disk)
    (g.D.Disk.may_leave c.args.self.now.disk) c.args.self.now.place c.args.self.now.reading
