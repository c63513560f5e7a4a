use Rattle.journal_core.proofs.OpeningSteps.{count_of_list}
use Rattle.journal_core.proofs.opening.Opening.read_count.Goals as goal

pub returns : goal.returns
returns g c = count_of_list (g.D.Disk.contents c.args.self.now.disk) c.args.self.now.place
    c.args.self.now.count c.args.self.now.counted
