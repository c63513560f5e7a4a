use Rattle.disk_core.specs.Times.{LeavesOnly}
use Rattle.disk_core.proofs.Times.{left_now}
use Rattle.journal_core.specs.Format.{RepresentsEither}
use Rattle.journal_core.specs.Words.{disk_of, records}
use Rattle.journal_core.proofs.Modelled.{if_some, if_modelled}
use Rattle.journal_core.proofs.journal.Journal.append.Goals as goal

pub returns : goal.returns
returns g c = record {
  leaves = c.put.ensures.leaves;
  broken = c.put.ensures.broken;
  full = c.put.ensures.full;
  contents = c.put.ensures.contents;
  count = c.put.ensures.count;
  reach = c.put.ensures.reach;
  as_read = λ sound. if_some (λ list. LeavesOnly g.D.Disk (disk_of c.args.self.now)
      (disk_of c.put.new.self) (RepresentsEither list c.args.body.now)) _
      (records c.args.self.now)
      (λ list run. if_modelled (RepresentsEither list c.args.body.now)
      (g.D.Disk.contents (disk_of c.put.new.self))
      (λ b contents. left_now g.D.Disk _ _ _ (g.met.D.Disk.counts_now _) run b
      (g.met.D.Disk.reads_crash_state _ b contents))) (c.put.ensures.any_time sound);
  afterwards = λ sound. if_some (λ list. LeavesOnly g.D.Disk (disk_of c.args.self.now)
      (disk_of c.put.new.self) (RepresentsEither list c.args.body.now)) _
      (records c.args.self.now)
      (λ list run. left_now g.D.Disk _ _ _ (g.met.D.Disk.counts_now _) run)
      (c.put.ensures.any_time sound);
  any_time = c.put.ensures.any_time;
}
