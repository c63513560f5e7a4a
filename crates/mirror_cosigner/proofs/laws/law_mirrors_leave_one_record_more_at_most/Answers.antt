use Rattle.mirror_cosigner.proofs.Leaving.{append_leaves, stays_leaves, take_leaves}
use Rattle.mirror_cosigner.proofs.laws.law_mirrors_leave_one_record_more_at_most.Goals as goal

pub returns : goal.returns
returns g c = record {
  stays = stays_leaves;
  appends = λ body seen next old new result is before.
      append_leaves body seen next old new (g.met.D.Disk.reads_crash_state _) result is before;
  takes = λ body seen next old new result is before.
      take_leaves body seen next old new (g.met.D.Disk.reads_crash_state _) result is before;
}
