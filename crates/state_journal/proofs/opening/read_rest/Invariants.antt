use Rattle.std.proofs.Common.{◌≡◌}
use Rattle.disk_core.specs.Times.{OnlyReads}
use Rattle.journal_core.specs.Openings.{opening_disk, bytes_left}
use Rattle.state_journal.specs.Machines.{HasTaken}
use Rattle.state_journal.proofs.opening.read_rest.Given as goal

abbrev pub invariant-records : goal.invariant-records
invariant-records g l = record {
  taken : HasTaken g.M.StateMachine l.machine l.opening;
  rest : (was : _) → g.M.StateMachine.Becomes was (g.M.StateMachine.rest l.initial.machine)
      → g.M.StateMachine.Becomes was (g.M.StateMachine.rest l.machine);
  only_reads : OnlyReads g.D.Disk (opening_disk l.initial.opening) (opening_disk l.opening);
  fine : g.D.Disk.faults (opening_disk l.opening)
      ≡ g.D.Disk.faults (opening_disk l.initial.opening);
}

abbrev pub decreases-records : goal.decreases-records
decreases-records g l = bytes_left l.opening
