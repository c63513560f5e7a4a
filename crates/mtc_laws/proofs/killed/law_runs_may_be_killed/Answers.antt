use Rattle.mtc_laws.proofs.KilledRuns.{journals_may_break, logs_may_break}
use Rattle.mtc_laws.proofs.killed.law_runs_may_be_killed.Goals as goal

pub returns-clause-journals : goal.returns-clause-journals
returns-clause-journals g c = journals_may_break g.H.TreeHash.hash g.R.Room g.R.Dsk.Disk g.O.Sink
    g.E.Sink g.met.R.Dsk.Disk.reads_crash_state g.met.R.Dsk.Disk.only_now
    (g.met.R.Room.modelled_file, g.met.R.Room.one_device)
    g.met.R.Dsk.Disk.contents_bytes

pub returns-clause-logs : goal.returns-clause-logs
returns-clause-logs g c = logs_may_break g.H.TreeHash.hash g.R.Room g.R.Dsk.Disk g.O.Sink g.E.Sink
    g.met.R.Dsk.Disk.reads_crash_state g.met.R.Dsk.Disk.only_now
    (g.met.R.Room.modelled_file, g.met.R.Room.one_device)
    g.met.R.Dsk.Disk.contents_bytes
