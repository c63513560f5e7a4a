use Rattle.mtc_laws.proofs.RunLaws.{run_shows, runs_are_steps}
use Rattle.mtc_laws.proofs.laws.law_runs_are_steps.Goals as goal

pub returns-clause-shows : goal.returns-clause-shows
returns-clause-shows g c = λ words old new out out' err err' status run.
    run_shows g.H.TreeHash.hash g.R.Room g.R.Dsk.Disk g.O.Sink g.E.Sink words
    old new out out' err err' status run

pub returns-clause-steps : goal.returns-clause-steps
returns-clause-steps g c = runs_are_steps g.H.TreeHash.hash g.R.Room g.R.Dsk.Disk g.O.Sink g.E.Sink
    g.met.R.Dsk.Disk.reads_crash_state g.met.R.Dsk.Disk.only_now
    (g.met.R.Room.modelled_file, g.met.R.Room.one_device)
    g.met.R.Dsk.Disk.contents_bytes
