use Rattle.mtc_laws.proofs.Audits.{audits_stand}
use Rattle.mtc_laws.proofs.AuditsDecide.{audits_decide}
use Rattle.mtc_laws.proofs.laws.law_audits_stand.Goals as goal

pub returns-clause-decide : goal.returns-clause-decide
returns-clause-decide g c = audits_decide g.H.TreeHash.hash g.R.Room g.R.Dsk.Disk g.O.Sink g.E.Sink
    g.met.R.Dsk.Disk.reads_crash_state g.met.R.Dsk.Disk.only_now
    (g.met.R.Room.modelled_file, g.met.R.Room.one_device)
    g.met.R.Dsk.Disk.contents_bytes

pub returns-clause-stand : goal.returns-clause-stand
returns-clause-stand g c = audits_stand g.H.TreeHash.hash g.R.Room g.R.Dsk.Disk g.O.Sink g.E.Sink
    g.met.R.Dsk.Disk.reads_crash_state g.met.R.Dsk.Disk.only_now
    (g.met.R.Room.modelled_file, g.met.R.Room.one_device)
    g.met.R.Dsk.Disk.contents_bytes
