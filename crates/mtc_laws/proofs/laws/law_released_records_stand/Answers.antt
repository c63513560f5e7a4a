use Rattle.mtc_laws.proofs.Recovered.{released_stand, released_was_held}
use Rattle.mtc_laws.proofs.laws.law_released_records_stand.Goals as goal

pub returns-clause-held : goal.returns-clause-held
returns-clause-held g c =
    released_was_held g.H.TreeHash.hash g.R.Room g.R.Dsk.Disk g.O.Sink g.E.Sink
    g.met.R.Dsk.Disk.reads_crash_state g.met.R.Dsk.Disk.only_now
    (g.met.R.Room.modelled_file, g.met.R.Room.one_device)
    g.met.R.Dsk.Disk.contents_bytes

pub returns-clause-stand : goal.returns-clause-stand
returns-clause-stand g c = released_stand g.H.TreeHash.hash g.R.Room g.R.Dsk.Disk g.O.Sink g.E.Sink
    g.met.R.Dsk.Disk.reads_crash_state g.met.R.Dsk.Disk.only_now
    (g.met.R.Room.modelled_file, g.met.R.Room.one_device)
    g.met.R.Dsk.Disk.contents_bytes
