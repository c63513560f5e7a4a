use Rattle.mtc_laws.proofs.Listed.{items_stand, lists_printed, lists_stand}
use Rattle.mtc_laws.proofs.lists.law_issued_lists_stand.Goals as goal

pub returns-clause-printed : goal.returns-clause-printed
returns-clause-printed g c = lists_printed g.H.TreeHash.hash g.R.Room g.R.Dsk.Disk g.O.Sink g.E.Sink
    (g.met.R.Room.modelled_file, g.met.R.Room.one_device) g.met.R.Dsk.Disk.contents_bytes

pub returns-clause-stand : goal.returns-clause-stand
returns-clause-stand g c = lists_stand g.H.TreeHash.hash g.R.Room g.R.Dsk.Disk g.O.Sink g.E.Sink
    (g.met.R.Room.modelled_file, g.met.R.Room.one_device) g.met.R.Dsk.Disk.contents_bytes
    g.met.R.Dsk.Disk.reads_crash_state g.met.R.Dsk.Disk.only_now

pub returns-clause-items : goal.returns-clause-items
returns-clause-items g c = items_stand g.H.TreeHash.hash g.R.Room g.R.Dsk.Disk g.O.Sink g.E.Sink
    (g.met.R.Room.modelled_file, g.met.R.Room.one_device) g.met.R.Dsk.Disk.contents_bytes
    g.met.R.Dsk.Disk.reads_crash_state g.met.R.Dsk.Disk.only_now
