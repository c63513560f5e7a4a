use Rattle.mtc_laws.proofs.PrintedStands.{issued_stand, signatures_stand, switches_stand}
use Rattle.mtc_laws.proofs.laws.law_printed_texts_stand.Goals as goal

pub returns-clause-entries : goal.returns-clause-entries
returns-clause-entries g c = issued_stand g.H.TreeHash.hash g.R.Room g.R.Dsk.Disk g.O.Sink
    g.E.Sink g.met.R.Dsk.Disk.reads_crash_state g.met.R.Dsk.Disk.only_now
    (g.met.R.Room.modelled_file, g.met.R.Room.one_device)
    g.met.R.Dsk.Disk.contents_bytes

pub returns-clause-switches : goal.returns-clause-switches
returns-clause-switches g c = switches_stand g.H.TreeHash.hash g.R.Room g.R.Dsk.Disk g.O.Sink
    g.E.Sink g.met.R.Dsk.Disk.reads_crash_state g.met.R.Dsk.Disk.only_now
    (g.met.R.Room.modelled_file, g.met.R.Room.one_device)
    g.met.R.Dsk.Disk.contents_bytes

pub returns-clause-signatures : goal.returns-clause-signatures
returns-clause-signatures g c = signatures_stand g.H.TreeHash.hash g.R.Room g.R.Dsk.Disk g.O.Sink
    g.E.Sink g.met.R.Dsk.Disk.reads_crash_state g.met.R.Dsk.Disk.only_now
    (g.met.R.Room.modelled_file, g.met.R.Room.one_device)
    g.met.R.Dsk.Disk.contents_bytes g.met.H.TreeHash.sized
    (c.law_records_determine_the_items.ensures.sound g.H.TreeHash.hash)
