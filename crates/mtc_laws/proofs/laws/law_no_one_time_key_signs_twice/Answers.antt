use Rattle.mtc_laws.proofs.Recovered.{keys_once, one_message}
use Rattle.mtc_laws.proofs.laws.law_no_one_time_key_signs_twice.Goals as goal

pub returns-clause-records : goal.returns-clause-records
returns-clause-records g c = keys_once g.H.TreeHash.hash g.R.Room g.R.Dsk.Disk g.O.Sink g.E.Sink
    g.met.R.Dsk.Disk.reads_crash_state g.met.R.Dsk.Disk.only_now
    (g.met.R.Room.modelled_file, g.met.R.Room.one_device)
    g.met.R.Dsk.Disk.contents_bytes

pub returns-clause-messages : goal.returns-clause-messages
returns-clause-messages g c = one_message g.H.TreeHash.hash g.R.Room g.R.Dsk.Disk g.O.Sink g.E.Sink
    g.met.R.Dsk.Disk.reads_crash_state g.met.R.Dsk.Disk.only_now
    (g.met.R.Room.modelled_file, g.met.R.Room.one_device)
    g.met.R.Dsk.Disk.contents_bytes
