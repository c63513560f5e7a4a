use Rattle.mtc_headline.proofs.Recorded.{held_read}
use Rattle.mtc_headline.proofs.laws.law_held_is_read.Goals as goal

pub returns : goal.returns
returns g c = held_read g.H.TreeHash.hash g.R.Room g.R.Dsk.Disk g.O.Sink g.E.Sink
    g.met.R.Dsk.Disk.reads_crash_state g.met.R.Dsk.Disk.only_now
    (g.met.R.Room.modelled_file, g.met.R.Room.one_device)
    g.met.R.Dsk.Disk.contents_bytes
