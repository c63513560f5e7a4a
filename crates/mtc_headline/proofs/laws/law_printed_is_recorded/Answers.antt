use Rattle.mtc_headline.proofs.Recorded.{printed_recorded}
use Rattle.mtc_headline.proofs.laws.law_printed_is_recorded.Goals as goal

pub returns : goal.returns
returns g c = printed_recorded g.H.TreeHash.hash g.R.Room g.R.Dsk.Disk g.O.Sink g.E.Sink
    g.met.R.Dsk.Disk.reads_crash_state g.met.R.Dsk.Disk.only_now
    (g.met.R.Room.modelled_file, g.met.R.Room.one_device)
    g.met.R.Dsk.Disk.contents_bytes g.met.H.TreeHash.sized
    (c.law_records_determine_the_items.ensures.sound g.H.TreeHash.hash)
