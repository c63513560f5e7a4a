use Rattle.mtc_laws.proofs.Recordings.{recorded_signatures_collide}
use Rattle.mtc_laws.proofs.recorded.law_recorded_signatures_collide.Goals as goal

pub returns : goal.returns
returns g c = recorded_signatures_collide g.H.TreeHash.hash g.R.Room g.R.Dsk.Disk g.O.Sink g.E.Sink
    (g.met.R.Room.modelled_file, g.met.R.Room.one_device) g.met.R.Dsk.Disk.contents_bytes
