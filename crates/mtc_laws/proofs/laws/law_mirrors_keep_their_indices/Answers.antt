use Rattle.mtc_laws.proofs.Recovered.{mirrored_stand}
use Rattle.mtc_laws.proofs.laws.law_mirrors_keep_their_indices.Goals as goal

pub returns : goal.returns
returns g c = mirrored_stand g.H.TreeHash.hash g.R.Room g.R.Dsk.Disk g.O.Sink g.E.Sink
    g.met.R.Dsk.Disk.reads_crash_state g.met.R.Dsk.Disk.only_now
    (g.met.R.Room.modelled_file, g.met.R.Room.one_device)
    g.met.R.Dsk.Disk.contents_bytes
