use Rattle.mtc_laws.proofs.TilesStay.{no_tile_bad, tiles_stay}
use Rattle.mtc_laws.proofs.laws.law_tiles_survive_stops.Goals as goal

pub returns-clause-survive : goal.returns-clause-survive
returns-clause-survive g c = tiles_stay g.H.TreeHash.hash g.R.Room g.R.Dsk.Disk g.O.Sink g.E.Sink
    g.met.R.Dsk.Disk.reads_crash_state g.met.R.Dsk.Disk.only_now
    (g.met.R.Room.modelled_file, g.met.R.Room.one_device)
    g.met.R.Dsk.Disk.contents_bytes g.met.R.Dsk.Disk.counts_now g.met.R.Dsk.Disk.left_bytes

pub returns-clause-none : goal.returns-clause-none
returns-clause-none g c = no_tile_bad g.H.TreeHash.hash g.R.Room g.R.Dsk.Disk g.O.Sink g.E.Sink
    g.met.R.Dsk.Disk.reads_crash_state g.met.R.Dsk.Disk.only_now
    (g.met.R.Room.modelled_file, g.met.R.Room.one_device)
    g.met.R.Dsk.Disk.contents_bytes g.met.R.Dsk.Disk.counts_now g.met.R.Dsk.Disk.left_bytes
