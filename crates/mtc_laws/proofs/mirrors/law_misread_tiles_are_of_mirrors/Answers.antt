use Rattle.mtc_laws.proofs.MirrorTiles.{no_mirror_tile_bad}
use Rattle.mtc_laws.proofs.MisreadBoth.{tiles_misread}
use Rattle.mtc_laws.proofs.mirrors.law_misread_tiles_are_of_mirrors.Goals as goal

pub returns-clause-misread : goal.returns-clause-misread
returns-clause-misread g c = tiles_misread g.H.TreeHash.hash g.R.Room g.R.Dsk.Disk
    g.O.Sink g.E.Sink
    g.met.R.Dsk.Disk.reads_crash_state g.met.R.Dsk.Disk.only_now
    (g.met.R.Room.modelled_file, g.met.R.Room.one_device)
    g.met.R.Dsk.Disk.contents_bytes

pub returns-clause-none : goal.returns-clause-none
returns-clause-none g c = no_mirror_tile_bad g.H.TreeHash.hash g.R.Room g.R.Dsk.Disk
    g.O.Sink g.E.Sink
    g.met.R.Dsk.Disk.reads_crash_state g.met.R.Dsk.Disk.only_now
    (g.met.R.Room.modelled_file, g.met.R.Room.one_device)
    g.met.R.Dsk.Disk.contents_bytes g.met.R.Dsk.Disk.counts_now g.met.R.Dsk.Disk.left_bytes
