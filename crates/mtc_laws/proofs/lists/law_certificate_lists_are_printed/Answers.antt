use Rattle.mtc_laws.proofs.Bundled.{certificate_lists_printed, light_lists_printed}
use Rattle.mtc_laws.proofs.lists.law_certificate_lists_are_printed.Goals as goal

pub returns-clause-certificates : goal.returns-clause-certificates
returns-clause-certificates g c = certificate_lists_printed g.H.TreeHash.hash g.R.Room
    g.R.Dsk.Disk g.O.Sink g.E.Sink
    (g.met.R.Room.modelled_file, g.met.R.Room.one_device) g.met.R.Dsk.Disk.contents_bytes

pub returns-clause-light : goal.returns-clause-light
returns-clause-light g c = light_lists_printed g.H.TreeHash.hash g.R.Room g.R.Dsk.Disk
    g.O.Sink g.E.Sink
    (g.met.R.Room.modelled_file, g.met.R.Room.one_device) g.met.R.Dsk.Disk.contents_bytes
