use Rattle.mtc_laws.proofs.AskedSteps.{steps_asked}
use Rattle.mtc_laws.proofs.mirrors.law_mirrors_ask_each_step.Goals as goal

pub returns : goal.returns
returns g c = steps_asked g.H.TreeHash.hash g.R.Room g.R.Dsk.Disk g.O.Sink g.E.Sink
    (g.met.R.Room.modelled_file, g.met.R.Room.one_device)
    g.met.R.Dsk.Disk.contents_bytes g.met.H.TreeHash.sized
    (c.law_records_determine_the_items.ensures.sound g.H.TreeHash.hash)
