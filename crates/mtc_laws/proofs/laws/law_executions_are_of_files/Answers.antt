use Rattle.mtc_laws.proofs.OneFile.{executions_of_files}
use Rattle.mtc_laws.proofs.laws.law_executions_are_of_files.Goals as goal

pub returns : goal.returns
returns g c = executions_of_files g.H.TreeHash.hash g.R.Room g.R.Dsk.Disk g.O.Sink g.E.Sink
    (g.met.R.Room.modelled_file, g.met.R.Room.one_device)
