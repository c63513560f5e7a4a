use Rattle.command_plans.proofs.Stops.{stops_serve}
use Rattle.command_plans.proofs.laws.law_stops_before_the_work_serve.Goals as goal

pub returns : goal.returns
returns g c = stops_serve g.R.Room g.R.Dsk.Disk
    (record { file = g.met.R.Room.modelled_file; device = g.met.R.Room.one_device })
    g.met.R.Dsk.Disk.only_now
