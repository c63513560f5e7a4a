use Rattle.command_plans.proofs.Devices.{devices_serve}
use Rattle.command_plans.proofs.laws.law_work_on_devices_serves.Goals as goal

pub returns : goal.returns
returns g c = devices_serve g.R.Room g.R.Dsk.Disk
