use Rattle.mtc_laws.proofs.Monitored.{monitors_printed}
use Rattle.mtc_laws.proofs.monitors.law_monitors_print_what_was_found.Goals as goal

pub returns : goal.returns
returns g c =
    monitors_printed g.H.TreeHash.hash g.R.Room g.R.Dsk.Disk g.O.Sink g.E.Sink
