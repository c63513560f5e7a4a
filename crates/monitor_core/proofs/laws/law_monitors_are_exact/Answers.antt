use Rattle.monitor_core.proofs.Exact.{MonitorIsExact_always}
use Rattle.monitor_core.proofs.laws.law_monitors_are_exact.Goals as goal

pub returns : goal.returns
returns c = MonitorIsExact_always
