use Rattle.monitor_core.proofs.Runs.{EachEntryOnce_always}
use Rattle.monitor_core.proofs.laws.law_each_entry_is_reported_once.Goals as goal

pub returns : goal.returns
returns c = EachEntryOnce_always
