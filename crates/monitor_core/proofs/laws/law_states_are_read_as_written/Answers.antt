use Rattle.monitor_core.proofs.ReadBack.{StatesAreReadAsWritten_always}
use Rattle.monitor_core.proofs.laws.law_states_are_read_as_written.Goals as goal

pub returns : goal.returns
returns c = StatesAreReadAsWritten_always
