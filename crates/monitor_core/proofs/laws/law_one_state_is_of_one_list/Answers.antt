use Rattle.monitor_core.proofs.LastLines.{last_lines_of_one}
use Rattle.monitor_core.proofs.Runs.{monitors_saw_one, states_of_one}
use Rattle.monitor_core.proofs.laws.law_one_state_is_of_one_list.Goals as goal

pub returns-clause-states : goal.returns-clause-states
returns-clause-states g c = states_of_one g.H.TreeHash.hash c.law_lists_extract.ensures

pub returns-clause-monitors : goal.returns-clause-monitors
returns-clause-monitors g c = monitors_saw_one g.H.TreeHash.hash c.law_lists_extract.ensures

pub returns-clause-lines : goal.returns-clause-lines
returns-clause-lines g c = last_lines_of_one g.H.TreeHash.hash c.law_lists_extract.ensures
