use Rattle.disk_core.proofs.Torn.{crash_state_keeps, keeps_crash_state}
use Rattle.disk_core.proofs.laws.law_torn_writes_keep_others.Goals as goal

pub returns-clause-kept : goal.returns-clause-kept
returns-clause-kept c = crash_state_keeps

pub returns-clause-all : goal.returns-clause-all
returns-clause-all c = keeps_crash_state
