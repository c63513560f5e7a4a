use Rattle.party_history.proofs.Switches.{switch_added, switch_kept}
use Rattle.party_history.proofs.laws.law_logs_stay_switched.Goals as goal

pub returns-clause-added : goal.returns-clause-added
returns-clause-added c = switch_added

pub returns-clause-kept : goal.returns-clause-kept
returns-clause-kept c = switch_kept
