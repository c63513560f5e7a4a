use Rattle.party_history.specs.Rules.{may_follow}
use Rattle.party_history.proofs.Chains.{begins_fresh, continues}
use Rattle.party_history.proofs.laws.law_histories_continue.Goals as goal

pub returns-clause-begins : goal.returns-clause-begins
returns-clause-begins c = λ h. begins_fresh (may_follow h)

pub returns-clause-on : goal.returns-clause-on
returns-clause-on c = λ h. continues (may_follow h)
