use Rattle.party_history.specs.Rules.{may_follow}
use Rattle.party_history.proofs.Sound.{began_so, grown}
use Rattle.party_history.proofs.laws.law_states_only_grow.Goals as goal

pub returns-clause-grown : goal.returns-clause-grown
returns-clause-grown c = λ h. grown (may_follow h)

pub returns-clause-begins : goal.returns-clause-begins
returns-clause-begins c = λ h. began_so (may_follow h)
