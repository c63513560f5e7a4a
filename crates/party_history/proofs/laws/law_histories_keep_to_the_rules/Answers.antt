use Rattle.party_history.specs.Rules.{may_follow}
use Rattle.party_history.proofs.Agreement.{alone}
use Rattle.party_history.proofs.Sound.{released_all, sound, were_pending}
use Rattle.party_history.proofs.laws.law_histories_keep_to_the_rules.Goals as goal

pub returns-clause-sound : goal.returns-clause-sound
returns-clause-sound c = λ h. sound (may_follow h) (alone h)

pub returns-clause-was_pending : goal.returns-clause-was_pending
returns-clause-was_pending c = λ h. were_pending (may_follow h)

pub returns-clause-released : goal.returns-clause-released
returns-clause-released c = λ h starts steps place s leads.
    released_all (may_follow h) steps place s
    (sound (may_follow h) (alone h) starts steps place s leads)
    (were_pending (may_follow h) starts steps place s leads)
