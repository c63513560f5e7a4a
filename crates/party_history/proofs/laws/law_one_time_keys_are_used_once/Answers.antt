use Rattle.party_history.specs.Rules.{may_follow}
use Rattle.party_history.proofs.Agreement.{alone, once_used}
use Rattle.party_history.proofs.Sound.{sound}
use Rattle.party_history.proofs.laws.law_one_time_keys_are_used_once.Goals as goal

pub returns : goal.returns
returns c = λ h starts steps place s settings public leads is.
    once_used h s settings public (sound (may_follow h) (alone h) starts steps place s leads) is
