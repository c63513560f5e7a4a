use Rattle.cosigner_core.proofs.Counts.{counts_up}
use Rattle.cosigner_core.proofs.laws.law_one_time_keys_sign_once.Goals as goal

pub returns : goal.returns
returns c = λ h list s is. (counts_up h list s is).0
