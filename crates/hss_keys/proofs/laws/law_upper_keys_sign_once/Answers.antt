use Rattle.hss_keys.proofs.Newest.{upper_same}
use Rattle.hss_keys.proofs.laws.law_upper_keys_sign_once.Goals as goal

pub returns : goal.returns
returns c top low q p message other same = upper_same top low q p message other same
