use Rattle.hss_keys.proofs.Newest.{key_verifies}
use Rattle.hss_keys.proofs.laws.law_key_signature_verifies.Goals as goal

pub returns : goal.returns
returns c k q message id below = key_verifies k.top k.low q message id below
