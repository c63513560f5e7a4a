use Rattle.hss_core.proofs.Verifies.{signature_verifies}
use Rattle.hss_core.proofs.laws.law_signature_verifies.Goals as goal

pub returns : goal.returns
returns c l t secret message q size below = signature_verifies l t secret message q size below
