use Rattle.cert_time.proofs.BothWays.{text_law}
use Rattle.cert_time.proofs.laws.law_one_text.Goals as goal

pub returns : goal.returns
returns c = text_law
