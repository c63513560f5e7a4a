use Rattle.lmots_core.proofs.Yields.{signature_yields_key}
use Rattle.lmots_core.proofs.laws.law_signature_yields_key.Goals as goal

pub returns : goal.returns
returns c t id seed message q = signature_yields_key t id seed message q
