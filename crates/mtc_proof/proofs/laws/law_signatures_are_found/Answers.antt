use Rattle.mtc_proof.proofs.Sequence.{signatures_found}
use Rattle.mtc_proof.proofs.laws.law_signatures_are_found.Goals as goal

pub returns : goal.returns
returns c = signatures_found
