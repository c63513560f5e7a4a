use Rattle.mtc_proof.proofs.Inputs.{one_input}
use Rattle.mtc_proof.proofs.laws.law_signature_inputs_have_one_meaning.Goals as goal

pub returns : goal.returns
returns c = one_input
