use Rattle.mtc_proof.proofs.Forms.{signature_form, list_form}
use Rattle.mtc_proof.proofs.laws.law_signatures_decode_as_encoded.Goals as goal

pub returns : goal.returns
returns c = record { one = signature_form; list = list_form }
