use Rattle.mtc_proof.proofs.Forms.{proofs_only, proofs_again, one_proof}
use Rattle.mtc_proof.proofs.laws.law_proofs_decode_as_encoded.Goals as goal

pub returns : goal.returns
returns c = record { only = proofs_only; again = proofs_again; one = one_proof }
