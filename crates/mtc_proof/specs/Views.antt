-- Parts of the code's values as contracts see them: slices as their bytes.
use Rattle.mtc_proof.specs.Proofs.{SigParts, ProofParts}
use Rattle.mtc_proof.specs.declared.proof.Proof.{Proof}
use Rattle.mtc_proof.specs.declared.proof.SigRef.{SigRef}

-- A proof.
abbrev pub proof_parts : Proof → ProofParts
proof_parts p = record {
  start = p.start;
  end = p.end;
  path = p.path.now;
  signatures = p.signatures.now;
}

-- A signature.
abbrev pub sig_parts : SigRef → SigParts
sig_parts s = record { cosigner = s.cosigner.now; signature = s.signature.now }
