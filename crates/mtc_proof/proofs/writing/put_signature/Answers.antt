use Rattle.std.proofs.Common.{append_assoc, refl, subst, sym}
use Rattle.byte_formats.specs.Types.{Text}
use Rattle.mtc_proof.specs.Proofs.{AreSignatures, SigParts}
use Rattle.mtc_proof.proofs.Listed.{signatures_more}
use Rattle.mtc_proof.proofs.writing.put_signature.Goals as goal

pub returns-in-Ok-clause-listed : goal.returns-in-Ok-clause-listed
returns-in-Ok-clause-listed c = λ those.
    let s : SigParts =
    record { cosigner = c.args.cosigner.now; signature = c.args.signature.now } in
    subst (λ (t : Text). AreSignatures t)
    (sym (simp (c.in-Ok.ensures.ok, c.in_ok-put_vec8.ensures.ok, append_assoc) refl))
    (signatures_more c.args.out.now s those (record {
      some = c.requires.some;
      cosigner = c.requires.cosigner_short;
      signature = c.requires.signature_short;
    }))
