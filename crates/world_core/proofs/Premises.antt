-- What an audit is given, by what its callers hold: a certificate that was judged.
use Rattle.std.proofs.Common.{◌≡◌, Ok, sym, subst, ◌∙◌}
use Rattle.std.specs.Prelude.{ℤ}
use Rattle.byte_formats.specs.Types.{HashFunction, Text}
use Rattle.byte_formats.specs.Offsets.{IsBytes}
use Rattle.byte_formats.specs.Readings.{lifted}
use Rattle.byte_formats.proofs.Steps.{bind_ok, lifted_ok, ok_is}
use Rattle.cert_fields.specs.Certificate.{Parts, parts_of}
use Rattle.cert_fields.proofs.CertificateForm.{parts_only}
use Rattle.mtc_proof.specs.Proofs.{ProofParts}
use Rattle.mtc_proof.specs.Reading.{proof_in}
use Rattle.policy_core.specs.Judgement.{judged, judgement}
use Rattle.policy_core.specs.declared.answer.Accepted.{Accepted}
use Rattle.policy_core.specs.declared.refusal.Refusal.TheVariants.{Grammar}
use Rattle.policy_core.specs.declared.store.Store.{Store}
use Rattle.world_core.specs.Audit.{WasJudged}

pub was_judged : (h : HashFunction) (bytes : Text) (store : Store) (unix_time : ℤ) (a : Accepted)
    (c : Parts) (p : ProofParts) → IsBytes bytes → judgement h bytes store unix_time ≡ Ok a
    → parts_of bytes ≡ Ok c → proof_in c.proof ≡ Ok p → WasJudged h store c p a
unfolding judgement
was_judged h bytes store unix_time a c p are accepted parsed read =
    let s = bind_ok (lifted Grammar (parts_of bytes)) (judged h store unix_time) a accepted in
    let same : s.0 ≡ c =
    ok_is _ s.0 c (sym (lifted_ok Grammar (parts_of bytes) s.0 s.1) ∙ parsed) in
    record {
      certificate = (parts_only bytes c are parsed).1;
      proof = read;
      unix_time = unix_time;
      accepted = subst (λ (x : Parts). judged h store unix_time x ≡ Ok a) same s.2;
    }
