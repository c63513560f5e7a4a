use Rattle.std.proofs.Common.{rules, sym}
use Rattle.cert_fields.specs.Views.{parts}
use Rattle.cert_fields.proofs.CertificateForm.{parts_only}
use Rattle.policy_core.specs.Judgement.{judgement}
use Rattle.mtc_library.proofs.Judged.{has_proof}
use Rattle.mtc_library.proofs.accepting.accept.Goals as goal

pub returns-clause-accepted : goal.returns-clause-accepted
unfolding judgement
returns-clause-accepted g c = search rules

pub returns-clause-judged : goal.returns-clause-judged
returns-clause-judged g c = record {
  certificate = (parts_only c.args.bytes.now (parts c.in_ok-cert.cert)
      (λ i. (c.type_inv.bytes i).fits) c.in_ok-cert.ensures.exact).1;
  proof = c.in_ok-proof.ensures.exact;
  unix_time = _;
  accepted = sym c.in_ok-accepted.ensures;
}

pub returns-in_err-proof-clause-refused : goal.returns-in_err-proof-clause-refused
returns-in_err-proof-clause-refused g c =
    absurd (has_proof g.H.TreeHash.hash c.args.store.now _ (parts c.in_ok-cert.cert)
    c.in_ok-accepted.accepted _ (sym c.in_ok-accepted.ensures) c.in_err-proof.ensures.exact)
