use Rattle.std.proofs.Common.{sym}
use Rattle.cert_fields.specs.Views.{parts}
use Rattle.cert_fields.proofs.CertificateForm.{parts_only}
use Rattle.mtc_relying.proofs.audit.accepted_in.Goals as goal

pub returns-clause-judged : goal.returns-clause-judged
returns-clause-judged g c = record {
  certificate = (parts_only c.args.bytes.now (parts c.in_ok-cert.cert)
      (λ i. (c.type_inv.bytes i).fits) c.in_ok-cert.ensures.exact).1;
  proof = c.in_ok-proof.ensures.exact;
  unix_time = _;
  accepted = sym c.in_ok-accepted.ensures;
}
