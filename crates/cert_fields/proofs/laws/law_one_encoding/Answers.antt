use Rattle.cert_fields.proofs.CertificateForm.{one_certificate}
use Rattle.cert_fields.proofs.laws.law_one_encoding.Goals as goal

pub returns : goal.returns
returns c = one_certificate
