use Rattle.cert_fields.proofs.CertificateForm.{parts_only, parts_again}
use Rattle.cert_fields.proofs.laws.law_certificates_decode_as_encoded.Goals as goal

pub returns : goal.returns
returns c = record { only = parts_only; again = parts_again }
