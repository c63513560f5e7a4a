use Rattle.cert_fields.proofs.CertificateForm.{gives_found, gives_only}
use Rattle.cert_fields.proofs.certificate.parse.Goals as goal

pub returns-clause-found : goal.returns-clause-found
returns-clause-found c = gives_found c.args.bytes.now c.whole.result
    (λ i. (c.type_inv.bytes i).fits) c.whole.ensures

pub returns-clause-only : goal.returns-clause-only
returns-clause-only c = gives_only c.args.bytes.now c.whole.result c.whole.ensures
