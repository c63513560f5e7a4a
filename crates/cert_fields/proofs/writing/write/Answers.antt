use Rattle.cert_fields.specs.Given.{given}
use Rattle.cert_fields.proofs.CertificateForm.{written_again}
use Rattle.cert_fields.proofs.writing.write.Goals as goal

pub returns-clause-read : goal.returns-clause-read
returns-clause-read c = written_again (given c.args.parts.now) c.certificate_element.result
    c.certificate_element.ensures
