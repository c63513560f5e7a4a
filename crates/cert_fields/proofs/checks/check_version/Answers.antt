use Rattle.byte_formats.specs.Forms.{Anything}
use Rattle.cert_fields.specs.Certificate.{version_at}
use Rattle.cert_fields.proofs.CertificateForm.{NoValue, version_text, version_form}
use Rattle.cert_fields.proofs.Offsets.{read_within}
use Rattle.cert_fields.proofs.checks.check_version.Goals as goal

pub returns-clause-within : goal.returns-clause-within
returns-clause-within c =
    read_within version_text NoValue Anything version_at version_form c.args.input.now c.args.place
    (λ i. (c.type_inv.input i).fits) c.requires
    c.at-reader.result tt c.read_version.new.reader c.place.result c.at-reader.ensures
    c.in_ok-read_version.ensures c.place.ensures
