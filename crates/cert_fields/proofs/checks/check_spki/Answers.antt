use Rattle.byte_formats.specs.Forms.{Anything, itself}
use Rattle.cert_fields.specs.Keys.{spki_at}
use Rattle.cert_fields.specs.Grammar.{IsPublicKey}
use Rattle.cert_fields.proofs.FieldForms.{spki_form}
use Rattle.cert_fields.proofs.Offsets.{read_within}
use Rattle.cert_fields.proofs.checks.check_spki.Goals as goal

pub returns-clause-within : goal.returns-clause-within
returns-clause-within c =
    read_within itself IsPublicKey Anything spki_at spki_form c.args.input.now c.args.place
    (λ i. (c.type_inv.input i).fits) c.requires
    c.at-reader.result c.in_ok-spki.field-0.now c.spki.new.reader c.place.result c.at-reader.ensures
    c.in_ok-spki.ensures c.place.ensures
