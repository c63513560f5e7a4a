use Rattle.byte_formats.specs.Forms.{Anything, itself}
use Rattle.cert_fields.specs.Names.{name_at}
use Rattle.cert_fields.specs.Grammar.{IsName}
use Rattle.cert_fields.proofs.FieldForms.{name_form}
use Rattle.cert_fields.proofs.Offsets.{read_within}
use Rattle.cert_fields.proofs.checks.check_name.Goals as goal

pub returns-clause-within : goal.returns-clause-within
returns-clause-within c =
    read_within itself IsName Anything name_at name_form c.args.input.now c.args.place
    (λ i. (c.type_inv.input i).fits) c.requires
    c.at-reader.result c.in_ok-read_name.field-0.now c.read_name.new.reader c.place.result
    c.at-reader.ensures c.in_ok-read_name.ensures c.place.ensures
