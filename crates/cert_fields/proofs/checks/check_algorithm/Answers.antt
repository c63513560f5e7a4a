use Rattle.byte_formats.specs.Forms.{Anything, itself}
use Rattle.cert_fields.specs.Keys.{algorithm_at}
use Rattle.cert_fields.specs.Grammar.{IsAlgorithm}
use Rattle.cert_fields.proofs.FieldForms.{algorithm_form}
use Rattle.cert_fields.proofs.Offsets.{read_within}
use Rattle.cert_fields.proofs.checks.check_algorithm.Goals as goal

pub returns-clause-within : goal.returns-clause-within
returns-clause-within c =
    read_within itself IsAlgorithm Anything algorithm_at algorithm_form c.args.input.now
    c.args.place (λ i. (c.type_inv.input i).fits) c.requires
    c.at-reader.result c.in_ok-read_algorithm.field-0.now c.read_algorithm.new.reader c.place.result
    c.at-reader.ensures c.in_ok-read_algorithm.ensures c.place.ensures
