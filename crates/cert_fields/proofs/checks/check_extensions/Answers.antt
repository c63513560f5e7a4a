use Rattle.byte_formats.specs.Forms.{Anything, OtherThan, itself}
use Rattle.cert_fields.specs.Extensions.{extensions_at}
use Rattle.cert_fields.proofs.ExtensionForms.{IsExtensions, extensions_form}
use Rattle.cert_fields.proofs.Offsets.{read_within}
use Rattle.cert_fields.proofs.checks.check_extensions.Goals as goal

pub returns-clause-within : goal.returns-clause-within
returns-clause-within c =
    read_within itself IsExtensions (λ rest. Anything rest
    × OtherThan 0xA3 rest) extensions_at extensions_form c.args.input.now c.args.place
    (λ i. (c.type_inv.input i).fits) c.requires
    c.at-reader.result c.in_ok-read_extensions.field-0.now c.read_extensions.new.reader
    c.place.result c.at-reader.ensures c.in_ok-read_extensions.ensures c.place.ensures
