use Rattle.cert_fields.proofs.ExtensionForms.{extensions_form, general_names_only}
use Rattle.cert_fields.proofs.ExtensionForms.{general_names_again}
use Rattle.cert_fields.proofs.laws.law_extensions_decode_as_encoded.Goals as goal

pub returns : goal.returns
returns c = record {
  field = extensions_form;
  only = general_names_only;
  again =
      general_names_again;
}
