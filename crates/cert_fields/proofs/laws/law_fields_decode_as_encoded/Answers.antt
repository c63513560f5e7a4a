use Rattle.cert_fields.proofs.FieldForms.{algorithm_form, spki_form, name_form, validity_form}
use Rattle.cert_fields.proofs.FieldForms.{signature_form}
use Rattle.cert_fields.proofs.laws.law_fields_decode_as_encoded.Goals as goal

pub returns : goal.returns
returns c = record {
  algorithms = algorithm_form;
  public_keys = spki_form;
  names =
      name_form;
  validities = validity_form;
  signatures = signature_form;
}
