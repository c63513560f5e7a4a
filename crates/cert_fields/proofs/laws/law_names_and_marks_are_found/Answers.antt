use Rattle.cert_fields.proofs.Found.{field_extensions, octets_names, names_of_field, no_names_found}
use Rattle.cert_fields.proofs.Found.{critical_found}
use Rattle.cert_fields.proofs.laws.law_names_and_marks_are_found.Goals as goal

pub returns : goal.returns
returns c = record {
  field = field_extensions;
  octets = octets_names;
  names = names_of_field;
  none =
      no_names_found;
  critical = critical_found;
}
