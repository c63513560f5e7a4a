use Rattle.tls_wire.specs.Anchors.{text_of}
use Rattle.cert_names.specs.LogNames.{name_with}
use Rattle.cert_names.proofs.LogForms.{id_named, log_again}
use Rattle.authority_core.proofs.Issued.{entry_read, form_asked, key_belongs, names_asked}
use Rattle.authority_core.proofs.Issued.{all_known, own_entry}
use Rattle.authority_core.proofs.issuing.laws.law_entries_say_what_was_asked.Goals as goal

pub returns : goal.returns
returns c = record {
  read = entry_read;
  belongs = key_belongs;
  form = form_asked;
  issuer = λ h form id r anchor.
      log_again (name_with (text_of id)) (text_of id) (id_named id anchor);
  names = λ h form id r f. names_asked r f;
  known = λ h form id r f. all_known r f;
  own = own_entry;
}
