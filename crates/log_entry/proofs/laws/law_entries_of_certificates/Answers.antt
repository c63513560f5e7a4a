use Rattle.log_entry.proofs.Matches.{certificate_entry, certificate_form, certificate_matches}
use Rattle.log_entry.proofs.laws.law_entries_of_certificates.Goals as goal

pub returns : goal.returns
returns c =
    record { fields = certificate_entry; key = certificate_matches; form = certificate_form }
