use Rattle.log_entry.proofs.Matches.{made_encoded, made_read}
use Rattle.log_entry.proofs.laws.law_entries_are_of_their_certificates.Goals as goal

pub returns : goal.returns
returns c = record { encoded = made_encoded; read = made_read }
