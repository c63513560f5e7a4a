use Rattle.cert_names.proofs.LogForms.{id_named, log_only, log_again}
use Rattle.cert_names.proofs.laws.law_log_names_decode_as_encoded.Goals as goal

pub returns : goal.returns
returns c = record { ids = id_named; read = log_only; again = log_again }
