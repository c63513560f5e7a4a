use Rattle.cert_names.proofs.Labels.{cut, joined}
use Rattle.cert_names.proofs.laws.law_host_names_are_joined_labels.Goals as goal

pub returns : goal.returns
returns c = record { cut = cut; joined = joined }
