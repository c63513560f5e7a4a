use Rattle.cosigner_core.proofs.FirstRecords.{cosigner_takes}
use Rattle.cosigner_core.proofs.Encoded.{cosigner_again}
use Rattle.cosigner_core.proofs.laws.law_first_records_decode_as_encoded.Goals as goal

pub returns-clause-again : goal.returns-clause-again
returns-clause-again c = cosigner_again

pub returns-clause-only : goal.returns-clause-only
returns-clause-only c = cosigner_takes
