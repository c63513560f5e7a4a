use Rattle.issuance_log.proofs.Encoded.{item_again, item_takes}
use Rattle.issuance_log.proofs.laws.law_items_decode_as_encoded.Goals as goal

pub returns-clause-again : goal.returns-clause-again
returns-clause-again c = item_again

pub returns-clause-only : goal.returns-clause-only
returns-clause-only c = item_takes
