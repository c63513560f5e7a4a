use Rattle.mirror_core.proofs.Encoded.{batch_again, batch_takes}
use Rattle.mirror_core.proofs.laws.law_batches_decode_as_encoded.Goals as goal

pub returns-clause-again : goal.returns-clause-again
returns-clause-again c = batch_again

pub returns-clause-only : goal.returns-clause-only
returns-clause-only c = batch_takes
