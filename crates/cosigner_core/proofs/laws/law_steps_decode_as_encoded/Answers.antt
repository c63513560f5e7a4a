use Rattle.cosigner_core.proofs.Encoded.{step_again, step_takes}
use Rattle.cosigner_core.proofs.laws.law_steps_decode_as_encoded.Goals as goal

pub returns-clause-again : goal.returns-clause-again
returns-clause-again c = step_again

pub returns-clause-only : goal.returns-clause-only
returns-clause-only c = step_takes
