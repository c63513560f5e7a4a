use Rattle.mirror_core.proofs.Encoded.{mirror_again, mirror_takes}
use Rattle.mirror_core.proofs.laws.law_mirrors_decode_as_encoded.Goals as goal

pub returns-clause-again : goal.returns-clause-again
returns-clause-again c = mirror_again

pub returns-clause-only : goal.returns-clause-only
returns-clause-only c = mirror_takes
