use Rattle.collide.proofs.Hashed.{AreInputs_always}
use Rattle.collide.proofs.laws.law_inputs_by_clauses.Goals as goal

pub returns : goal.returns
returns c = AreInputs_always
