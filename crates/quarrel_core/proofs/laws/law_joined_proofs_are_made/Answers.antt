use Rattle.quarrel_core.proofs.Joinable.{MadeProofsJoin_always}
use Rattle.quarrel_core.proofs.laws.law_joined_proofs_are_made.Goals as goal

pub returns : goal.returns
returns c = MadeProofsJoin_always
