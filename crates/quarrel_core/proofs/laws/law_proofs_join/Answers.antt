use Rattle.quarrel_core.proofs.Joins.{ProofsJoin_always}
use Rattle.quarrel_core.proofs.laws.law_proofs_join.Goals as goal

pub returns : goal.returns
returns g c = ProofsJoin_always g.H.TreeHash.hash g.met.H.TreeHash.sized
