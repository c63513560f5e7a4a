use Rattle.quarrel_core.proofs.Contrasts.{OneSubtree_always}
use Rattle.quarrel_core.proofs.laws.law_proofs_of_one_subtree.Goals as goal

pub returns : goal.returns
returns g c = OneSubtree_always g.H.TreeHash.hash
