use Rattle.tree_core.proofs.Subtrees.{is_subtree_iff}
use Rattle.tree_core.proofs.laws.law_subtrees_by_power.Goals as goal

pub returns : goal.returns
returns c = is_subtree_iff
