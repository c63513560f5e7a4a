use Rattle.cosigner_core.proofs.UpperKeys.{its_tree}
use Rattle.cosigner_core.proofs.laws.law_upper_keys_sign_their_trees.Goals as goal

pub returns : goal.returns
returns c = its_tree
