use Rattle.tree_proofs.proofs.Checkpoints.{CheckpointsAreShown_always}
use Rattle.tree_proofs.proofs.laws.law_checkpoints_are_shown.Goals as goal

pub returns : goal.returns
returns c = CheckpointsAreShown_always
