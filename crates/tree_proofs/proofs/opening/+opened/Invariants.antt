use Rattle.std.proofs.Common.{length}
use Rattle.tree_proofs.proofs.opening.+opened.Given as goal

abbrev pub decreases-opened : goal.decreases-opened
decreases-opened g l = length l.proof.now
