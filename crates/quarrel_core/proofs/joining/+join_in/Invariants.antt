use Rattle.std.proofs.Common.{length}
use Rattle.quarrel_core.proofs.joining.+join_in.Given as goal

abbrev pub decreases-join_in : goal.decreases-join_in
decreases-join_in g l = length l.proofs.second.now
