use Rattle.std.proofs.Common.{◌-◌}
use Rattle.tree_proofs.proofs.consistency.+consist_in.Given as goal

abbrev pub decreases-consist_in : goal.decreases-consist_in
decreases-consist_in g l = l.high - l.low
