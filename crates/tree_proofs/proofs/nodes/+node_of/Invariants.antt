use Rattle.std.proofs.Common.{◌-◌}
use Rattle.tree_proofs.proofs.nodes.+node_of.Given as goal

abbrev pub decreases-node_of : goal.decreases-node_of
decreases-node_of g l = l.end - l.start
