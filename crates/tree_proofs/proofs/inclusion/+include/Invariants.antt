use Rattle.std.proofs.Common.{◌-◌}
use Rattle.tree_proofs.proofs.inclusion.+include.Given as goal

abbrev pub decreases-include : goal.decreases-include
decreases-include g l = l.end - l.start
