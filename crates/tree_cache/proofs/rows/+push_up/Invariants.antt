use Rattle.std.proofs.Common.{length}
use Rattle.tree_cache.proofs.rows.+push_up.Given as goal

abbrev pub decreases-push_up : goal.decreases-push_up
decreases-push_up g l = length l.rows.now
