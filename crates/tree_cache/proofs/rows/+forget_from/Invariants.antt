use Rattle.std.proofs.Common.{length}
use Rattle.tree_cache.proofs.rows.+forget_from.Given as goal

abbrev pub decreases-forget_from : goal.decreases-forget_from
decreases-forget_from l = length l.rows.now
