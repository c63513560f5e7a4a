use Rattle.std.proofs.Common.{length}
use Rattle.tree_cache.proofs.rows.+grow.Given as goal

abbrev pub decreases-grow : goal.decreases-grow
decreases-grow l = length l.rows.now
