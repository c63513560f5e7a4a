use Rattle.std.proofs.Common.{length}
use Rattle.mirror_core.proofs.Pushing.{ArePushed}
use Rattle.mirror_core.proofs.kept.KeptItems.push_leaves.Given as goal

-- what is left follows what was pushed
abbrev pub invariant-items : goal.invariant-items
invariant-items g l = ArePushed g.H.TreeHash.hash l.fn.self l.list l.self l.rest

abbrev pub decreases-items : goal.decreases-items
decreases-items g l = length l.rest
