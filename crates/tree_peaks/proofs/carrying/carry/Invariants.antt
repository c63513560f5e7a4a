use Rattle.tree_peaks.proofs.Carries.{Carries}
use Rattle.tree_peaks.proofs.carrying.carry.Given as goal

-- The peaks that are left carry the node as all of them carry the leaf.
abbrev pub invariant-joins : goal.invariant-joins
invariant-joins g l =
    Carries g.H.TreeHash.hash l.hashes l.fn.peaks l.fn.size l.fn.leaf l.count l.n l.node

abbrev pub decreases-joins : goal.decreases-joins
decreases-joins g l = l.n
