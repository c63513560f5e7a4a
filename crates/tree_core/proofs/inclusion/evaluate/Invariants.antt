-- what the rest of the path gives from the node at this index is what the whole path gives from the
-- leaf
use Rattle.std.proofs.Common.{◌-◌}
use Rattle.tree_core.proofs.Evaluates.{EvaluatesFrom}
use Rattle.tree_core.proofs.inclusion.evaluate.Given as goal

abbrev pub decreases-levels : goal.decreases-levels
decreases-levels g l = l.last

abbrev pub invariant-levels : goal.invariant-levels
invariant-levels g l = EvaluatesFrom g.H.TreeHash.hash l.fn.leaf (l.fn.index - l.fn.start)
    (l.fn.end - l.fn.start) l.path l.place l.last l.used l.node
