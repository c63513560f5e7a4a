use Rattle.tree_peaks.proofs.Folds.{Folds}
use Rattle.tree_peaks.proofs.folding.root_of_peaks.Given as goal

-- The root is that of the peaks from the index on.
abbrev pub invariant-loop-index : goal.invariant-loop-index
invariant-loop-index g l = Folds g.H.TreeHash.hash l.peaks l.index l.root

abbrev pub decreases-loop-index : goal.decreases-loop-index
decreases-loop-index g l = l.index
