use Rattle.tree_peaks.proofs.Pushing.{no_leaves}
use Rattle.tree_peaks.proofs.growing.Peaks.new.Goals as goal

pub returns-clause-of : goal.returns-clause-of
returns-clause-of g c = no_leaves g.H.TreeHash.hash
