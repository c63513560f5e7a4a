use Rattle.tree_peaks.proofs.Always.{PeaksTakeLeaves_always}
use Rattle.tree_peaks.proofs.laws.law_peaks_take_leaves.Goals as goal

pub returns : goal.returns
returns c = PeaksTakeLeaves_always
