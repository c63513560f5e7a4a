use Rattle.tree_peaks.proofs.Always.{ArePeaks_always}
use Rattle.tree_peaks.proofs.Tops.{root-peaks}
use Rattle.tree_peaks.proofs.laws.law_peaks_give_the_root.Goals as goal

pub returns-clause-peaks : goal.returns-clause-peaks
returns-clause-peaks c = ArePeaks_always

pub returns-clause-root : goal.returns-clause-root
returns-clause-root c = root-peaks
