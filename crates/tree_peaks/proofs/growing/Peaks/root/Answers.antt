use Rattle.std.proofs.Common.{◌∙◌, ap}
use Rattle.tree_peaks.proofs.Tops.{root-peaks}
use Rattle.tree_peaks.specs.Peaks.{root_of_peaks}
use Rattle.tree_peaks.proofs.growing.Peaks.root.Goals as goal

pub returns-clause-of : goal.returns-clause-of
returns-clause-of g c = λ leaves are.
    c.root_of_peaks.ensures
    ∙ ap (root_of_peaks g.H.TreeHash.hash) (c.as_slice.ensures.value ∙ are.peaks)
    ∙ root-peaks g.H.TreeHash.hash leaves
