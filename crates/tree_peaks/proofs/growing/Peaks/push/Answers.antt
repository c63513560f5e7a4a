use Rattle.std.proofs.Common.{[], ◌∷◌, ◌++◌, sym, subst}
use Rattle.tree_peaks.proofs.Pushing.{takes-leaf}
use Rattle.tree_peaks.specs.Peaks.{ArePeaksOf, PeaksState}
use Rattle.tree_peaks.proofs.growing.Peaks.push.Goals as goal

pub returns-clause-of : goal.returns-clause-of
returns-clause-of g c = λ leaves are.
    let h = g.H.TreeHash.hash in
    let P : PeaksState → Type 0 = λ state. ArePeaksOf h (leaves ++ c.args.leaf.now ∷ []) state in
    subst P (sym c.take_leaf.ensures) (takes-leaf h leaves c.args.self.now c.args.leaf.now are)
