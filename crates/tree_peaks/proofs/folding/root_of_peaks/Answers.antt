use Rattle.std.proofs.Common.{◌≡◌, ◌<◌, [], length, sym, ◌∙◌, ap, arith}
use Rattle.std.proofs.lemmas.Bool.Decides.{nat_tests}
use Rattle.tree_peaks.proofs.Folds.{folds-last, folds-more}
use Rattle.tree_peaks.proofs.Tops.{none_left, root_of_peaks-none}
use Rattle.tree_peaks.specs.Peaks.{root_of_peaks}
use Rattle.tree_peaks.proofs.folding.root_of_peaks.Goals as goal

pub returns-then-is_empty : goal.returns-then-is_empty
returns-then-is_empty g c =
    let h = g.H.TreeHash.hash in
    let none : length c.args.peaks.now ≡ 0 = grind (arith, nat_tests, c.if-is_empty.ensures) in
    c.end.ensures [] c.begin.ensures
    ∙ sym (root_of_peaks-none h)
    ∙ ap (root_of_peaks h) (sym (none_left c.args.peaks.now none))

pub loop-index-init : goal.loop-index-init
loop-index-init g c =
    let some : 0 < length c.args.peaks.now = grind (arith, nat_tests, c.if-is_empty.ensures) in
    folds-last g.H.TreeHash.hash c.args.peaks.now [] some

pub loop-index-preserved : goal.loop-index-preserved
loop-index-preserved g c =
    folds-more g.H.TreeHash.hash c.args.peaks.now c.loop-index.index c.loop-index.root [] _
    c.loop-index.invariant c.loop-index-test.true c.pair-root.ensures
