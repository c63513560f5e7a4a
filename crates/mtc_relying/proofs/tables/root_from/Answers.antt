use Rattle.std.proofs.Common.{◌-◌, ◌++◌, [], ◌∷◌, drop, ap, sym, subst, ◌∙◌, arith}
use Rattle.std.specs.Prelude.{count_ones}
use Rattle.std.proofs.lemmas.List.{length-drop}
use Rattle.tree_peaks.specs.Peaks.{ArePeaksOf, PeaksState}
use Rattle.mtc_relying.proofs.PartPeaks.{begins_at, ones_before, part-peaks}
use Rattle.mtc_relying.proofs.tables.root_from.Goals as goal

pub split_at-requires : goal.split_at-requires
split_at-requires g c =
    let ones = ones_before c.args.start c.args.peaks.now.size
    (begins_at c.args.start c.args.peaks.now.size c.requires.subtree) in
    let count = c.as_slice.ensures.count in
    omega arith

pub of-part-requires : goal.of-part-requires
of-part-requires g c =
    let ones = ones_before c.args.start c.args.peaks.now.size
    (begins_at c.args.start c.args.peaks.now.size c.requires.subtree) in
    let count = c.as_slice.ensures.count in
    let left = c.split_at.ensures.back_len in
    let same = ap (λ n. count_ones (n - c.args.start)) c.size.ensures in
    omega arith

pub returns : goal.returns
returns g c = λ leaves are.
    let h = g.H.TreeHash.hash in
    let start = c.args.start in
    let p : PeaksState = c.args.peaks.now in
    let part = part-peaks h start p leaves (begins_at start p.size c.requires.subtree) are in
    let same = c.of-part.ensures
    ∙ ap (λ n. record { size = n - start; peaks = c.split_at.result.1.now }) c.size.ensures
    ∙ ap (λ ps. record { size = p.size - start; peaks = ps })
    (c.split_at.ensures.back ∙ ap (drop (count_ones start)) c.as_slice.ensures.value) in
    c.root.ensures.of (drop start leaves ++ c.args.leaf.now ∷ [])
    (c.push.ensures.of (drop start leaves)
    (subst (ArePeaksOf h (drop start leaves)) (sym same) part))
