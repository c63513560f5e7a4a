use Rattle.std.proofs.Common.{◌≡◌, ◌+◌, ◌++◌, ap, sym, subst, ◌∙◌, arith}
use Rattle.entry_list.specs.Items.{ItemLists}
use Rattle.tree_peaks.specs.Peaks.{with_leaf}
use Rattle.monitor_core.proofs.Watched.{watched-more, watched-over, watched-size}
use Rattle.monitor_core.specs.Report.{lines_of}
use Rattle.monitor_core.specs.Watched.{GrowthParts, HasWatched, run_with}
use Rattle.monitor_core.proofs.growth.Growth.take_entry.Goals as goal

pub push-requires : goal.push-requires
push-requires g c =
    let h = g.H.TreeHash.hash in
    let items : ItemLists = c.requires.items in
    let a = c.args in
    let are = subst (λ (p : GrowthParts). HasWatched h (run_with a.state.now a.watch.now p)
    items.entries) (sym c.self.view_is) c.requires.are in
    let count = are.count in
    let first = c.size-first.ensures in
    let size = watched-size h _ items.entries are
    (omega (arith, c.if-count-first.false, first, count)) in
    omega (arith, size, c.if-count-first.false, first, count)

pub returns-then-count-first : goal.returns-then-count-first
returns-then-count-first g c = λ entries are.
    let h = g.H.TreeHash.hash in
    let s = c.self.inside in
    let a = c.args in
    let first = c.size-first.ensures in
    watched-over h a.state.now a.watch.now s.count s.lines.items s.peaks entries a.entry.now
    (subst (λ (p : GrowthParts). HasWatched h (run_with a.state.now a.watch.now p) entries)
    (sym c.self.view_is) are)
    (omega (arith, c.if-count-first.true, first))

pub returns : goal.returns
returns g c = λ entries are.
    let h = g.H.TreeHash.hash in
    let s = c.self.inside in
    let a = c.args in
    let e = a.entry.now in
    watched-more h a.state.now a.watch.now s.count s.lines.items s.peaks entries e
    (subst (λ (p : GrowthParts). HasWatched h (run_with a.state.now a.watch.now p) entries)
    (sym c.self.view_is) are) _ _
    (c.in_ok-put_entry.ensures
    ∙ ap (λ w. s.lines.items ++ lines_of w (c.size-first.result + s.count) e) c.domains.ensures
    ∙ ap (λ n. s.lines.items ++ lines_of a.watch.now (n + s.count) e) c.size-first.ensures)
    (c.push.ensures.exact ∙ ap (with_leaf h s.peaks) c.leaf.ensures)
