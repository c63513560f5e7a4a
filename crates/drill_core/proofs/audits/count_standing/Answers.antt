use Rattle.std.proofs.Common.{◌≡◌, ◌+◌, ◌++◌, [], ◌∷◌, ℕ, List, length, take, subst, sym, arith}
use Rattle.std.proofs.lemmas.List.{take_all}
use Rattle.std.specs.Prelude.{◌↔◌}
use Rattle.byte_formats.specs.Types.{Text}
use Rattle.drill_parties.proofs.Pairs.{prefix_more}
use Rattle.drill_core.specs.Audits.{AllByExport, StandsByExport}
use Rattle.drill_core.proofs.Turns.{counted_more}
use Rattle.drill_core.proofs.audits.count_standing.Goals as goal

pub loop-export-preserved : goal.loop-export-preserved
loop-export-preserved g c =
    let h = g.H.TreeHash.hash in
    let store = c.args.store.now in
    let exports : List Text = c.args.exports.now in
    let i = c.loop-export.export-index in
    let x : Text = c.export-item.result in
    let before = c.loop-export.invariant in
    let few = before.few in
    let one = c.in_ok-one.ensures.few in
    let more = prefix_more exports i x c.loop-export-test.true (sym c.export-item.is) in
    record {
      few = omega (arith, few, one);
      all = λ cert judged read. subst (λ (list : List Text).
          AllByExport h store cert c.args.items.now list
          ↔ (c.loop-export.count + c.in_ok-one.one ≡ i + 1)) (sym more)
          (counted_more (StandsByExport h store cert c.args.items.now) (take i exports) x
          c.loop-export.count c.in_ok-one.one i few one (before.all cert judged read)
          (c.in_ok-one.ensures.stands cert judged read));
    }
