use Rattle.std.proofs.Common.{List, length, sym, ap, subst, arith}
use Rattle.std.proofs.lemmas.Result.{IfOk-weaker}
use Rattle.byte_formats.specs.Types.{Text}
use Rattle.drill_parties.specs.CosignerViews.{IsExportOf}
use Rattle.drill_parties.proofs.Pairs.{paired_length}
use Rattle.drill_core.specs.Audits.{AllByExport}
use Rattle.drill_core.specs.Listed.{log_items}
use Rattle.drill_core.specs.LogParties.{log_shown}
use Rattle.drill_core.proofs.Turns.{by_exports, with_exports}
use Rattle.drill_core.proofs.audits.audited.Goals as goal

pub returns-clause-still : goal.returns-clause-still
returns-clause-still g c =
    IfOk-weaker c.standing.result _ _ (λ _ _. c.in_ok-exports.ensures.same) c.standing.ensures.few

pub returns-clause-few : goal.returns-clause-few
returns-clause-few g c =
    let same = ap length c.as_slice.ensures.value in
    let long = paired_length (IsExportOf g.H.TreeHash.hash) c.args.cosigners.now.parties.items
    c.in_ok-exports.exports.items c.in_ok-exports.ensures.read in
    IfOk-weaker c.standing.result _ _ (λ _ few. omega (arith, few, same, long))
    c.standing.ensures.few

pub returns-clause-count : goal.returns-clause-count
returns-clause-count g c =
    let h = g.H.TreeHash.hash in
    let a = c.args in
    let log = log_shown a.log.now in
    let parties = a.cosigners.now.parties.items in
    let files : List Text = c.in_ok-exports.exports.items in
    let read = c.in_ok-exports.ensures.read in
    let same = ap length c.as_slice.ensures.value in
    let long = paired_length (IsExportOf h) parties files read in
    IfOk-weaker c.standing.result _ _ (λ _ is. let both = is (log_items log)
    c.in_ok-listed.ensures.read in (
      λ all.
          let count = both.0 (subst (λ (list : List Text). AllByExport h a.store.now a.cert.now
          (log_items log) list) (sym c.as_slice.ensures.value)
          (by_exports a.store.now a.cert.now log parties files read all)) in
          omega (arith, count, same, long),
      λ count.
          with_exports a.store.now a.cert.now log parties files read
          (subst (λ (list : List Text). AllByExport h a.store.now a.cert.now (log_items log) list)
          c.as_slice.ensures.value (both.1 (omega (arith, count, same, long)))),
    )) c.standing.ensures.all
