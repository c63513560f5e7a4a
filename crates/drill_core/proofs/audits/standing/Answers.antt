use Rattle.std.proofs.Common.{◌≡◌, ◌∙◌, Ok, length, sym, subst, ap}
use Rattle.std.specs.Prelude.{◌↔◌, pos}
use Rattle.std.proofs.lemmas.Result.{IfOk-weaker}
use Rattle.byte_formats.specs.Types.{Text}
use Rattle.byte_formats.proofs.Steps.{ok_is}
use Rattle.cert_fields.specs.Certificate.{parts_of}
use Rattle.cert_fields.specs.Views.{parts}
use Rattle.policy_core.specs.Judgement.{judgement}
use Rattle.entry_list.specs.Items.{ItemLists}
use Rattle.entry_list.specs.Reading.{items_in}
use Rattle.drill_core.specs.Audits.{AllByExport}
use Rattle.drill_core.proofs.audits.standing.Goals as goal

pub returns-clause-all : goal.returns-clause-all
returns-clause-all g c = IfOk-weaker c.count_standing.result _ _ (λ count is. λ items listed.
    let h = g.H.TreeHash.hash in
    let a = c.args in
    let cert : Text = a.cert.now in
    let j = c.in_ok-judged.ensures in
    let judged : judgement h cert a.store.now (pos 1767225600) ≡ Ok c.in_ok-judged.judged.accepted =
    ap (λ (t : Text). judgement h t a.store.now (pos 1767225600)) (sym c.as_slice.ensures)
    ∙ j.accepted in
    let read : parts_of cert ≡ Ok (parts c.in_ok-judged.judged.cert) =
    ap parts_of (sym c.as_slice.ensures) ∙ j.read in
    let there : items_in h c.as_slice-2.result.now ≡ Ok items =
    ap (items_in h) c.as_slice-2.ensures ∙ listed in
    let same : items ≡ c.in-Ok.items = ok_is _ items c.in-Ok.items (sym there ∙ c.in-Ok.ensures) in
    subst (λ (x : ItemLists). AllByExport h a.store.now cert x a.exports.now
    ↔ (count ≡ length a.exports.now)) (sym same) (is cert judged read)) c.count_standing.ensures.all
