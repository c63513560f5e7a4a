use Rattle.std.proofs.Common.{◌≡◌, ◌∙◌, ◌+◌, ◌<◌, ◌++◌, [], ◌∷◌, ℕ, List, length, take, arith, ap}
use Rattle.std.proofs.Common.{subst, sym}
use Rattle.std.specs.List.{remove}
use Rattle.byte_formats.specs.Types.{Text}
use Rattle.drill_parties.specs.Cosigners.{Paired}
use Rattle.drill_parties.specs.CosignerViews.{IsExportOf, IsStill}
use Rattle.drill_parties.proofs.Going.{next_gone, next_is}
use Rattle.drill_parties.proofs.Pairs.{prefix_more, paired_push}
use Rattle.drill_parties.proofs.cosigners.Cosigners.exports.Goals as goal

pub loop-contents-preserved : goal.loop-contents-preserved
loop-contents-preserved g c =
    let h = g.H.TreeHash.hash in
    let old = c.args.self.now.parties.items in
    let i = c.loop-contents._contents in
    let before = c.loop-contents.invariant in
    let now = c.loop-contents.self.parties.items in
    let x = c.remove-party.result in
    let y = c.export.new.self in
    let len = c.args.self.now.parties.ok.0 in
    let below : i < length old =
    omega (arith, c.loop-contents-test.true, c.len-count.ensures, len) in
    let next : c.push-in-loop-contents.new.self.items ≡ remove now 0 ++ y ∷ [] =
    c.in_ok-push-2.ensures.items ∙ ap (λ xs. xs ++ y ∷ []) c.remove-party.ensures.items in
    let more = prefix_more old i x below (next_is IsStill i old now x before.gone below
    c.remove-party.ensures.value) in
    record {
      gone =
          next_gone IsStill i old now c.push-in-loop-contents.new.self.items x y before.gone below
          c.remove-party.ensures.value next c.in_ok-text.ensures.same;
      read = subst (λ (ys : List Text). Paired (IsExportOf h) (take (i + 1) old) ys)
          (sym c.in_ok-push.ensures.items)
          (subst (λ xs. Paired (IsExportOf h) xs
          (c.loop-contents.texts.items ++ c.in_ok-text.text ∷ []))
          (sym more) (paired_push (IsExportOf h) (take i old) c.loop-contents.texts.items x
          c.in_ok-text.text before.read c.in_ok-text.ensures.read));
    }
