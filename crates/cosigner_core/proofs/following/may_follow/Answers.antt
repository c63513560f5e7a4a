use Rattle.std.proofs.Common.{◌≡◌, ◌++◌, [], ◌∷◌, ap, sym, ◌∙◌, subst, option_and_then}
use Rattle.byte_formats.specs.Types.{Text}
use Rattle.cosigner_core.specs.Progress.{may_follow_cosigner, progress_after, progress_in}
use Rattle.cosigner_core.specs.Records.{step_in}
use Rattle.cosigner_core.specs.declared.progress.Progress.{Progress}
use Rattle.cosigner_core.specs.declared.terms.KeyTerms.{KeyTerms}
use Rattle.cosigner_core.proofs.After.{begins_with, brought, follows_not, follows_on, last_follows}
use Rattle.cosigner_core.proofs.following.may_follow.Goals as goal

pub loop-earlier-init : goal.loop-earlier-init
loop-earlier-init g c =
    let h = g.H.TreeHash.hash in
    let terms = c.terms-terms.result in
    let list = c.args.bodies.now ++ c.args.body.now ∷ [] in
    subst (λ (p : Progress). brought h terms p list ≡ progress_in h terms list)
    (sym c.empty-progress.ensures) (begins_with h terms list)

pub loop-earlier-preserved : goal.loop-earlier-preserved
loop-earlier-preserved g c =
    let h = g.H.TreeHash.hash in
    let terms = c.terms-terms.result in
    let bodies = c.args.bodies.now in
    follows_on h terms (progress_in h terms (bodies ++ c.args.body.now ∷ []))
    c.loop-earlier.progress c.in-Some.next bodies c.loop-earlier.earlier-index
    c.earlier-item.result c.args.body.now c.loop-earlier-test.true c.earlier-item.is
    c.loop-earlier.invariant (ap (λ (body : Text). option_and_then
    (progress_after h terms c.loop-earlier.progress) (step_in body)) (sym c.as_slice.ensures)
    ∙ sym c.next_progress.ensures ∙ c.in-Some.is)

pub returns-in_default : goal.returns-in_default
returns-in_default g c =
    let h = g.H.TreeHash.hash in
    let terms = c.terms-terms.result in
    let bodies = c.args.bodies.now in
    follows_not h terms (progress_in h terms (bodies ++ c.args.body.now ∷ []))
    c.loop-earlier.progress bodies c.loop-earlier.earlier-index c.earlier-item.result
    c.args.body.now c.loop-earlier-test.true c.earlier-item.is c.loop-earlier.invariant
    (ap (λ (body : Text). option_and_then (progress_after h terms c.loop-earlier.progress)
    (step_in body)) (sym c.as_slice.ensures) ∙ sym c.next_progress.ensures ∙ c.in_default.is)
    ∙ ap (λ (t : KeyTerms). may_follow_cosigner h t (bodies ++ c.args.body.now ∷ []))
    c.terms-terms.ensures

pub returns : goal.returns
returns g c =
    let h = g.H.TreeHash.hash in
    let terms = c.terms-terms.result in
    let bodies = c.args.bodies.now in
    c.is_some.ensures ∙ last_follows h terms (progress_in h terms (bodies ++ c.args.body.now ∷ []))
    c.next_progress-2.result c.loop-earlier.progress bodies c.loop-earlier.earlier-index
    c.args.body.now c.loop-earlier-test.false c.loop-earlier.invariant c.next_progress-2.ensures
    ∙ ap (λ (t : KeyTerms). may_follow_cosigner h t (bodies ++ c.args.body.now ∷ []))
    c.terms-terms.ensures
