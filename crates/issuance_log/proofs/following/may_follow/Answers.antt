use Rattle.std.proofs.Common.{◌≡◌, ◌++◌, [], ◌∷◌, Bool, IfOk, ap, subst, sym, ◌∙◌, arith}
use Rattle.mtc_io.specs.declared.fault.Memory.{Memory}
use Rattle.journal_core.specs.Folds.{taken_from}
use Rattle.issuance_log.specs.Folds.{new_log, next_view, view_in}
use Rattle.issuance_log.proofs.After.{follows_on, follows_not}
use Rattle.issuance_log.proofs.Views.{last_tried, view_fold, views_taken, was_not, was_taken}
use Rattle.issuance_log.proofs.following.may_follow.Goals as goal

pub loop-earlier-preserved : goal.loop-earlier-preserved
loop-earlier-preserved g c =
    let h = g.H.TreeHash.hash in
    let next = next_view h c.loop-earlier.numbers.view in
    let bodies = c.args.bodies.now in
    follows_on (view_fold h) (taken_from (view_fold h) 1 (view_in (new_log c.args.settings.now))
    (bodies ++ c.args.body.now ∷ [])) _ _
    c.loop-earlier.numbers.view c.try_take.new.numbers.view bodies c.loop-earlier.earlier-index
    c.earlier-item.result c.args.body.now (omega arith) c.loop-earlier-test.true c.earlier-item.is
    c.loop-earlier.invariant (ap next (sym c.as_slice.ensures)
    ∙ was_taken (next c.as_slice.result.now) c.try_take.new.numbers.view Memory
    c.in_ok-try_take.field-0 c.in_ok-try_take.ensures c.if-not-branch.false)

pub returns-then-not-branch : goal.returns-then-not-branch
returns-then-not-branch g c =
    let h = g.H.TreeHash.hash in
    let next = next_view h c.loop-earlier.numbers.view in
    let bodies = c.args.bodies.now in
    follows_not (view_fold h) (taken_from (view_fold h) 1 (view_in (new_log c.args.settings.now))
    (bodies ++ c.args.body.now ∷ [])) _
    c.loop-earlier.numbers.view bodies c.loop-earlier.earlier-index c.earlier-item.result
    c.args.body.now c.loop-earlier-test.true c.earlier-item.is c.loop-earlier.invariant
    (ap next (sym c.as_slice.ensures) ∙ was_not (next c.as_slice.result.now)
    c.try_take.new.numbers.view Memory c.in_ok-try_take.field-0 c.in_ok-try_take.ensures
    c.if-not-branch.true)
    ∙ views_taken h 1 (new_log c.args.settings.now) (bodies ++ c.args.body.now ∷ [])

pub returns : goal.returns
returns g c =
    let h = g.H.TreeHash.hash in
    let bodies = c.args.bodies.now in
    let all = bodies ++ c.args.body.now ∷ [] in
    subst (λ (b : Bool). IfOk c.try_take-2.result (λ may. may ≡ b))
    (views_taken h 1 (new_log c.args.settings.now) all)
    (last_tried h (taken_from (view_fold h) 1 (view_in (new_log c.args.settings.now)) all) _
    c.loop-earlier.numbers.view c.try_take-2.new.numbers.view bodies
    c.loop-earlier.earlier-index c.args.body.now c.try_take-2.result c.loop-earlier-test.false
    c.loop-earlier.invariant c.try_take-2.ensures)
