use Rattle.std.proofs.Common.{◌++◌, [], ◌∷◌, Err, ap, sym, ◌∙◌, arith}
use Rattle.journal_core.specs.Folds.{taken_from}
use Rattle.issuance_log.proofs.After.{follows_on, follows_not}
use Rattle.mirror_core.specs.Folds.{new_mirror, next_mirror_view, view_in_mirror}
use Rattle.mirror_core.proofs.After.{last_taken, views_taken, was_not}
use Rattle.mirror_core.proofs.Views.{view_fold}
use Rattle.mirror_core.proofs.following.may_follow.Goals as goal

pub loop-earlier-preserved : goal.loop-earlier-preserved
loop-earlier-preserved g c =
    let h = g.H.TreeHash.hash in
    let next = next_mirror_view h c.loop-earlier.numbers in
    let bodies = c.args.bodies.now in
    follows_on (view_fold h) (taken_from (view_fold h) 1 (view_in_mirror (new_mirror c.args.log))
    (bodies ++ c.args.body.now ∷ [])) _ _ c.loop-earlier.numbers c.take_next.new.numbers bodies
    c.loop-earlier.earlier-index c.earlier-item.result c.args.body.now (omega arith)
    c.loop-earlier-test.true c.earlier-item.is c.loop-earlier.invariant
    (ap next (sym c.as_slice.ensures) ∙ c.in-Ok.ensures.taken)

pub returns-in-Err : goal.returns-in-Err
returns-in-Err g c =
    let h = g.H.TreeHash.hash in
    let next = next_mirror_view h c.loop-earlier.numbers in
    let bodies = c.args.bodies.now in
    follows_not (view_fold h) (taken_from (view_fold h) 1 (view_in_mirror (new_mirror c.args.log))
    (bodies ++ c.args.body.now ∷ [])) _ c.loop-earlier.numbers bodies c.loop-earlier.earlier-index
    c.earlier-item.result c.args.body.now c.loop-earlier-test.true c.earlier-item.is
    c.loop-earlier.invariant (ap next (sym c.as_slice.ensures)
    ∙ was_not (next c.as_slice.result.now) c.loop-earlier.numbers c.take_next.new.numbers
    c.in-Err._unfit c.in-Err.ensures.taken (λ same. c.in-Err.ensures.never (ap Err same)))
    ∙ views_taken h 1 (new_mirror c.args.log) (bodies ++ c.args.body.now ∷ [])

pub returns : goal.returns
returns g c =
    let h = g.H.TreeHash.hash in
    let bodies = c.args.bodies.now in
    let all = bodies ++ c.args.body.now ∷ [] in
    c.is_ok.ensures.value
    ∙ last_taken h (taken_from (view_fold h) 1 (view_in_mirror (new_mirror c.args.log)) all) _
    c.loop-earlier.numbers c.take_next-2.new.numbers bodies c.loop-earlier.earlier-index
    c.args.body.now c.take_next-2.result c.loop-earlier-test.false c.loop-earlier.invariant
    c.take_next-2.ensures.taken c.take_next-2.ensures.never
    ∙ views_taken h 1 (new_mirror c.args.log) all
