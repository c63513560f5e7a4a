use Rattle.std.proofs.Common.{◌≡◌, ◌+◌, ◌-◌, ◌∷◌, ◌++◌, [], suc, ap, arith, sym, ◌∙◌}
use Rattle.std.proofs.lemmas.Result.{err_from_is_err_and}
use Rattle.landmarks.specs.Texts.{size_lines}
use Rattle.landmarks.proofs.Walks.{walk_ends, walk_fails, walk_more, with_more}
use Rattle.landmarks.proofs.reading.read_sizes.Goals as goal

pub returns-in_err-size-clause-err : goal.returns-in_err-size-clause-err
returns-in_err-size-clause-err c =
    let place = c.loop-place.place in
    let p = err_from_is_err_and c.from_residual.result c.from_residual.ensures.1 in
    rw (p.1, p.2) (λ other. sym c.loop-place.invariant ∙ walk_fails
    (c.args.head.active + 1 - (place + 1)) (c.args.head.active + 1 - place) (place + 1)
    (c.args.head.last - place) c.loop-place.before c.loop-place.rest.now c.loop-place.sizes.items _
    (omega arith) c.in_err-size.ensures)

pub loop-place-preserved : goal.loop-place-preserved
loop-place-preserved c =
    let place = c.loop-place.place in
    let left = c.args.head.active + 1 - (place + 1) in
    let number : c.args.head.last - (place + 1) ≡ c.args.head.last - place - 1 = omega arith in
    let more : c.args.head.active + 1 - place ≡ suc left = omega arith in
    ap (λ xs. with_more xs (size_lines left (place + 1 + 1) (c.args.head.last - (place + 1))
    c.in_ok-size.size c.in_ok-size.following.now)) c.in_ok-push.ensures
    ∙ ap (λ n. with_more (c.loop-place.sizes.items ++ c.in_ok-size.size ∷ [])
    (size_lines left (place + 1 + 1) n c.in_ok-size.size
    c.in_ok-size.following.now)) number
    ∙ sym (walk_more left (c.args.head.active + 1 - place) (place + 1)
    (c.args.head.last - place) c.loop-place.before c.loop-place.rest.now c.in_ok-size.size
    c.in_ok-size.following.now c.loop-place.sizes.items more c.in_ok-size.ensures)
    ∙ c.loop-place.invariant

pub returns-clause-ok : goal.returns-clause-ok
returns-clause-ok c =
    let place = c.loop-place.place in
    sym c.loop-place.invariant ∙ walk_ends (c.args.head.active + 1 - place) (place + 1)
    (c.args.head.last - place) c.loop-place.before c.loop-place.rest.now c.loop-place.sizes.items
    (omega arith)
