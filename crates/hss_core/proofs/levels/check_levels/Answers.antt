use Rattle.std.proofs.Common.{◌≡◌, ◌∙◌, suc, ◌+◌, ◌-◌, take, Ok, Err, refl, sym, arith}
use Rattle.std.proofs.lemmas.List.{drop-drop}
use Rattle.byte_formats.specs.Refusals.{answer_of}
use Rattle.lms_core.specs.Refusals.{check_refusal}
use Rattle.hss_core.specs.Hss.{after_next_key, next_public_key}
use Rattle.hss_core.proofs.Parts.{answer_of-err, answer_of-ok, levels_refusal-passed}
use Rattle.hss_core.proofs.Parts.{levels_refusal-refused, parts_fit-more}
use Rattle.hss_core.proofs.levels.check_levels.Goals as goal

pub split_at-requires-in-loop-done : goal.split_at-requires-in-loop-done
split_at-requires-in-loop-done c =
    let more : c.args.count - c.loop-done.done ≡ suc (c.args.count - (c.loop-done.done + 1)) =
    omega arith in
    let fit = parts_fit-more _ _ c.in-Some.length c.loop-done.rest.now more
    (sym c.in-Some.ensures.value) c.loop-done.invariant.1 in
    omega (arith, fit.0, c.split_at.ensures.back_len)

pub returns-in-Err : goal.returns-in-Err
returns-in-Err c =
    let rest = c.loop-done.rest.now in
    let size = c.in-Some.length in
    let more : c.args.count - c.loop-done.done ≡ suc (c.args.count - (c.loop-done.done + 1)) =
    omega arith in
    let reported : answer_of
    (check_refusal c.loop-done.key.now (next_public_key size rest) (take size rest))
    ≡ Err c.in-Err.refusal =
    rw (
      ← c.split_at.ensures.front,
      ← c.split_at.ensures.back,
      ← c.split_at-in-loop-done.ensures.front,
      ← c.check.ensures,
    )
    c.in-Err.is in
    let refused = levels_refusal-refused _ _ size c.loop-done.key.now c.args.message.now rest _ more
    (sym c.in-Some.ensures.value) (answer_of-err _ _ reported) in
    rw (c.loop-done.invariant.2, refused) refl

pub loop-done-preserved : goal.loop-done-preserved
loop-done-preserved c =
    let rest = c.loop-done.rest.now in
    let size = c.in-Some.length in
    let found = sym c.in-Some.ensures.value in
    let more : c.args.count - c.loop-done.done ≡ suc (c.args.count - (c.loop-done.done + 1)) =
    omega arith in
    let fit = parts_fit-more _ _ size rest more found c.loop-done.invariant.1 in
    let next : c.split_at-in-loop-done.result.0.now ≡ next_public_key size rest =
    rw (c.split_at-in-loop-done.ensures.front, c.split_at.ensures.back) refl in
    let following : c.split_at-in-loop-done.result.1.now ≡ after_next_key size rest =
    rw (c.split_at-in-loop-done.ensures.back, c.split_at.ensures.back) (drop-drop 56 size rest) in
    let reported : answer_of
    (check_refusal c.loop-done.key.now (next_public_key size rest) (take size rest))
    ≡ Ok tt =
    rw (
      ← c.split_at.ensures.front,
      ← c.split_at.ensures.back,
      ← c.split_at-in-loop-done.ensures.front,
      ← c.check.ensures,
    )
    c.in-Ok.is in
    let passed = levels_refusal-passed _ _ size c.loop-done.key.now c.args.message.now rest more
    found (answer_of-ok _ reported) in (
      omega (arith, c.split_at-in-loop-done.ensures.front_len),
      rw following fit.1,
      rw (next, following) (c.loop-done.invariant.2 ∙ passed),
    )
