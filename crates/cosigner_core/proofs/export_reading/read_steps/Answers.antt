use Rattle.std.proofs.Common.{◌≡◌, ◌+◌, ◌<◌, length, List, Ok, arith, ap, sym, ◌∙◌}
use Rattle.std.proofs.lemmas.Result.{err_from_is_err_and}
use Rattle.cosigner_core.specs.Views.{step_said}
use Rattle.cosigner_core.specs.declared.step.Step.{Step}
use Rattle.cosigner_core.proofs.ExportLoops.{steps_end, steps_fail, steps_from, steps_more}
use Rattle.cosigner_core.proofs.export_reading.read_steps.Goals as goal

pub loop-cursor-init : goal.loop-cursor-init
loop-cursor-init g c =
    steps_from g.H.TreeHash.hash c.args.terms c.args.cursor c.new-steps.result.items
    c.empty-progress.result c.new-steps.ensures.items c.empty-progress.ensures

pub returns-in_err-step : goal.returns-in_err-step
returns-in_err-step g c =
    let count : c.len.result + 1 ≡ length c.loop-cursor.steps.items + 1 = omega arith in
    let some : 0 < length c.loop-cursor.cursor.rest = omega arith in
    let p = err_from_is_err_and c.from_residual.result c.from_residual.ensures.1 in
    rw (p.1, p.2) (λ other. steps_fail g.H.TreeHash.hash c.args.terms _ c.loop-cursor.steps.items
    c.loop-cursor.progress c.loop-cursor.cursor (c.len.result + 1) _ count
    c.in_err-step.ensures.exact some c.loop-cursor.invariant)

pub loop-cursor-preserved : goal.loop-cursor-preserved
loop-cursor-preserved g c =
    let count : c.len.result + 1 ≡ length c.loop-cursor.steps.items + 1 = omega arith in
    steps_more g.H.TreeHash.hash c.args.terms _ c.loop-cursor.steps.items c.push.new.steps.items
    c.loop-cursor.progress c.in_ok-step.following c.loop-cursor.cursor (c.len.result + 1)
    (step_said c.in_ok-step.step) c.read_record.new.cursor count c.in_ok-step.ensures.exact
    c.in_ok-step.ensures.forward (c.in_ok-push.ensures {u = tt}) c.in_ok-step.ensures.following
    c.loop-cursor.invariant

pub returns : goal.returns
returns g c =
    steps_end g.H.TreeHash.hash c.args.terms _ c.loop-cursor.steps.items c.loop-cursor.progress
    c.loop-cursor.cursor (omega arith) c.loop-cursor.invariant
    ∙ ap (λ (l : List Step). Ok l) (sym c.from_vec.ensures)
