use Rattle.std.proofs.Common.{Err, subst, sym}
use Rattle.byte_formats.specs.Types.{Text}
use Rattle.cosigner_core.specs.Keyless.{keyless_owner}
use Rattle.mirror_cosigner.specs.Refusals.{MirrorStepKeepsTo, advance_refusal_at}
use Rattle.mirror_cosigner.specs.declared.error.MirrorStepError.{MirrorStepError}
use Rattle.mirror_core.specs.Words.{mirror_view}
use Rattle.mtc_command.specs.Answers.{Ending, replied, said}
use Rattle.mtc_command.specs.declared.answer.Said.TheVariants.{Done}
use Rattle.mtc_mirror_steps.specs.StepOutcomes.{mirror_advance_says}
use Rattle.mtc_mirror_steps.specs.StepWorks.{HasTakenStep}
use Rattle.mtc_mirror_steps.proofs.StepEnds.{advance_made, advance_not_made, mirror_advance_sound}
use Rattle.mtc_mirror_steps.proofs.steps.advance_on.Goals as goal

pub refuse_mirror_step-requires : goal.refuse_mirror_step-requires
refuse_mirror_step-requires g c = λ broken.
    let h = g.H.TreeHash.hash in
    let old = keyless_owner c.args.cosigner.now in
    let some = c.in-Err.ensures.some in
    let size = (mirror_view c.args.mirror.now).size in
    mirror_advance_sound h size some.own old.state old.broken old.end some.request
    c.requires.sound
    (subst (λ (why : MirrorStepError). MirrorStepKeepsTo {X = Unit {0}}
    (advance_refusal_at h size some.own old.state old.broken old.end some.request) (Err why)) broken
    some.advances.answer)

pub returns-in-Ok : goal.returns-in-Ok
returns-in-Ok g c =
    let h = g.H.TreeHash.hash in
    let name = c.args.cosigner_name.now in
    let second = c.args.mirror_name.now in
    let old = keyless_owner c.args.cosigner.now in
    let new = keyless_owner c.advance.new.cosigner in
    subst (λ (t : Text). HasTakenStep name second (mirror_advance_says h c.args.size) old new.disk
    c.args.mirror.now c.advance.new.mirror (replied (said Done t))) (sym c.in_ok-text.ensures)
    (advance_made name second old new c.requires c.args.mirror.now c.advance.new.mirror c.args.size
    c.in-Ok.ensures.known c.in-Ok.ensures.asks)

pub returns-in-Err : goal.returns-in-Err
returns-in-Err g c =
    let h = g.H.TreeHash.hash in
    let name = c.args.cosigner_name.now in
    let second = c.args.mirror_name.now in
    let old = keyless_owner c.args.cosigner.now in
    let new = keyless_owner c.advance.new.cosigner in
    subst (λ (e : Ending). HasTakenStep name second (mirror_advance_says h c.args.size) old new.disk
    c.args.mirror.now c.advance.new.mirror e) (sym c.refuse_mirror_step.ensures)
    (advance_not_made name second old new c.requires c.args.mirror.now c.advance.new.mirror
    c.args.size c.in-Err.why _ _ c.in-Err.ensures.known
    c.in-Err.ensures.some.advances.appends c.in-Err.ensures.asks c.in-Err.ensures.cause)
