use Rattle.std.proofs.Common.{Err, subst, sym, ap, ◌∙◌}
use Rattle.byte_formats.specs.Types.{Text}
use Rattle.mtc_proof.specs.Proofs.{signature_text}
use Rattle.cosigner_core.specs.Words.{cosigner_owner}
use Rattle.mirror_cosigner.specs.Refusals.{MirrorStepKeepsTo, cosign_refusal_at}
use Rattle.mirror_cosigner.specs.declared.error.MirrorStepError.{MirrorStepError}
use Rattle.mirror_core.specs.Words.{mirror_view}
use Rattle.mtc_command.specs.Answers.{Ending}
use Rattle.mtc_mirror_steps.specs.StepOutcomes.{mirror_cosign_says}
use Rattle.mtc_mirror_steps.specs.StepWorks.{HasTakenStep}
use Rattle.mtc_mirror_steps.proofs.StepEnds.{cosign_made, cosign_not_made, mirror_cosign_sound}
use Rattle.mtc_mirror_steps.proofs.steps.cosign_on.Goals as goal

pub refuse_mirror_step-requires : goal.refuse_mirror_step-requires
refuse_mirror_step-requires g c = λ broken.
    let h = g.H.TreeHash.hash in
    let old = cosigner_owner c.args.cosigner.now in
    let some = c.in-Err.ensures.some in
    let size = (mirror_view c.args.mirror.now).size in
    mirror_cosign_sound h size some.own old.state old.broken old.end some.request c.requires.sound
    (subst (λ (why : MirrorStepError). MirrorStepKeepsTo {X = Unit {0}}
    (cosign_refusal_at h size some.own old.state old.broken old.end some.request) (Err why)) broken
    some.cosigns.answer)

pub returns-in-Ok : goal.returns-in-Ok
returns-in-Ok g c =
    let name = c.args.cosigner_name.now in
    let second = c.args.mirror_name.now in
    let old = cosigner_owner c.args.cosigner.now in
    let new = cosigner_owner c.cosign.new.cosigner in
    cosign_made name second old new c.requires c.args.mirror.now c.cosign.new.mirror c.args.start
    c.args.end c.cosign.new.out _
    (c.fill.ensures
    ∙ ap (λ (id : Text). signature_text (record {
      cosigner = id;
      signature = c.as_slice.result.now;
    })) (c.as_bytes.ensures.value ∙ c.id.ensures)
    ∙ ap (λ (t : Text). signature_text (record { cosigner = new.state.id; signature = t }))
    c.as_slice.ensures.value)
    c.in-Ok.ensures.known c.in-Ok.ensures.asks

pub returns-in-Err : goal.returns-in-Err
returns-in-Err g c =
    let h = g.H.TreeHash.hash in
    let name = c.args.cosigner_name.now in
    let second = c.args.mirror_name.now in
    let old = cosigner_owner c.args.cosigner.now in
    let new = cosigner_owner c.cosign.new.cosigner in
    subst (λ (e : Ending). HasTakenStep name second
    (mirror_cosign_says h c.args.start c.args.end) old new.disk c.args.mirror.now
    c.cosign.new.mirror e) (sym c.refuse_mirror_step.ensures)
    (cosign_not_made name second old new c.requires c.args.mirror.now c.cosign.new.mirror
    c.args.start c.args.end c.cosign.new.out c.in-Err.why _ c.in-Err.ensures.known
    c.in-Err.ensures.some.cosigns.appends c.in-Err.ensures.asks c.in-Err.ensures.cause)
