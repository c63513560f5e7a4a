use Rattle.std.proofs.Common.{rules, subst, sym, ap, ◌∙◌}
use Rattle.byte_formats.specs.Types.{Text}
use Rattle.mtc_proof.specs.Proofs.{signature_text}
use Rattle.cosigner_core.specs.Folds.{CosignerState, having_signed}
use Rattle.cosigner_core.specs.Records.{sign_record}
use Rattle.cosigner_core.specs.Refusals.{cosign_refused}
use Rattle.cosigner_core.specs.Views.{subtree_parts}
use Rattle.cosigner_core.specs.Words.{cosigner_owner}
use Rattle.mtc_command.specs.Answers.{Ending, replied, said}
use Rattle.mtc_command.specs.declared.answer.Said.TheVariants.{Done}
use Rattle.mtc_cosigner.specs.CosignerOutcomes.{cosign_says, cosigned_text}
use Rattle.mtc_cosigner.specs.Works.{HasWorkedOnCosigner}
use Rattle.mtc_cosigner.proofs.Asked.{cosign_sound}
use Rattle.mtc_cosigner.proofs.Stepped.{step_made, step_refused, step_valid}
use Rattle.mtc_cosigner.proofs.requests.cosign_on.Goals as goal

pub refuse_step-requires : goal.refuse_step-requires
refuse_step-requires g c = λ broken.
    let h = g.H.TreeHash.hash in
    let old = cosigner_owner c.args.cosigner.now in
    cosign_sound h old.state old.broken old.end
    (subtree_parts c.args.request.now) c.requires.sound (search rules)

pub returns-in-Ok-clause-works : goal.returns-in-Ok-clause-works
returns-in-Ok-clause-works g c =
    let h = g.H.TreeHash.hash in
    let name = c.args.journal.now in
    let old = cosigner_owner c.args.cosigner.now in
    let new = cosigner_owner c.cosign.new.self in
    let r = subtree_parts c.args.request.now in
    subst (λ (t : Text). HasWorkedOnCosigner g.D.Disk name (cosign_says h r) old new.disk
    (replied (said Done t)))
    (sym (c.fill.ensures
    ∙ ap (λ (id : Text). signature_text (record {
      cosigner = id;
      signature = c.as_slice.result.now;
    })) (c.as_bytes.ensures.value ∙ c.id.ensures
    ∙ ap (λ (s : CosignerState). s.id) c.in-Ok.ensures.appends.leaves.state)
    ∙ ap (λ (t : Text). signature_text (record { cosigner = old.state.id; signature = t }))
    (c.as_slice.ensures.value ∙ c.in-Ok.ensures.signature)))
    (step_made g.D.Disk name old new c.requires
    (sign_record old.state.key.next r.start r.end r.hash r.proof)
    (cosigned_text old.state r) (having_signed old.state)
    (λ broken end. cosign_refused h old.state broken end r) c.in-Ok.ensures.answer
    c.in-Ok.ensures.appends)

pub returns-in-Err-clause-works : goal.returns-in-Err-clause-works
returns-in-Err-clause-works g c =
    let h = g.H.TreeHash.hash in
    let name = c.args.journal.now in
    let old = cosigner_owner c.args.cosigner.now in
    let new = cosigner_owner c.cosign.new.self in
    let r = subtree_parts c.args.request.now in
    subst (λ (e : Ending). HasWorkedOnCosigner g.D.Disk name (cosign_says h r) old new.disk e)
    (sym c.refuse_step.ensures)
    (step_refused g.D.Disk name old new c.requires
    (sign_record old.state.key.next r.start r.end r.hash r.proof)
    (cosigned_text old.state r) (having_signed old.state)
    (λ broken end. cosign_refused h old.state broken end r) c.in-Err.why
    c.in-Err.ensures.appends c.in-Err.ensures.answer)

pub returns-in-Ok-clause-valid : goal.returns-in-Ok-clause-valid
returns-in-Ok-clause-valid g c =
    let h = g.H.TreeHash.hash in
    let name = c.args.journal.now in
    let old = cosigner_owner c.args.cosigner.now in
    let r = subtree_parts c.args.request.now in
    step_valid g.D.Disk name old (cosigner_owner c.cosign.new.self) c.requires
    (sign_record old.state.key.next r.start r.end r.hash r.proof)
    (cosigned_text old.state r) (having_signed old.state)
    (λ broken end. cosign_refused h old.state broken end r) h
    c.in-Ok.ensures.valid

pub returns-in-Err-clause-valid : goal.returns-in-Err-clause-valid
returns-in-Err-clause-valid g c =
    let h = g.H.TreeHash.hash in
    let name = c.args.journal.now in
    let old = cosigner_owner c.args.cosigner.now in
    let r = subtree_parts c.args.request.now in
    step_valid g.D.Disk name old (cosigner_owner c.cosign.new.self) c.requires
    (sign_record old.state.key.next r.start r.end r.hash r.proof)
    (cosigned_text old.state r) (having_signed old.state)
    (λ broken end. cosign_refused h old.state broken end r) h
    c.in-Err.ensures.valid
