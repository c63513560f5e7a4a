use Rattle.std.proofs.Common.{rules, subst, sym}
use Rattle.byte_formats.specs.Types.{Text}
use Rattle.cosigner_core.specs.Folds.{holding}
use Rattle.cosigner_core.specs.Records.{advance_record}
use Rattle.cosigner_core.specs.Refusals.{advance_refused}
use Rattle.cosigner_core.specs.Views.{advance_parts}
use Rattle.cosigner_core.specs.Keyless.{keyless_owner}
use Rattle.mtc_command.specs.Answers.{Ending, replied, said}
use Rattle.mtc_command.specs.declared.answer.Said.TheVariants.{Done}
use Rattle.mtc_cosigner.specs.CosignerOutcomes.{advance_says, advanced_text}
use Rattle.mtc_cosigner.specs.Works.{HasWorkedOnCosigner}
use Rattle.mtc_cosigner.proofs.Asked.{advance_sound}
use Rattle.mtc_cosigner.proofs.Stepped.{step_made, step_refused, step_valid}
use Rattle.mtc_cosigner.proofs.requests.advance_on.Goals as goal

pub refuse_step-requires : goal.refuse_step-requires
refuse_step-requires g c = λ broken.
    let h = g.H.TreeHash.hash in
    let old = keyless_owner c.args.cosigner.now in
    advance_sound h old.state old.broken old.end
    (advance_parts c.args.request.now) c.requires.sound (search rules)

pub returns-in-Ok-clause-works : goal.returns-in-Ok-clause-works
returns-in-Ok-clause-works g c =
    let h = g.H.TreeHash.hash in
    let name = c.args.journal.now in
    let old = keyless_owner c.args.cosigner.now in
    let new = keyless_owner c.advance.new.self in
    let r = advance_parts c.args.request.now in
    subst (λ (t : Text). HasWorkedOnCosigner g.D.Disk name (advance_says h r) old new.disk
    (replied (said Done t))) (sym c.in_ok-text.ensures)
    (step_made g.D.Disk name old new c.requires (advance_record r.size r.root r.proof)
    (advanced_text r.size) (holding r.size r.root old.state)
    (λ broken end. advance_refused h old.state broken end r) c.in-Ok.ensures.answer
    c.in-Ok.ensures.appends)

pub returns-in-Err-clause-works : goal.returns-in-Err-clause-works
returns-in-Err-clause-works g c =
    let h = g.H.TreeHash.hash in
    let name = c.args.journal.now in
    let old = keyless_owner c.args.cosigner.now in
    let new = keyless_owner c.advance.new.self in
    let r = advance_parts c.args.request.now in
    subst (λ (e : Ending). HasWorkedOnCosigner g.D.Disk name (advance_says h r) old new.disk e)
    (sym c.refuse_step.ensures)
    (step_refused g.D.Disk name old new c.requires (advance_record r.size r.root r.proof)
    (advanced_text r.size) (holding r.size r.root old.state)
    (λ broken end. advance_refused h old.state broken end r) c.in-Err.why
    c.in-Err.ensures.appends c.in-Err.ensures.answer)

pub returns-in-Ok-clause-valid : goal.returns-in-Ok-clause-valid
returns-in-Ok-clause-valid g c =
    let h = g.H.TreeHash.hash in
    let name = c.args.journal.now in
    let old = keyless_owner c.args.cosigner.now in
    let r = advance_parts c.args.request.now in
    step_valid g.D.Disk name old (keyless_owner c.advance.new.self) c.requires
    (advance_record r.size r.root r.proof) (advanced_text r.size) (holding r.size r.root old.state)
    (λ broken end. advance_refused h old.state broken end r) h
    c.in-Ok.ensures.valid

pub returns-in-Err-clause-valid : goal.returns-in-Err-clause-valid
returns-in-Err-clause-valid g c =
    let h = g.H.TreeHash.hash in
    let name = c.args.journal.now in
    let old = keyless_owner c.args.cosigner.now in
    let r = advance_parts c.args.request.now in
    step_valid g.D.Disk name old (keyless_owner c.advance.new.self) c.requires
    (advance_record r.size r.root r.proof) (advanced_text r.size) (holding r.size r.root old.state)
    (λ broken end. advance_refused h old.state broken end r) h
    c.in-Err.ensures.valid
