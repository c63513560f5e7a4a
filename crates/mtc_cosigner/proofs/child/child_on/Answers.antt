use Rattle.std.proofs.Common.{ℕ, rules, subst, sym}
use Rattle.byte_formats.specs.Types.{Text}
use Rattle.cosigner_core.specs.Keyless.{keyless_owner}
use Rattle.mtc_command.specs.Answers.{Ending, replied, said}
use Rattle.mtc_command.specs.declared.answer.Said.TheVariants.{Done}
use Rattle.mtc_cosigner.specs.CosignerOutcomes.{child_line, child_says}
use Rattle.mtc_cosigner.specs.Works.{HasWorkedOnCosigner}
use Rattle.mtc_cosigner.proofs.Childed.{child_made, child_not_made, child_sound, child_valid}
use Rattle.mtc_cosigner.proofs.child.child_on.Goals as goal

pub refuse_child-requires : goal.refuse_child-requires
refuse_child-requires g c = λ broken.
    let old = keyless_owner c.args.cosigner.now in
    child_sound old.state old.broken old.end c.requires.sound (search rules)

pub returns-in-Ok-clause-works : goal.returns-in-Ok-clause-works
returns-in-Ok-clause-works g c =
    let name = c.args.journal.now in
    let old = keyless_owner c.args.cosigner.now in
    let new = keyless_owner c.child.new.self in
    subst (λ (t : Text). HasWorkedOnCosigner g.D.Disk name child_says old new.disk
    (replied (said Done t))) (sym c.line_of_child.ensures)
    (subst (λ (n : ℕ). HasWorkedOnCosigner g.D.Disk name child_says old new.disk
    (replied (said Done (child_line n)))) (sym c.in-Ok.ensures.number)
    (child_made g.D.Disk name old new c.requires _ c.in-Ok.ensures.appends
    c.in-Ok.ensures.answer))

pub returns-in-Err-clause-works : goal.returns-in-Err-clause-works
returns-in-Err-clause-works g c =
    let name = c.args.journal.now in
    let old = keyless_owner c.args.cosigner.now in
    let new = keyless_owner c.child.new.self in
    subst (λ (e : Ending). HasWorkedOnCosigner g.D.Disk name child_says old new.disk e)
    (sym c.refuse_child.ensures)
    (child_not_made g.D.Disk name old new c.requires c.in-Err.why c.in-Err.ensures.appends
    c.in-Err.ensures.answer)

pub returns-in-Ok-clause-valid : goal.returns-in-Ok-clause-valid
returns-in-Ok-clause-valid g c =
    child_valid g.D.Disk c.args.journal.now (keyless_owner c.args.cosigner.now)
    (keyless_owner c.child.new.self) c.requires g.H.TreeHash.hash c.in-Ok.ensures.valid

pub returns-in-Err-clause-valid : goal.returns-in-Err-clause-valid
returns-in-Err-clause-valid g c =
    child_valid g.D.Disk c.args.journal.now (keyless_owner c.args.cosigner.now)
    (keyless_owner c.child.new.self) c.requires g.H.TreeHash.hash c.in-Err.ensures.valid
