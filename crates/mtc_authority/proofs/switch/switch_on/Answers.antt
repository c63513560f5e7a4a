use Rattle.std.proofs.Common.{◌≡◌, ◌∙◌, ap, inl, refl, subst, sym}
use Rattle.byte_formats.specs.Types.{Text}
use Rattle.issuance_log.specs.Words.{view_of}
use Rattle.mtc_command.specs.Answers.{Ending, replied, said}
use Rattle.mtc_command.specs.declared.answer.Said.TheVariants.{Done}
use Rattle.mtc_authority.specs.SwitchOutcome.{switch_says, switched_line}
use Rattle.mtc_authority.specs.Works.{HasWorkedOnLog}
use Rattle.mtc_authority.proofs.Switched.{may_refuse, refused_so, switched_so, switched_valid}
use Rattle.mtc_authority.proofs.switch.switch_on.Goals as goal

pub refuse_switch-requires : goal.refuse_switch-requires
refuse_switch-requires g c =
    may_refuse c.args.journal.now c.args.log.now c.switch.new.self c.requires c.in-Err.why
    c.in-Err.ensures.answer

pub returns-in-Ok-clause-works : goal.returns-in-Ok-clause-works
returns-in-Ok-clause-works g c =
    let name = c.args.journal.now in
    let old = c.args.log.now in
    let new = c.switch.new.self in
    let line : c.in_ok-text.text ≡ switched_line (view_of old).size =
    c.in_ok-text.ensures ∙ ap switched_line c.size.ensures.value in
    subst (λ (t : Text). HasWorkedOnLog name switch_says old new (replied (said Done t)))
    (sym line)
    (switched_so name old new c.requires _ c.in-Ok.ensures.answer c.in-Ok.ensures.appends)

pub returns-in-Err-clause-works : goal.returns-in-Err-clause-works
returns-in-Err-clause-works g c =
    let name = c.args.journal.now in
    let old = c.args.log.now in
    let new = c.switch.new.self in
    subst (λ (e : Ending). HasWorkedOnLog name switch_says old new e)
    (sym c.refuse_switch.ensures)
    (refused_so name old new c.requires c.in-Err.why
    (may_refuse name old new c.requires c.in-Err.why c.in-Err.ensures.answer)
    c.in-Err.ensures.appends c.in-Err.ensures.answer)

pub returns-in_err-text-clause-valid : goal.returns-in_err-text-clause-valid
returns-in_err-text-clause-valid g c = inl (inl refl)

pub returns-in-Ok-clause-valid : goal.returns-in-Ok-clause-valid
returns-in-Ok-clause-valid g c =
    switched_valid c.args.journal.now c.args.log.now c.switch.new.self c.requires g.H.TreeHash.hash
    c.law_unrefused_records_are_taken.ensures.switched

pub returns-in-Err-clause-valid : goal.returns-in-Err-clause-valid
returns-in-Err-clause-valid g c =
    switched_valid c.args.journal.now c.args.log.now c.switch.new.self c.requires g.H.TreeHash.hash
    c.law_unrefused_records_are_taken.ensures.switched
