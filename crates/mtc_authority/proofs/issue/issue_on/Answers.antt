use Rattle.std.proofs.Common.{inl, refl, ◌≡◌, ◌∙◌, ap, subst, sym}
use Rattle.byte_formats.specs.Types.{Text}
use Rattle.mtc_command.specs.Answers.{Ending, replied, said}
use Rattle.mtc_command.specs.declared.answer.Said.TheVariants.{Done}
use Rattle.mtc_authority.specs.IssueOutcome.{issue_says, issued_text}
use Rattle.mtc_authority.specs.Works.{HasWorkedOnLog}
use Rattle.mtc_authority.proofs.Issued.{issued_so, issued_valid, may_refuse, refused_so}
use Rattle.mtc_authority.proofs.Issued.{refused_valid}
use Rattle.mtc_authority.proofs.issue.issue_on.Goals as goal

pub refuse_entry-requires : goal.refuse_entry-requires
refuse_entry-requires g c =
    may_refuse g.H.TreeHash.hash c.args.request.now c.args.journal.now c.args.log.now
    c.issue.new.log c.requires c.in-Err.why c.in-Err.ensures.answer

pub returns-in-Ok-clause-works : goal.returns-in-Ok-clause-works
returns-in-Ok-clause-works g c =
    let h = g.H.TreeHash.hash in
    let name = c.args.journal.now in
    let old = c.args.log.now in
    let new = c.issue.new.log in
    let line : c.in_ok-text.text ≡ issued_text _ =
    c.in_ok-text.ensures ∙ ap issued_text c.size.ensures.value in
    subst (λ (t : Text). HasWorkedOnLog name (issue_says h c.args.request.now) old new
    (replied (said Done t))) (sym line)
    (issued_so h c.args.request.now name old new c.requires _ c.in-Ok.ensures.answer
    c.in-Ok.ensures.appends)

pub returns-in-Err-clause-works : goal.returns-in-Err-clause-works
returns-in-Err-clause-works g c =
    let h = g.H.TreeHash.hash in
    let name = c.args.journal.now in
    let old = c.args.log.now in
    let new = c.issue.new.log in
    subst (λ (e : Ending). HasWorkedOnLog name (issue_says h c.args.request.now) old new e)
    (sym c.refuse_entry.ensures)
    (refused_so h c.args.request.now name old new c.requires c.in-Err.why c.in-Err.ensures.appends
    c.in-Err.ensures.answer)

pub returns-in_err-text-clause-valid : goal.returns-in_err-text-clause-valid
returns-in_err-text-clause-valid g c = inl (inl refl)

pub returns-in-Ok-clause-valid : goal.returns-in-Ok-clause-valid
returns-in-Ok-clause-valid g c =
    issued_valid g.H.TreeHash.hash c.args.request.now c.args.journal.now c.args.log.now
    c.issue.new.log c.requires (c.in-Ok.ensures.valid (λ is. absurd cc))

pub returns-in-Err-clause-valid : goal.returns-in-Err-clause-valid
returns-in-Err-clause-valid g c =
    refused_valid g.H.TreeHash.hash c.args.request.now c.args.journal.now c.args.log.now
    c.issue.new.log c.requires c.in-Err.why c.in-Err.ensures.appends c.in-Err.ensures.valid
