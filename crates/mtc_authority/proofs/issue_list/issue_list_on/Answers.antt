use Rattle.std.proofs.Common.{inl, refl, ◌≡◌, ◌∙◌, ℕ, List, length, ap, subst, sym}
use Rattle.byte_formats.specs.Types.{Text}
use Rattle.authority_core.specs.Requests.{RequestParts}
use Rattle.mtc_command.specs.Answers.{Ending, replied, said, stop_ending}
use Rattle.mtc_command.specs.declared.answer.Said.TheVariants.{Done}
use Rattle.mtc_authority.specs.ListOutcomes.{issue_list_says, issued_lines}
use Rattle.mtc_authority.specs.Works.{HasWorkedOnLog, StaysLog}
use Rattle.mtc_authority.proofs.IssuedLists.{list_issued_so, list_issued_valid, list_may_refuse}
use Rattle.mtc_authority.proofs.IssuedLists.{list_refused_so, list_refused_valid}
use Rattle.mtc_authority.proofs.issue_list.issue_list_on.Goals as goal

pub refuse_entries-requires : goal.refuse_entries-requires
refuse_entries-requires g c =
    list_may_refuse g.H.TreeHash.hash c.as_slice-requests.result.now c.args.journal.now
    c.args.log.now c.issue_list.new.log c.requires c.in-Err.why c.in-Err.ensures.answer

pub returns-in-Ok-clause-works : goal.returns-in-Ok-clause-works
returns-in-Ok-clause-works g c =
    let h = g.H.TreeHash.hash in
    let name = c.args.journal.now in
    let old = c.args.log.now in
    let new = c.issue_list.new.log in
    let rs = c.as_slice-requests.result.now in
    let line : c.in_ok-text.text ≡ issued_lines _ _ =
    c.in_ok-text.ensures ∙ ap (λ (n : ℕ). issued_lines n (length rs)) c.size.ensures.value in
    subst (λ (xs : List RequestParts). HasWorkedOnLog name (issue_list_says h xs) old new
    (replied (said Done c.in_ok-text.text))) c.as_slice-requests.ensures.value
    (subst (λ (t : Text). HasWorkedOnLog name (issue_list_says h rs) old new
    (replied (said Done t))) (sym line)
    (list_issued_so h rs name old new c.requires _ c.in-Ok.ensures.answer
    c.in-Ok.ensures.appends))

pub returns-in-Err-clause-works : goal.returns-in-Err-clause-works
returns-in-Err-clause-works g c =
    let h = g.H.TreeHash.hash in
    let name = c.args.journal.now in
    let old = c.args.log.now in
    let new = c.issue_list.new.log in
    let rs = c.as_slice-requests.result.now in
    subst (λ (xs : List RequestParts). HasWorkedOnLog name (issue_list_says h xs) old new
    (stop_ending c.refuse_entries.result)) c.as_slice-requests.ensures.value
    (subst (λ (e : Ending). HasWorkedOnLog name (issue_list_says h rs) old new e)
    (sym c.refuse_entries.ensures)
    (list_refused_so h rs name old new c.requires c.in-Err.why c.in-Err.ensures.appends
    c.in-Err.ensures.answer))

pub returns-in_err-text-clause-valid : goal.returns-in_err-text-clause-valid
returns-in_err-text-clause-valid g c = inl (inl refl)

pub returns-in-Ok-clause-valid : goal.returns-in-Ok-clause-valid
returns-in-Ok-clause-valid g c =
    let h = g.H.TreeHash.hash in
    let rs = c.as_slice-requests.result.now in
    subst (λ (xs : List RequestParts). StaysLog h (issue_list_says h xs) c.args.log.now
    c.issue_list.new.log) c.as_slice-requests.ensures.value
    (list_issued_valid h rs c.args.journal.now c.args.log.now c.issue_list.new.log c.requires
    (c.in-Ok.ensures.valid (λ is. absurd cc)))

pub returns-in-Err-clause-valid : goal.returns-in-Err-clause-valid
returns-in-Err-clause-valid g c =
    let h = g.H.TreeHash.hash in
    let rs = c.as_slice-requests.result.now in
    subst (λ (xs : List RequestParts). StaysLog h (issue_list_says h xs) c.args.log.now
    c.issue_list.new.log) c.as_slice-requests.ensures.value
    (list_refused_valid h rs c.args.journal.now c.args.log.now c.issue_list.new.log c.requires
    c.in-Err.why c.in-Err.ensures.appends c.in-Err.ensures.valid)
