use Rattle.std.proofs.Common.{◌≡◌, length, sym, ◌∙◌, arith}
use Rattle.issuance_log.specs.Folds.{log_fold, log_form, view_in, with_items}
use Rattle.issuance_log.specs.Records.{batch_record}
use Rattle.journal_core.proofs.Folds.{state_next}
use Rattle.issuance_log.proofs.Encoded.{next_batched}
use Rattle.issuance_log.proofs.Fitting.{can_be}
use Rattle.authority_core.specs.Issues.{issued_items}
use Rattle.authority_core.proofs.IssuedLists.{all_of_form, count_issued}
use Rattle.authority_core.proofs.SwitchedLogs.{all_taken, switched_before}
use Rattle.authority_core.proofs.issuing.laws.law_issued_lists_keep_to_the_rules.Goals as goal

pub returns : goal.returns
returns c = λ h list s rs sized anchor valid some is capacity fits large.
    let form = log_form (view_in s) in
    let items = issued_items h (view_in s) rs in
    let count : length items ≡ length rs = count_issued h form s.settings.id rs in
    state_next (log_fold h) list s (batch_record items) (with_items items s) is
    (next_batched h s items (can_be items (omega (arith, some, count)) (fits ∙ sym count) large)
    (all_taken h (view_in s) items (switched_before h list s is) (omega (arith, capacity, count))
    (all_of_form h form s.settings.id rs sized anchor valid)))
