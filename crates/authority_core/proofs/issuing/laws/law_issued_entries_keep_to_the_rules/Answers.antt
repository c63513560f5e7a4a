use Rattle.issuance_log.specs.Folds.{log_form, view_in}
use Rattle.issuance_log.proofs.Encoded.{log_added}
use Rattle.authority_core.specs.Issues.{issued_entry}
use Rattle.authority_core.proofs.Issued.{form_asked, key_belongs}
use Rattle.authority_core.proofs.issuing.laws.law_issued_entries_keep_to_the_rules.Goals as goal

pub returns : goal.returns
returns c = λ h list s r sized anchor f is capacity few.
    let form = log_form (view_in s) in
    log_added h list s (issued_entry h (view_in s) r) r.key is capacity few
    (form_asked h form s.settings.id r sized anchor f)
    (key_belongs h form s.settings.id r sized anchor f)
