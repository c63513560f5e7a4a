use Rattle.std.proofs.Common.{◌≡◌, ℕ, None, Result, Ok, Err, ap, subst, true}
use Rattle.std.proofs.Common.{sym, ◌∙◌}
use Rattle.std.proofs.lemmas.Result.{err_from_is_err_and}
use Rattle.byte_formats.specs.Types.{HashFunction, Text}
use Rattle.log_entry.specs.Matching.{has_form, matches}
use Rattle.log_entry.specs.declared.entry.Form.{Form}
use Rattle.issuance_log.specs.Folds.{log_form, one_item_more, with_item}
use Rattle.issuance_log.specs.Records.{entry_record}
use Rattle.issuance_log.specs.Words.{log_broken, log_end, modelled_state, view_of}
use Rattle.issuance_log.specs.Words.{LogAppends}
use Rattle.issuance_log.specs.Refusals.{ItemKeepsTo, add_refusal}
use Rattle.issuance_log.specs.Settings.{Settings}
use Rattle.issuance_log.specs.declared.error.LogError.{LogError}
use Rattle.issuance_log.specs.declared.error.LogError.TheVariants.{Memory}
use Rattle.authority_core.specs.Acceptance.{IsOwnEntry}
use Rattle.authority_core.specs.Issuing.{entry_for}
use Rattle.authority_core.specs.Issues.{KeepsToOrMemory, issued_entry, issued_log, issued_record}
use Rattle.authority_core.specs.Requests.{RequestParts}
use Rattle.issuance_log.proofs.Asked.{not_touched}
use Rattle.authority_core.proofs.Answered.{of_refusal, or_memory}
use Rattle.authority_core.proofs.Modelled.{own_modelled}
use Rattle.authority_core.proofs.issuing.adding.issue.Goals as goal

-- The entry of a request in a form: its key belongs to it, and it has the form.
abbrev IsMade : HashFunction → Form → Text → RequestParts → Type 0
IsMade h form id r =
    (matches h (entry_for h form id r) r.key ≡ true)
    × (has_form form (entry_for h form id r) ≡ true)

-- So it is in a form that is the same one.
in_form : (h : HashFunction) (form other : Form) (id : Text) (r : RequestParts) → form ≡ other
    → entry_for h form id r ≡ entry_for h other id r
in_form h form other id r is = ap (λ (f : Form). entry_for h f id r) is

made_in : (h : HashFunction) (form other : Form) (id : Text) (r : RequestParts) → form ≡ other
    → IsMade h form id r → IsMade h other id r
made_in h form other id r is = subst (λ (f : Form). IsMade h f id r) is

-- The same entry and key.
of_same : (P : Text → Text → Type 0) (entry key other other_key : Text)
    → entry ≡ other → key ≡ other_key → P entry key → P other other_key
of_same P entry key other other_key one two is =
    subst (P other) two (subst (λ (e : Text). P e key) one is)

pub returns-clause-appends : goal.returns-clause-appends
returns-clause-appends g c =
    let log = c.args.log.now in
    let h = g.H.TreeHash.hash in
    let r = c.args.request.now in
    of_same (λ (entry key : Text). LogAppends (entry_record entry key) one_item_more
    (with_item entry key) log c.add.new.self (Ok c.in_ok-index.index)) _ _
    (issued_entry h (view_of log) r) r.key
    (c.as_slice.ensures ∙ c.in_ok-entry.ensures.bytes
    ∙ in_form h _ _ _ r c.form-form.ensures
    ∙ ap (λ (s : Settings). entry_for h (log_form (view_of log)) s.id r) (c.settings.view_is
    ∙ c.settings-settings.ensures.value))
    (c.as_slice-2.ensures ∙ ap (λ (q : RequestParts). q.key) c.request.view_is)
    c.in_ok-index.ensures.appends

pub returns-clause-own : goal.returns-clause-own
returns-clause-own g c =
    let log = c.args.log.now in
    own_modelled (modelled_state log) (modelled_state c.add.new.self) (view_of log) _
    c.as_slice.result.now
    c.as_slice-2.result.now c.in_ok-index.index c.in_ok-index.ensures.appends.is_modelled.contents
    c.law_sound.ensures.view c.in_ok-index.ensures.index
    (ap (λ (s : Settings). s.id) (c.settings.view_is ∙ c.settings-settings.ensures.value))
    (subst (IsOwnEntry _) (sym (c.as_slice.ensures ∙ c.in_ok-entry.ensures.bytes))
    c.in_ok-entry.ensures.own)

pub returns-clause-valid : goal.returns-clause-valid
returns-clause-valid g c = λ made.
    let h = g.H.TreeHash.hash in
    let r = c.args.request.now in
    let form = log_form (view_of c.args.log.now) in
    let asked = made_in h _ _ _ r c.form-form.ensures
    (c.entry_of_request.ensures.belongs, c.entry_of_request.ensures.form) in
    let owned = subst (λ (s : Settings). IsMade h form s.id r)
    (c.settings.view_is ∙ c.settings-settings.ensures.value) asked in
    c.law_unrefused_records_are_taken.ensures.added (issued_entry h (view_of c.args.log.now) r)
    r.key owned.0 owned.1

pub returns-clause-answer : goal.returns-clause-answer
returns-clause-answer g c =
    let log = c.args.log.now in
    let h = g.H.TreeHash.hash in
    let r = c.args.request.now in
    of_same (λ (entry key : Text). add_refusal (view_of log) (log_broken log) (log_end log) entry
    key ≡ None) _ _
    (issued_entry h (view_of log) r) r.key
    (c.as_slice.ensures ∙ c.in_ok-entry.ensures.bytes
    ∙ in_form h _ _ _ r c.form-form.ensures
    ∙ ap (λ (s : Settings). entry_for h (log_form (view_of log)) s.id r) (c.settings.view_is
    ∙ c.settings-settings.ensures.value))
    (c.as_slice-2.ensures ∙ ap (λ (q : RequestParts). q.key) c.request.view_is)
    c.in_ok-index.ensures.answer

pub returns-in_err-entry-clause-appends : goal.returns-in_err-entry-clause-appends
returns-in_err-entry-clause-appends g c =
    let log = c.args.log.now in
    let h = g.H.TreeHash.hash in
    let r = c.args.request.now in
    let body = issued_record h (view_of log) r in
    let next = issued_log h (view_of log) r in
    of_refusal (λ (o : Result ℕ LogError). LogAppends body one_item_more next log log o)
    c.from_residual.result Memory c.from_residual.ensures.1
    (not_touched log body one_item_more next (g.met.D.Disk.only_now _))

pub returns-in_err-entry-clause-answer : goal.returns-in_err-entry-clause-answer
returns-in_err-entry-clause-answer g c =
    of_refusal (KeepsToOrMemory _) c.from_residual.result Memory c.from_residual.ensures.1 tt

pub returns-in_err-entry-clause-valid : goal.returns-in_err-entry-clause-valid
returns-in_err-entry-clause-valid g c = λ made.
    let p = err_from_is_err_and c.from_residual.result c.from_residual.ensures.1 in
    absurd (made (p.1 ∙ ap Err p.2))

pub returns-in_err-index-clause-appends : goal.returns-in_err-index-clause-appends
returns-in_err-index-clause-appends g c =
    let log = c.args.log.now in
    let h = g.H.TreeHash.hash in
    let r = c.args.request.now in
    of_refusal (λ (o : Result ℕ LogError). LogAppends (issued_record h (view_of log) r)
    one_item_more (issued_log h (view_of log) r) log c.add.new.self o)
    c.from_residual-in_err-index.result c.in_err-index.field-0.0
    c.from_residual-in_err-index.ensures.1
    (of_same (λ (entry key : Text). LogAppends (entry_record entry key) one_item_more
    (with_item entry key) log c.add.new.self (Err c.in_err-index.field-0.0)) _ _
    (issued_entry h (view_of log) r) r.key
    (c.as_slice.ensures ∙ c.in_ok-entry.ensures.bytes
    ∙ in_form h _ _ _ r c.form-form.ensures
    ∙ ap (λ (s : Settings). entry_for h (log_form (view_of log)) s.id r) (c.settings.view_is
    ∙ c.settings-settings.ensures.value))
    (c.as_slice-2.ensures ∙ ap (λ (q : RequestParts). q.key) c.request.view_is)
    c.in_err-index.ensures.appends)

pub returns-in_err-index-clause-answer : goal.returns-in_err-index-clause-answer
returns-in_err-index-clause-answer g c =
    let log = c.args.log.now in
    let h = g.H.TreeHash.hash in
    let r = c.args.request.now in
    let why = c.in_err-index.field-0.0 in
    of_refusal (KeepsToOrMemory _) c.from_residual-in_err-index.result why
    c.from_residual-in_err-index.ensures.1
    (or_memory _ why (of_same (λ (entry key : Text). ItemKeepsTo (add_refusal (view_of log)
    (log_broken log) (log_end log) entry key) (Err why)) _ _
    (issued_entry h (view_of log) r) r.key
    (c.as_slice.ensures ∙ c.in_ok-entry.ensures.bytes
    ∙ in_form h _ _ _ r c.form-form.ensures
    ∙ ap (λ (s : Settings). entry_for h (log_form (view_of log)) s.id r) (c.settings.view_is
    ∙ c.settings-settings.ensures.value))
    (c.as_slice-2.ensures ∙ ap (λ (q : RequestParts). q.key) c.request.view_is)
    c.in_err-index.ensures.answer))

pub returns-in_err-index-clause-valid : goal.returns-in_err-index-clause-valid
returns-in_err-index-clause-valid g c = λ made.
    let h = g.H.TreeHash.hash in
    let r = c.args.request.now in
    let form = log_form (view_of c.args.log.now) in
    let asked = made_in h _ _ _ r c.form-form.ensures
    (c.entry_of_request.ensures.belongs, c.entry_of_request.ensures.form) in
    let owned = subst (λ (s : Settings). IsMade h form s.id r)
    (c.settings.view_is ∙ c.settings-settings.ensures.value) asked in
    c.law_unrefused_records_are_taken.ensures.added (issued_entry h (view_of c.args.log.now) r)
    r.key owned.0 owned.1

pub add-requires : goal.add-requires
add-requires g c =
    let h = g.H.TreeHash.hash in
    let r = c.args.request.now in
    let form = log_form (view_of c.args.log.now) in
    let asked = made_in h _ _ _ r c.form-form.ensures
    (c.entry_of_request.ensures.belongs, c.entry_of_request.ensures.form) in
    let bytes = c.as_slice.ensures ∙ c.in_ok-entry.ensures.bytes
    ∙ in_form h _ _ _ r c.form-form.ensures in
    let key = c.as_slice-2.ensures ∙ ap (λ (q : RequestParts). q.key) c.request.view_is in
    record {
      belongs = of_same (λ (entry key : Text). matches h entry key ≡ true) _ _ _ _ (sym bytes)
          (sym key) asked.0;
      form = subst (λ (entry : Text). has_form form entry ≡ true) (sym bytes) asked.1;
    }
