use Rattle.std.proofs.Common.{◌≡◌, ℕ, List, length, Result, Ok, Err, ap, subst, ◌∙◌}
use Rattle.std.proofs.Common.{arith, option_map}
use Rattle.byte_formats.specs.Types.{Text}
use Rattle.log_entry.specs.declared.entry.Form.{Form}
use Rattle.issuance_log.specs.Batches.{AreOfForm}
use Rattle.issuance_log.specs.Folds.{log_form, more_entries, with_items}
use Rattle.issuance_log.specs.Records.{batch_record}
use Rattle.issuance_log.specs.Settings.{Settings}
use Rattle.issuance_log.specs.Words.{LogAppends, modelled_state, view_of}
use Rattle.issuance_log.specs.declared.error.LogError.{LogError}
use Rattle.issuance_log.specs.declared.error.LogError.TheVariants.{Memory}
use Rattle.issuance_log.proofs.Asked.{not_touched}
use Rattle.authority_core.specs.Issues.{issued_batch, issued_items, issued_log_of_all}
use Rattle.authority_core.proofs.Answered.{of_refusal}
use Rattle.authority_core.proofs.IssuedLists.{count_issued, issued_known, items_of_log, own_of_log}
use Rattle.authority_core.proofs.issuing.several.issue_list.Goals as goal

pub returns-clause-appends : goal.returns-clause-appends
returns-clause-appends g c =
    let log = c.args.log.now in
    let h = g.H.TreeHash.hash in
    let rs = c.args.requests.now in
    let named = ap (λ (s : Settings). s.id)
    (c.settings.view_is ∙ c.settings-settings.ensures.value) in
    let same = c.as_slice.ensures.value ∙ c.in_ok-items.ensures.items
    ∙ items_of_log h _ _ (view_of log) rs c.form-form.ensures named in
    subst (λ (n : ℕ). LogAppends (issued_batch h (view_of log) rs) (more_entries n)
    (issued_log_of_all h (view_of log) rs) log c.add_all.new.self (Ok c.in_ok-index.index))
    (count_issued h (log_form (view_of log)) (view_of log).settings.id rs)
    (subst (λ (xs : List (Text × Text)). LogAppends (batch_record xs) (more_entries (length xs))
    (with_items xs) log c.add_all.new.self (Ok c.in_ok-index.index)) same
    c.in_ok-index.ensures.appends)

pub returns-clause-issued : goal.returns-clause-issued
returns-clause-issued g c =
    let log = c.args.log.now in
    let h = g.H.TreeHash.hash in
    let rs = c.args.requests.now in
    let named = ap (λ (s : Settings). s.id)
    (c.settings.view_is ∙ c.settings-settings.ensures.value) in
    let same = c.as_slice.ensures.value ∙ c.in_ok-items.ensures.items
    ∙ items_of_log h _ _ (view_of log) rs c.form-form.ensures named in
    issued_known h (view_of log) rs c.in_ok-index.index
    (own_of_log h _ _ (view_of log) rs c.form-form.ensures named c.in_ok-items.ensures.own)
    c.in_ok-index.ensures.index (modelled_state log) (modelled_state c.add_all.new.self)
    (subst (λ (xs : List (Text × Text)). modelled_state c.add_all.new.self
    ≡ option_map (with_items xs) (modelled_state log)) same
    c.in_ok-index.ensures.appends.is_modelled.contents)
    c.law_sound.ensures.view c.law_sound.ensures.items

pub returns-clause-valid : goal.returns-clause-valid
returns-clause-valid g c = λ made.
    let log = c.args.log.now in
    let h = g.H.TreeHash.hash in
    let rs = c.args.requests.now in
    let named = ap (λ (s : Settings). s.id)
    (c.settings.view_is ∙ c.settings-settings.ensures.value) in
    let same = c.in_ok-items.ensures.items
    ∙ items_of_log h _ _ (view_of log) rs c.form-form.ensures named in
    let count : length (issued_items h (view_of log) rs) ≡ length rs =
    count_issued h (log_form (view_of log)) (view_of log).settings.id rs in
    c.law_unrefused_records_are_taken.ensures.listed (issued_items h (view_of log) rs)
    (omega (arith, count, c.requires))
    (subst (λ (xs : List (Text × Text)). AreOfForm h (log_form (view_of log)) xs) same
    (subst (λ (f : Form). AreOfForm h f c.in_ok-items.items.items) c.form-form.ensures
    c.in_ok-items.ensures.fit))

pub returns-in_err-items-clause-appends : goal.returns-in_err-items-clause-appends
returns-in_err-items-clause-appends g c =
    let log = c.args.log.now in
    let h = g.H.TreeHash.hash in
    let rs = c.args.requests.now in
    of_refusal (λ (o : Result ℕ LogError). LogAppends (issued_batch h (view_of log) rs)
    (more_entries (length rs)) (issued_log_of_all h (view_of log) rs) log log o)
    c.from_residual.result Memory c.from_residual.ensures.1
    (not_touched log (issued_batch h (view_of log) rs) (more_entries (length rs))
    (issued_log_of_all h (view_of log) rs) (g.met.D.Disk.only_now _))

pub returns-in_err-index-clause-appends : goal.returns-in_err-index-clause-appends
returns-in_err-index-clause-appends g c =
    let log = c.args.log.now in
    let h = g.H.TreeHash.hash in
    let rs = c.args.requests.now in
    let why = c.in_err-index.field-0.0 in
    let named = ap (λ (s : Settings). s.id)
    (c.settings.view_is ∙ c.settings-settings.ensures.value) in
    let same = c.as_slice.ensures.value ∙ c.in_ok-items.ensures.items
    ∙ items_of_log h _ _ (view_of log) rs c.form-form.ensures named in
    of_refusal (λ (o : Result ℕ LogError). LogAppends (issued_batch h (view_of log) rs)
    (more_entries (length rs)) (issued_log_of_all h (view_of log) rs) log c.add_all.new.self o)
    c.from_residual-in_err-index.result why c.from_residual-in_err-index.ensures.1
    (subst (λ (n : ℕ). LogAppends {X = ℕ} (issued_batch h (view_of log) rs) (more_entries n)
    (issued_log_of_all h (view_of log) rs) log c.add_all.new.self (Err why))
    (count_issued h (log_form (view_of log)) (view_of log).settings.id rs)
    (subst (λ (xs : List (Text × Text)). LogAppends {X = ℕ} (batch_record xs)
    (more_entries (length xs)) (with_items xs) log c.add_all.new.self (Err why)) same
    c.in_err-index.ensures.appends))

pub returns-in_err-index-clause-valid : goal.returns-in_err-index-clause-valid
returns-in_err-index-clause-valid g c = λ made.
    let log = c.args.log.now in
    let h = g.H.TreeHash.hash in
    let rs = c.args.requests.now in
    let named = ap (λ (s : Settings). s.id)
    (c.settings.view_is ∙ c.settings-settings.ensures.value) in
    let same = c.in_ok-items.ensures.items
    ∙ items_of_log h _ _ (view_of log) rs c.form-form.ensures named in
    let count : length (issued_items h (view_of log) rs) ≡ length rs =
    count_issued h (log_form (view_of log)) (view_of log).settings.id rs in
    c.law_unrefused_records_are_taken.ensures.listed (issued_items h (view_of log) rs)
    (omega (arith, count, c.requires))
    (subst (λ (xs : List (Text × Text)). AreOfForm h (log_form (view_of log)) xs) same
    (subst (λ (f : Form). AreOfForm h f c.in_ok-items.items.items) c.form-form.ensures
    c.in_ok-items.ensures.fit))
