-- The log that records make, and the items that it takes together. If it was switched, then at a
-- size that it had; so each of them is asked for the form of the next entry.
use Rattle.std.proofs.Common.{◌≡◌, ℕ, ◌+◌, ◌<◌, ◌≤◌, List, [], ◌∷◌, length, Bool, true, Option}
use Rattle.std.proofs.Common.{Some, None, IfSome, Ok, refl, ap, sym, subst, ◌∙◌, arith}
use Rattle.std.proofs.lemmas.Bool.{le-leb, lt-ltb}
use Rattle.std.proofs.lemmas.List.{length-append}
use Rattle.std.proofs.lemmas.Option.{same_Some}
use Rattle.std.specs.Prelude.{map, if◌then◌else◌}
use Rattle.byte_formats.specs.Readings.{some_or}
use Rattle.byte_formats.specs.Types.{HashFunction, Text}
use Rattle.byte_formats.proofs.Steps.{bind_ok, ok_is, some_or_ok}
use Rattle.byte_formats.proofs.Values.{when_some}
use Rattle.journal_core.specs.Folds.{taken_from}
use Rattle.log_entry.specs.Forms.{form_at}
use Rattle.log_entry.specs.declared.entry.Form.{Form}
use Rattle.log_entry.specs.declared.entry.Form.TheVariants.{One, Two}
use Rattle.issuance_log.specs.Batches.{AreOfForm}
use Rattle.issuance_log.specs.Folds.{LogState, LogView, log_by_step, log_fold, log_form, log_of}
use Rattle.issuance_log.specs.Folds.{new_log, next_log, one_item_more, takes_items, takes_log_step}
use Rattle.issuance_log.specs.Folds.{view_in}
use Rattle.issuance_log.specs.LogSteps.{LogStep, adds_items, log_step_in, sets_mark, stores_tiles}
use Rattle.issuance_log.specs.LogSteps.{switches, unknown_step}
use Rattle.issuance_log.proofs.After.{only_begins}

-- If it was switched, then at this size or a smaller one.
abbrev pub IsSwitchedWithin : Option ℕ → ℕ → Type 0
IsSwitchedWithin switched size = IfSome switched (λ index. index ≤ size)

within_more : (switched : Option ℕ) (size more : ℕ) → IsSwitchedWithin switched size
    → size ≤ more → IsSwitchedWithin switched more
within_more None size more is grown = tt
within_more (Some index) size more is grown = omega (arith, is)

-- ---- the log that records make

abbrev pub IsSwitchedBefore : LogState → Type 0
IsSwitchedBefore s = IsSwitchedWithin s.switched (length s.entries)

before_step : (s : LogState) (x : LogStep) → IsSwitchedBefore s
    → IsSwitchedBefore (log_by_step x s)
before_step s (adds_items items) is =
    let grown = length-append s.entries (map (λ (item : Text × Text). item.0) items) in
    within_more s.switched (length s.entries) _ is (omega (arith, grown))
before_step s (sets_mark size) is = is
before_step s (stores_tiles size) is = is
before_step s (switches index) is = omega arith
before_step s unknown_step is = is

module _ (h : HashFunction) where
  before_next : (s t : LogState) (body : Text) → IsSwitchedBefore s → next_log h s body ≡ Some t
      → IsSwitchedBefore t
  unfolding next_log
  before_next s t body is next =
      let x = log_step_in body in
      let made = when_some (takes_log_step h (view_in s) x) (Some (log_by_step x s)) t next in
      subst IsSwitchedBefore (same_Some (log_by_step x s) t made.1) (before_step s x is)

  before_after : (k : ℕ) (s t : LogState) (bodies : List Text) → IsSwitchedBefore s
      → taken_from (log_fold h) k s bodies ≡ Ok t → IsSwitchedBefore t
  unfolding taken_from
  before_after k s t [] before is = subst IsSwitchedBefore (ok_is ℕ s t is) before
  before_after k s t (body ∷ bodies) before is =
      let step = bind_ok (some_or k (next_log h s body))
      (λ (u : LogState). taken_from (log_fold h) (k + 1) u bodies) t is in
      let next = some_or_ok k (next_log h s body) step.0 step.1 in
      before_after (k + 1) step.0 t bodies (before_next s step.0 body before next) step.2

  pub switched_before : (list : List Text) (s : LogState) → log_of h list ≡ Ok s
      → IsSwitchedBefore s
  switched_before list s is =
      let begun = only_begins h list s is in
      before_after 1 (new_log s.settings) s begun.1.0 tt begun.1.1.2

  -- ---- the items that it takes

  form_stays : (switched : Option ℕ) (size : ℕ) → IsSwitchedWithin switched size
      → form_at switched (size + 1) ≡ form_at switched size
  form_stays None size is = refl
  form_stays (Some index) size is =
      ap (λ (b : Bool). if b then Two else One) (le-leb index (size + 1) (omega (arith, is)))
      ∙ sym (ap (λ (b : Bool). if b then Two else One) (le-leb index size is))

  -- All of the form of the next entry are taken together, if the limit allows so many.
  pub all_taken : (v : LogView) (items : List (Text × Text)) → IsSwitchedWithin v.switched v.size
      → v.size + length items ≤ v.settings.limit → AreOfForm h (log_form v) items
      → takes_items h v items ≡ true
  all_taken v [] is within each = refl
  all_taken v (x ∷ items) is within each =
      let capacity : v.size < v.settings.limit = omega (arith, within) in
      let form : log_form (one_item_more v) ≡ log_form v = form_stays v.switched v.size is in
      let later = within_more v.switched v.size (v.size + 1) is (omega arith) in
      let rest = all_taken (one_item_more v) items later (omega (arith, within))
      (subst (λ (f : Form). AreOfForm h f items) (sym form) each.1) in
      rw (lt-ltb v.size v.settings.limit capacity, each.0.0, each.0.1) rest
