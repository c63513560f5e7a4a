-- A log that was switched stays so, from the same index on, whatever records follow its own.
use Rattle.std.proofs.Common.{◌≡◌, ℕ, ◌+◌, ◌==◌, ◌&&◌, true, false, List, [], ◌∷◌, ◌++◌, length}
use Rattle.std.proofs.Common.{Option, None, Some, Ok, refl, ap, sym, ◌∙◌, subst, append_assoc}
use Rattle.std.specs.Prelude.{is_none}
use Rattle.std.proofs.lemmas.Option.{same_Some}
use Rattle.byte_formats.specs.Types.{HashFunction, Text}
use Rattle.byte_formats.specs.Readings.{some_or}
use Rattle.byte_formats.proofs.Steps.{bind_ok, ok_is, some_or_ok}
use Rattle.byte_formats.proofs.Values.{when_some}
use Rattle.journal_core.specs.Folds.{taken_from}
use Rattle.journal_core.proofs.Folds.{state_more}
use Rattle.issuance_log.specs.Folds.{LogState, log_after_step, log_by_step, log_fold, log_of}
use Rattle.issuance_log.specs.Folds.{next_log, takes_log_step, takes_switch, view_in, with_switch}
use Rattle.issuance_log.specs.LogSteps.{LogStep, adds_items, log_step, log_step_in, sets_mark}
use Rattle.issuance_log.specs.LogSteps.{stores_tiles, switches, unknown_step}
use Rattle.issuance_log.specs.Records.{switch_in, switch_record}
use Rattle.issuance_log.proofs.After.{when}
use Rattle.issuance_log.proofs.Encoded.{next_says, switch_adds_none, switch_no_mark}
use Rattle.issuance_log.proofs.Encoded.{switch_no_tiles}
use Rattle.issuance_log.proofs.Steps.{says_so}

module _ (h : HashFunction) where
  -- ---- a Switch that is taken

  by_switch : (s t : LogState) (index : Option ℕ)
      → log_after_step h s (log_step None None None index) ≡ Some t
      → t.switched ≡ Some (length s.entries)
  by_switch s t (Some index) is =
      ap (λ (u : LogState). u.switched)
      (sym (when (takes_switch (view_in s) index) (with_switch s) t is))
  by_switch s t None is = let wrong : None ≡ Some t = is in absurd cc

  -- the log is switched at its size
  next_switched : (s t : LogState) (size : ℕ) → next_log h s (switch_record size) ≡ Some t
      → t.switched ≡ Some (length s.entries)
  next_switched s t size is =
      let body = switch_record size in
      let says : log_step_in body ≡ log_step None None None (switch_in body) =
      says_so body None None None (switch_in body) (switch_adds_none size) (switch_no_mark size)
      (switch_no_tiles size) refl in
      by_switch s t (switch_in body) (sym (next_says h s body _ says) ∙ is)

  -- ---- what follows it

  step_stays : (s : LogState) (x : LogStep) (index : ℕ) → s.switched ≡ Some index
      → takes_log_step h (view_in s) x ≡ true → (log_by_step x s).switched ≡ Some index
  step_stays s (adds_items items) index was takes = was
  step_stays s (sets_mark size) index was takes = was
  step_stays s (stores_tiles size) index was takes = was
  step_stays s (switches other) index was takes =
      let wrong : false ≡ true =
      sym (ap (λ (o : Option ℕ). is_none o && (other == length s.entries)) was) ∙ takes in
      absurd cc
  step_stays s unknown_step index was takes = was

  next_stays : (s t : LogState) (body : Text) (index : ℕ) → next_log h s body ≡ Some t
      → s.switched ≡ Some index → t.switched ≡ Some index
  unfolding next_log
  next_stays s t body index is was =
      let x = log_step_in body in
      let made = when_some (takes_log_step h (view_in s) x) (Some (log_by_step x s)) t is in
      subst (λ (u : LogState). u.switched ≡ Some index)
      (same_Some (log_by_step x s) t made.1) (step_stays s x index was made.0)

  following_stays : (k : ℕ) (s t : LogState) (bodies : List Text) (index : ℕ)
      → taken_from (log_fold h) k s bodies ≡ Ok t → s.switched ≡ Some index
      → t.switched ≡ Some index
  unfolding taken_from
  following_stays k s t [] index is was =
      subst (λ (u : LogState). u.switched ≡ Some index) (ok_is ℕ s t is) was
  following_stays k s t (body ∷ bodies) index is was =
      let step = bind_ok (some_or k (next_log h s body))
      (λ (u : LogState). taken_from (log_fold h) (k + 1) u bodies) t is in
      following_stays (k + 1) step.0 t bodies index step.2
      (next_stays s step.0 body index (some_or_ok k (next_log h s body) step.0 step.1) was)

  taken_switched : (k : ℕ) (s t : LogState) (size : ℕ) (more : List Text)
      → taken_from (log_fold h) k s (switch_record size ∷ more) ≡ Ok t
      → t.switched ≡ Some (length s.entries)
  unfolding taken_from
  taken_switched k s t size more is =
      let body = switch_record size in
      let step = bind_ok (some_or k (next_log h s body))
      (λ (u : LogState). taken_from (log_fold h) (k + 1) u more) t is in
      following_stays (k + 1) step.0 t more (length s.entries) step.2
      (next_switched s step.0 size (some_or_ok k (next_log h s body) step.0 step.1))

  -- ---- in the log of a journal

  -- a log to which a Switch is added is switched at the size that it had
  pub switch_added : (list more : List Text) (size : ℕ) (s t : LogState) → log_of h list ≡ Ok s
      → log_of h ((list ++ switch_record size ∷ []) ++ more) ≡ Ok t
      → t.switched ≡ Some (length s.entries)
  switch_added list more size s t is whole =
      let body = switch_record size in
      let joined = ap (λ (l : List Text). log_of h l) (append_assoc list (body ∷ []) more) in
      taken_switched (length list) s t size more
      (sym (state_more (log_fold h) list (body ∷ more) s is) ∙ (sym joined ∙ whole))

  -- and a log that was switched stays so
  pub switch_kept : (list more : List Text) (s t : LogState) (index : ℕ) → log_of h list ≡ Ok s
      → log_of h (list ++ more) ≡ Ok t → s.switched ≡ Some index → t.switched ≡ Some index
  switch_kept list more s t index is whole was =
      following_stays (length list) s t more index
      (sym (state_more (log_fold h) list more s is) ∙ whole) was
