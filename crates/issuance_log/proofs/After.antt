-- Records that are taken one by one after the first record of a log.
use Rattle.std.proofs.Common.{◌≡◌, ℕ, ◌+◌, ◌<◌, ◌≤◌, Bool, true, false}
use Rattle.std.proofs.Common.{List, [], ◌∷◌, ◌++◌, length, drop, get_or, Option, Some, None, Result}
use Rattle.std.proofs.Common.{Ok, Err, is_ok, option_map, refl, ap, sym, subst, ◌∙◌}
use Rattle.std.specs.Prelude.{if◌then◌else◌, map, flat_map}
use Rattle.std.proofs.lemmas.List.{append_assoc, append-nil, map-append}
use Rattle.std.proofs.lemmas.Option.{same_Some}
use Rattle.byte_formats.specs.Types.{Text, HashFunction}
use Rattle.byte_formats.specs.Readings.{◌>>=◌, some_or}
use Rattle.byte_formats.proofs.Steps.{bind_ok, ok_is, some_or_ok}
use Rattle.journal_core.specs.Folds.{Fold, state_after, taken_from}
use Rattle.journal_core.proofs.Bodies.{none_left, rest_at}
use Rattle.issuance_log.specs.Folds.{LogState, begun_log, log_after, log_fold, log_of, new_log}
use Rattle.issuance_log.specs.Folds.{log_by_step, next_log, takes_log_step, view_in}
use Rattle.issuance_log.specs.LogSteps.{LogStep, adds_items, log_step_in, sets_mark, stores_tiles}
use Rattle.issuance_log.specs.LogSteps.{switches, unknown_step}
use Rattle.issuance_log.specs.Records.{added_items, settings_in}
use Rattle.issuance_log.specs.Settings.{Settings}
use Rattle.issuance_log.proofs.Steps.{items_of_step, step_items_are}

module _ {S E : Type 0} (fold : Fold S E) where
  -- the first of these records is taken, or breaks the rules
  taken_on : (k : ℕ) (s t : S) (x : List ℕ) (rest : List (List ℕ)) → fold.takes s x ≡ Some t
      → taken_from fold k s (x ∷ rest) ≡ taken_from fold (k + 1) t rest
  unfolding taken_from
  taken_on k s t x rest next =
      ap (λ (o : Option S). some_or k o >>= λ (u : S). taken_from fold (k + 1) u rest) next

  taken_none : (k : ℕ) (s : S) (x : List ℕ) (rest : List (List ℕ)) → fold.takes s x ≡ None
      → taken_from fold k s (x ∷ rest) ≡ Err k
  unfolding taken_from
  taken_none k s x rest next =
      ap (λ (o : Option S). some_or k o >>= λ (u : S). taken_from fold (k + 1) u rest) next

  taken_end : (k : ℕ) (s : S) → taken_from fold k s [] ≡ Ok s
  unfolding taken_from
  taken_end k s = refl

  -- The record at this index is taken, or breaks the rules.
  pub follows_on : (wanted : Result S ℕ) (j k : ℕ) (s t : S) (bodies : List (List ℕ)) (i : ℕ)
      (x body : List ℕ) → j ≡ k + 1 → i < length bodies → x ≡ get_or bodies i x
      → taken_from fold k s (drop i bodies ++ body ∷ []) ≡ wanted → fold.takes s x ≡ Some t
      → taken_from fold j t (drop (i + 1) bodies ++ body ∷ []) ≡ wanted
  follows_on wanted j k s t bodies i x body number there is so_far next =
      let rest = drop (i + 1) bodies ++ body ∷ [] in
      ap (λ (n : ℕ). taken_from fold n t rest) number
      ∙ sym (taken_on k s t x rest next)
      ∙ ap (taken_from fold k s) (sym (rest_at bodies i x body there is))
      ∙ so_far

  pub follows_not : (wanted : Result S ℕ) (k : ℕ) (s : S) (bodies : List (List ℕ)) (i : ℕ)
      (x body : List ℕ) → i < length bodies → x ≡ get_or bodies i x
      → taken_from fold k s (drop i bodies ++ body ∷ []) ≡ wanted → fold.takes s x ≡ None
      → false ≡ is_ok wanted
  follows_not wanted k s bodies i x body there is so_far next =
      let rest = drop (i + 1) bodies ++ body ∷ [] in
      ap (λ (r : Result S ℕ). is_ok r) (sym (taken_none k s x rest next)
      ∙ ap (taken_from fold k s) (sym (rest_at bodies i x body there is)) ∙ so_far)

  -- so is the last one
  pub last_follows : (wanted : Result S ℕ) (k : ℕ) (s t : S) (bodies : List (List ℕ)) (i : ℕ)
      (body : List ℕ) → length bodies ≤ i
      → taken_from fold k s (drop i bodies ++ body ∷ []) ≡ wanted → fold.takes s body ≡ Some t
      → true ≡ is_ok wanted
  last_follows wanted k s t bodies i body past so_far next =
      ap (λ (r : Result S ℕ). is_ok r) (sym (taken_end (k + 1) t)
      ∙ sym (taken_on k s t body [] next)
      ∙ ap (taken_from fold k s) (sym (none_left bodies i body past)) ∙ so_far)

  pub last_not : (wanted : Result S ℕ) (k : ℕ) (s : S) (bodies : List (List ℕ)) (i : ℕ)
      (body : List ℕ) → length bodies ≤ i
      → taken_from fold k s (drop i bodies ++ body ∷ []) ≡ wanted → fold.takes s body ≡ None
      → false ≡ is_ok wanted
  last_not wanted k s bodies i body past so_far next =
      ap (λ (r : Result S ℕ). is_ok r) (sym (taken_none k s body [] next)
      ∙ ap (taken_from fold k s) (sym (none_left bodies i body past)) ∙ so_far)

-- ---- the first record

pub begins_so : (h : HashFunction) (first : Text) (s : Settings) (bodies : List Text)
    → settings_in first ≡ Some s → log_of h (first ∷ bodies) ≡ log_after h s bodies
unfolding state_after begun_log
begins_so h first s bodies is =
    ap (λ (o : Option Settings). some_or 0 (option_map new_log o)
    >>= λ (u : LogState). taken_from (log_fold h) 1 u bodies) is

pub when : (b : Bool) (s t : LogState) → (if b then Some s else None) ≡ Some t → s ≡ t
when true s t is = same_Some s t is
when false s t is = let wrong : None ≡ Some t = is in absurd cc

-- the entries and the keys of items
abbrev pub entries_of : List (Text × Text) → List Text
entries_of items = map (λ item. item.0) items

abbrev pub keys_of : List (Text × Text) → List Text
keys_of items = map (λ item. item.1) items

-- the items in the records after the first
abbrev pub later_items : List Text → List (Text × Text)
later_items bodies = flat_map added_items bodies

-- the items of a log are those of another one, and these after them
pub record HasItems (s t : LogState) (items : List (Text × Text)) : Type 0 where
  pub settings : t.settings ≡ s.settings
  pub entries : t.entries ≡ s.entries ++ entries_of items
  pub keys : t.keys ≡ s.keys ++ keys_of items

-- so it is after a step that is taken
step_items : (s : LogState) (x : LogStep)
    → HasItems s (log_by_step x s) (items_of_step x)
step_items s (adds_items items) = record { settings = refl; entries = refl; keys = refl }
step_items s (sets_mark size) = record {
  settings = refl;
  entries = sym (append-nil s.entries);
  keys = sym (append-nil s.keys);
}
step_items s (stores_tiles size) = record {
  settings = refl;
  entries = sym (append-nil s.entries);
  keys = sym (append-nil s.keys);
}
step_items s (switches index) = record {
  settings = refl;
  entries = sym (append-nil s.entries);
  keys = sym (append-nil s.keys);
}
step_items s unknown_step = record {
  settings = refl;
  entries = sym (append-nil s.entries);
  keys = sym (append-nil s.keys);
}

pub next_items : (h : HashFunction) (s t : LogState) (body : Text) → next_log h s body ≡ Some t
    → HasItems s t (added_items body)
unfolding next_log
next_items h s t body is =
    let x = log_step_in body in
    let made = when (takes_log_step h (view_in s) x) (log_by_step x s) t is in
    subst (λ (u : LogState). HasItems s u (added_items body)) made
    (subst (λ l. HasItems s (log_by_step x s) l) (sym (step_items_are body)) (step_items s x))

pub following_items : (h : HashFunction) (k : ℕ) (s t : LogState) (bodies : List Text)
    → taken_from (log_fold h) k s bodies ≡ Ok t → HasItems s t (later_items bodies)
unfolding taken_from
following_items h k s t [] is =
    let same = ok_is ℕ s t is in
    record {
      settings = sym (ap (λ (u : LogState). u.settings) same);
      entries = sym (ap (λ (u : LogState). u.entries) same) ∙ sym (append-nil s.entries);
      keys = sym (ap (λ (u : LogState). u.keys) same) ∙ sym (append-nil s.keys);
    }
following_items h k s t (body ∷ bodies) is =
    let step = bind_ok (some_or k (next_log h s body))
    (λ (u : LogState). taken_from (log_fold h) (k + 1) u bodies) t is in
    let one = next_items h s step.0 body (some_or_ok k (next_log h s body) step.0 step.1) in
    let rest = following_items h (k + 1) step.0 t bodies step.2 in
    record {
      settings = rest.settings ∙ one.settings;
      entries = joined s.entries (λ item. item.0) _ _ (added_items body)
          (later_items bodies) one.entries rest.entries;
      keys = joined s.keys (λ item. item.1) _ _ (added_items body)
          (later_items bodies) one.keys rest.keys;
    }
  where
    joined : (xs : List Text) (f : Text × Text → Text) (mid new : List Text)
        (first rest : List (Text × Text)) → mid ≡ xs ++ map f first → new ≡ mid ++ map f rest
        → new ≡ xs ++ map f (first ++ rest)
    joined xs f mid new first rest one two =
        two ∙ ap (λ (l : List Text). l ++ map f rest) one
        ∙ append_assoc xs (map f first) (map f rest)
        ∙ ap (λ (l : List Text). xs ++ l) (sym (map-append f first rest))

-- what follows settings that were read
has_begun : (h : HashFunction) (first : Text) (bodies : List Text) (s t : LogState)
    (o : Option Settings) → settings_in first ≡ o → option_map new_log o ≡ Some s
    → taken_from (log_fold h) 1 s bodies ≡ Ok t
    → (settings_in first ≡ Some t.settings) × (log_after h t.settings bodies ≡ Ok t)
has_begun h first bodies s t None found is rest = let wrong : None ≡ Some s = is in absurd cc
has_begun h first bodies s t (Some x) found is rest =
    let made = same_Some (new_log x) s is in
    let rest_is : taken_from (log_fold h) 1 (new_log x) bodies ≡ Ok t
    = ap (λ (u : LogState). taken_from (log_fold h) 1 u bodies) made ∙ rest in
    let same : t.settings ≡ x = (following_items h 1 (new_log x) t bodies rest_is).settings in (
      found ∙ ap Some (sym same),
      ap (λ (y : Settings). taken_from (log_fold h) 1 (new_log y) bodies) same ∙ rest_is,
    )

no_log : (k : ℕ) (t : LogState) → Err k ≡ Ok t → ⊥
no_log k t is = cc

pub only_begins : (h : HashFunction) (list : List Text) (t : LogState) → log_of h list ≡ Ok t
    → (first : Text) × ((bodies : List Text) × ((list ≡ first ∷ bodies)
    × (settings_in first ≡ Some t.settings) × (log_after h t.settings bodies ≡ Ok t)))
unfolding state_after begun_log
only_begins h [] t is = absurd (no_log 0 t is)
only_begins h (first ∷ bodies) t is =
    let step = bind_ok (some_or 0 (begun_log first))
    (λ (u : LogState). taken_from (log_fold h) 1 u bodies) t is in
    let facts = has_begun h first bodies step.0 t (settings_in first) refl
    (some_or_ok 0 (begun_log first) step.0 step.1) step.2 in
    (first, (bodies, (refl, facts.0, facts.1)))
