-- A record more of a journal that is read, as a log keeps it.
use Rattle.std.proofs.Common.{◌≡◌, ℕ, ◌<◌, ◌≤◌, List, [], ◌∷◌, ◌++◌, length, Option}
use Rattle.std.proofs.Common.{Some, None, IfSome, option_map, Ok, refl, ap, sym, subst, ◌∙◌, arith}
use Rattle.std.proofs.Common.{◌%◌, ◌==◌, ◌&&◌, nat_le, nat_lt, true, false}
use Rattle.std.specs.Prelude.{is_none, map}
use Rattle.std.proofs.lemmas.Bool.{and_parts, eqb-true, leb-true, ltb-true}
use Rattle.std.proofs.lemmas.List.{append-nil, append_assoc, map-append}
use Rattle.std.proofs.lemmas.Option.{same_Some}
use Rattle.byte_formats.specs.Types.{Text, HashFunction}
use Rattle.byte_formats.proofs.Values.{map_some, when_some}
use Rattle.journal_core.specs.Format.{following}
use Rattle.journal_core.proofs.Folds.{state_begins, state_next}
use Rattle.log_entry.specs.Matching.{has_form, matches}
use Rattle.tree_core.specs.Tree.{leaf_hash}
use Rattle.issuance_log.specs.Folds.{LogState, LogView, begun_log, log_fold, log_of, new_log}
use Rattle.issuance_log.specs.Folds.{log_by_step, log_form, next_log, next_view, null_entry}
use Rattle.issuance_log.specs.Folds.{one_item_more, takes_entry, takes_items, takes_log_step}
use Rattle.issuance_log.specs.Folds.{view_in, with_item, with_items, with_mark, with_tiles}
use Rattle.issuance_log.specs.Items.{AreKept}
use Rattle.issuance_log.specs.LogSteps.{LogStep, adds_items, log_step_in, sets_mark, stores_tiles}
use Rattle.issuance_log.specs.LogSteps.{switches, unknown_step}
use Rattle.issuance_log.specs.Marks.{last_mark}
use Rattle.issuance_log.specs.ItemOffsets.{offsets_after, places_in}
use Rattle.issuance_log.specs.Records.{HaveShortItems, IsShort, added_items, settings_in}
use Rattle.issuance_log.specs.Settings.{Settings}
use Rattle.issuance_log.specs.Shown.{recorded_items, shown_with}
use Rattle.issuance_log.specs.Sound.{HasSoundNumbers, IsSound}
use Rattle.issuance_log.proofs.After.{entries_of, next_items}
use Rattle.issuance_log.proofs.Growth.{none_is, numbers_marked, numbers_tiled, sound_switched}
use Rattle.issuance_log.proofs.Growth.{sound_with}
use Rattle.issuance_log.proofs.Shown.{all_shown, shown_size, shown_so}
use Rattle.issuance_log.proofs.Shown.{shown_view}
use Rattle.issuance_log.proofs.Standing.{offsets_with}
use Rattle.issuance_log.proofs.Steps.{items_of_step, step_items_are}
use Rattle.issuance_log.proofs.Views.{view_item, views_follow}

-- ---- sound with one record more

sound_marked : (h : HashFunction) (s : LogState) → IsSound h s
    → last_mark s.marks < length s.entries → IsSound h (with_mark s)
sound_marked h s is above = record {
  numbers = numbers_marked (view_in s) is.numbers above;
  even = is.even;
  first_entry = is.first_entry;
  first_key = is.first_key;
  items = is.items;
}

sound_tiled : (h : HashFunction) (s : LogState) (size : ℕ) → IsSound h s → size % 256 ≡ 0
    → size ≤ length s.entries → IsSound h (with_tiles size s)
sound_tiled h s size is multiple within = record {
  numbers = numbers_tiled (view_in s) size is.numbers multiple within;
  even = is.even;
  first_entry = is.first_entry;
  first_key = is.first_key;
  items = is.items;
}

-- with one item that is taken
sound_one : (h : HashFunction) (s : LogState) (x : Text × Text) → IsSound h s
    → IsShort x.0 × IsShort x.1 → takes_entry h (view_in s) x ≡ true
    → IsSound h (with_item x.0 x.1 s)
sound_one h s x sound short takes =
    let form = log_form (view_in s) in
    let tests = and_parts (nat_lt (length s.entries) s.settings.limit)
    (has_form form x.0 && matches h x.0 x.1) takes in
    let belongs = and_parts (has_form form x.0) (matches h x.0 x.1) tests.1 in
    sound_with h s x.0 x.1 sound (ltb-true (length s.entries) s.settings.limit tests.0)
    (record {
      form_is = belongs.0;
      belongs = belongs.1;
      short_entry = short.0;
      short_key = short.1;
    })

-- other entries and keys
same_lists : (s : LogState) (entries keys entries' keys' : List Text) → entries ≡ entries'
    → keys ≡ keys' → record s { entries = entries; keys = keys }
    ≡ record s { entries = entries'; keys = keys' }
same_lists s entries keys entries' keys' one two = cc

with_none : (s : LogState) → with_items [] s ≡ s
with_none s = same_lists s _ _ _ _ (append-nil s.entries) (append-nil s.keys)

with_later : (s : LogState) (x : Text × Text) (items : List (Text × Text))
    → with_items items (with_item x.0 x.1 s) ≡ with_items (x ∷ items) s
with_later s x items = same_lists s _ _ _ _
    (append_assoc s.entries (x.0 ∷ []) (map (λ item. item.0) items))
    (append_assoc s.keys (x.1 ∷ []) (map (λ item. item.1) items))

-- with several, each of which is taken after those before it
sound_items : (h : HashFunction) (s : LogState) (items : List (Text × Text)) → IsSound h s
    → HaveShortItems items → takes_items h (view_in s) items ≡ true
    → IsSound h (with_items items s)
sound_items h s [] sound short takes = subst (IsSound h) (sym (with_none s)) sound
sound_items h s (x ∷ items) sound short takes =
    let tests = and_parts (takes_entry h (view_in s) x)
    (takes_items h (one_item_more (view_in s)) items) takes in
    subst (IsSound h) (with_later s x items)
    (sound_items h (with_item x.0 x.1 s) items (sound_one h s x sound short.0 tests.0) short.1
    (subst (λ (v : LogView). takes_items h v items ≡ true) (sym (view_item s x.0 x.1)) tests.1))

-- so it is with a step that is taken
sound_step : (h : HashFunction) (s : LogState) (x : LogStep) → IsSound h s
    → HaveShortItems (items_of_step x) → takes_log_step h (view_in s) x ≡ true
    → IsSound h (log_by_step x s)
sound_step h s (adds_items items) sound short takes = sound_items h s items sound short takes
sound_step h s (sets_mark size) sound short takes =
    let tests = and_parts (size == length s.entries) (nat_lt (last_mark s.marks) size) takes in
    let same : size ≡ length s.entries = eqb-true size (length s.entries) tests.0 in
    sound_marked h s sound
    (subst (λ (n : ℕ). last_mark s.marks < n) same (ltb-true (last_mark s.marks) size tests.1))
sound_step h s (stores_tiles size) sound short takes =
    let tests = and_parts (size % 256 == 0)
    (nat_lt s.tiled size && nat_le size (length s.entries)) takes in
    let both = and_parts (nat_lt s.tiled size) (nat_le size (length s.entries)) tests.1 in
    sound_tiled h s size sound (eqb-true (size % 256) 0 tests.0)
    (leb-true size (length s.entries) both.1)
sound_step h s (switches index) sound short takes =
    let tests = and_parts (is_none s.switched) (index == length s.entries) takes in
    sound_switched h s sound (none_is s.switched tests.0)
sound_step h s unknown_step sound short takes = let wrong : false ≡ true = takes in absurd cc

pub sound_next : (h : HashFunction) (s t : LogState) (body : Text) → IsSound h s
    → HaveShortItems (added_items body) → next_log h s body ≡ Some t → IsSound h t
unfolding next_log
sound_next h s t body sound short is =
    let x = log_step_in body in
    let made = when_some (takes_log_step h (view_in s) x) (Some (log_by_step x s)) t is in
    subst (IsSound h) (same_Some (log_by_step x s) t made.1)
    (sound_step h s x sound (subst HaveShortItems (step_items_are body) short) made.0)

-- ---- what a record makes of the log that is shown

-- The log that it makes, of which this is shown.
pub next_of : (h : HashFunction) (v w : LogView) (list : List Text) (body : Text)
    → v.size ≡ length (recorded_items list) → next_view h v body ≡ Some w
    → (t : LogState) × (next_log h (shown_with v list) body ≡ Some t) × (view_in t ≡ w)
next_of h v w list body all is =
    map_some view_in (next_log h (shown_with v list) body) w
    (sym (views_follow h (shown_with v list) body)
    ∙ ap (λ (u : LogView). next_view h u body) (shown_view v list all) ∙ is)

-- It is what is shown after the record.
pub shown_next : (h : HashFunction) (v w : LogView) (list : List Text) (body : Text) (u : LogState)
    → log_of h list ≡ Ok (shown_with v list) → v.size ≡ length (recorded_items list)
    → next_view h v body ≡ Some w → next_log h (shown_with v list) body ≡ Some u
    → shown_with w (list ++ body ∷ []) ≡ u
shown_next h v w list body u made all next is =
    let more : List Text = list ++ body ∷ [] in
    let step = next_of h v w list body all next in
    let same : step.0 ≡ u = same_Some step.0 u (sym step.1 ∙ is) in
    let log_is : log_of h more ≡ Ok u = state_next (log_fold h) list (shown_with v list) body u
    made is in
    ap (λ (x : LogView). shown_with x more) (sym (sym (ap view_in same) ∙ step.2))
    ∙ shown_so h more u log_is

hashed_twice : (h : HashFunction) (items : List (Text × Text))
    → map (leaf_hash h) (entries_of items) ≡ map (λ y. leaf_hash h y.0) items
hashed_twice h [] = refl
hashed_twice h (x ∷ items) = ap (λ l. leaf_hash h x.0 ∷ l) (hashed_twice h items)

-- the hashes that are retained are these, with more of them too
hashed_with : (leaves leaves' : Option (List Text)) (old new more : List Text)
    → IfSome leaves (λ l. l ≡ old) → leaves' ≡ option_map (λ l. l ++ more) leaves
    → new ≡ old ++ more → IfSome leaves' (λ l. l ≡ new)
hashed_with None leaves' old new more was are is =
    subst (λ o. IfSome o (λ l. l ≡ new)) (sym are) tt
hashed_with (Some l) leaves' old new more was are is =
    subst (λ o. IfSome o (λ l. l ≡ new)) (sym are) (ap (λ x. x ++ more) was ∙ sym is)

-- One record more, which the log takes, is retained.
pub kept_next : (h : HashFunction) (v w : LogView) (offsets offsets' : List ℕ)
    (leaves leaves' : Option (List (List ℕ))) (first : Text) (bodies : List Text) (body : Text)
    → AreKept h v offsets leaves (first ∷ bodies) → next_view h v body ≡ Some w
    → HaveShortItems (added_items body)
    → offsets' ≡ offsets ++ places_in (following 16 (first ∷ bodies)) body
    → leaves' ≡ option_map (λ l. l ++ map (λ x. leaf_hash h x.0) (added_items body))
    leaves
    → AreKept h w offsets' leaves' ((first ∷ bodies) ++ body ∷ [])
kept_next h v w offsets offsets' leaves leaves' first bodies body is next short offsets_is
    leaves_is =
    let list : List Text = first ∷ bodies in
    let more : List Text = list ++ body ∷ [] in
    let s = shown_with v list in
    let step = next_of h v w list body is.all next in
    let t = step.0 in
    let log_is : log_of h more ≡ Ok t = state_next (log_fold h) list s body t is.made step.1 in
    let shown : shown_with w more ≡ t =
    ap (λ (u : LogView). shown_with u more) (sym step.2) ∙ shown_so h more t log_is in
    let size : w.size ≡ length (recorded_items more) =
    ap (λ (u : LogView). u.size) (sym step.2) ∙ all_shown h more t log_is in
    let items = next_items h s t body step.1 in
    record {
      made = log_is ∙ ap Ok (sym shown);
      all = size;
      offsets_are = offsets_is
          ∙ ap (λ (l : List ℕ). l ++ places_in (following 16 list) body) is.offsets_are
          ∙ sym (offsets_with first bodies body);
      sound = subst (IsSound h) (sym shown) (sound_next h s t body is.sound short step.1);
      hashed = hashed_with leaves leaves' (map (leaf_hash h) s.entries) _
          (map (λ x. leaf_hash h x.0) (added_items body)) is.hashed leaves_is
          (ap (λ (u : LogState). map (leaf_hash h) u.entries) shown
          ∙ ap (map (leaf_hash h)) items.entries
          ∙ map-append (leaf_hash h) s.entries (entries_of (added_items body))
          ∙ ap (λ x. map (leaf_hash h) s.entries ++ x)
          (hashed_twice h (added_items body)));
    }

-- This holds after any records.
pub kept_more : (h : HashFunction) (v w : LogView) (offsets offsets' : List ℕ)
    (leaves leaves' : Option (List (List ℕ))) (list : List Text) (body : Text)
    → AreKept h v offsets leaves list → next_view h v body ≡ Some w
    → HaveShortItems (added_items body)
    → offsets' ≡ offsets ++ places_in (following 16 list) body
    → leaves' ≡ option_map (λ l. l ++ map (λ x. leaf_hash h x.0) (added_items body))
    leaves
    → AreKept h w offsets' leaves' (list ++ body ∷ [])
kept_more h v w offsets offsets' leaves leaves' [] body is next short offsets_is leaves_is =
    let some = is.sound.numbers.some in
    let size = shown_size v [] is.all in
    absurd (omega (arith, is.all))
kept_more h v w offsets offsets' leaves leaves' (first ∷ bodies) body is next short offsets_is
    leaves_is =
    kept_next h v w offsets offsets' leaves leaves' first bodies body is next short offsets_is
    leaves_is

-- ---- the first record

pub sound_new : (h : HashFunction) (s : Settings) → HasSoundNumbers (view_in (new_log s))
    → IsSound h (new_log s)
sound_new h s numbers = record {
  numbers = numbers;
  even = refl;
  first_entry = refl;
  first_key = refl;
  items = λ i some below. absurd (omega (arith, some, below));
}

begun_so : (o : Option Settings) (v : LogView) → option_map view_in (option_map new_log o) ≡ Some v
    → (s : Settings) × (o ≡ Some s) × (view_in (new_log s) ≡ v)
begun_so None v is = let wrong : None ≡ Some v = is in absurd cc
begun_so (Some s) v is = (s, refl, same_Some (view_in (new_log s)) v is)

-- The log that it begins is retained.
pub kept_first : (h : HashFunction) (v : LogView) (body : Text) (offsets : List ℕ)
    (leaves leaves' : Option (List (List ℕ))) → option_map view_in (begun_log body) ≡ Some v
    → HasSoundNumbers v → offsets ≡ 0 ∷ [] → IfSome leaves (λ l. l ≡ [])
    → leaves' ≡ option_map (λ l. l ++ leaf_hash h null_entry ∷ []) leaves
    → (1 ≡ v.size) × AreKept h v offsets leaves' (body ∷ [])
unfolding begun_log offsets_after
kept_first h v body offsets leaves leaves' begun sound one none leaves_is =
    let first = begun_so (settings_in body) v begun in
    let t = new_log first.0 in
    let log_is : log_of h (body ∷ []) ≡ Ok t =
    state_begins (log_fold h) body t (ap (option_map new_log) first.1) in
    let shown : shown_with v (body ∷ []) ≡ t =
    ap (λ (u : LogView). shown_with u (body ∷ [])) (sym first.2)
    ∙ shown_so h (body ∷ []) t log_is in
    let size : 1 ≡ v.size = ap (λ (u : LogView). u.size) first.2 in (
      size,
      record {
        made = log_is ∙ ap Ok (sym shown);
        all = sym size ∙ all_shown h (body ∷ []) t log_is;
        offsets_are = one;
        sound = subst (IsSound h) (sym shown)
            (sound_new h first.0 (subst HasSoundNumbers (sym first.2) sound));
        hashed = hashed_with leaves leaves' [] _ (leaf_hash h null_entry ∷ []) none leaves_is
            (ap (λ (u : LogState). map (leaf_hash h) u.entries) shown);
      },
    )
