-- The records of a log are read as they are encoded.
use Rattle.std.proofs.Common.{◌≡◌, ℕ, ◌+◌, ◌%◌, ◌^◌, ◌==◌, ◌<◌, ◌≤◌, if◌then◌else◌, Bool, arith}
use Rattle.std.proofs.Common.{true, false, List, [], ◌∷◌, ◌++◌, length, Option, Some, None}
use Rattle.std.proofs.Common.{option_map, option_and_then, Result, Ok, Err, refl, ap, ◌∙◌}
use Rattle.std.proofs.Common.{◌&&◌, nat_le, subst, sym}
use Rattle.std.specs.Option.{unwrap_or}
use Rattle.std.specs.Prelude.{flat_map}
use Rattle.std.proofs.lemmas.Bool.{and_parts, leb-true}
use Rattle.std.proofs.lemmas.Option.{same_Some}
use Rattle.std.specs.Borrow.{Bor}
use Rattle.std.specs.Int.{w8, w16, w32, w64}
use Rattle.std.proofs.lemmas.Bool.{eq-eqb, le-leb, lt-ltb, eqb-true}
use Rattle.std.proofs.lemmas.List.{length-append}
use Rattle.byte_formats.specs.Offsets.{At, at, IsBytes}
use Rattle.byte_formats.specs.Forms.{IsForm, Anything, Nothing, both, FitsBoth}
use Rattle.byte_formats.specs.Lists.{up_to_end}
use Rattle.byte_formats.specs.Readings.{whole_of}
use Rattle.byte_formats.proofs.FormLaws.{then_form, whole_again, whole_takes}
use Rattle.byte_formats.proofs.FormLists.{many_form}
use Rattle.byte_formats.proofs.Values.{when_some}
use Rattle.tls_wire.specs.Arcs.{IsAnchorId}
use Rattle.tls_wire.specs.Anchors.{anchor_of}
use Rattle.tls_wire.specs.Reading.{number_at}
use Rattle.tls_wire.specs.Encoding.{number, vector}
use Rattle.tls_wire.specs.declared.cursor.Short.{Short}
use Rattle.tls_wire.proofs.Numbers.{wide8, wide16, wide32, number_form, word_form}
use Rattle.tls_wire.proofs.Vectors.{vector_form}
use Rattle.tls_wire.proofs.AnchorForm.{anchor_again}
use Rattle.landmarks.specs.Limits.{most_active, most_entries}
use Rattle.issuance_log.specs.Folds.{LogState, new_log, with_item, with_mark, with_tiles, view_in}
use Rattle.issuance_log.specs.Folds.{begun_log, log_after_step, log_form, next_log, log_fold}
use Rattle.issuance_log.specs.Folds.{log_of, takes_items, takes_landmark, takes_switch, takes_tiles}
use Rattle.issuance_log.specs.Folds.{with_items, with_switch}
use Rattle.issuance_log.specs.LogSteps.{LogStep, adds_items, log_step_in, sets_mark, stores_tiles}
use Rattle.issuance_log.specs.LogSteps.{switches}
use Rattle.issuance_log.specs.Marks.{last_mark}
use Rattle.log_entry.specs.Matching.{has_form, matches}
use Rattle.issuance_log.specs.Records.{CanBeBatch, HaveShortItems, added_in, added_items}
use Rattle.issuance_log.specs.Records.{batch_at, batch_in}
use Rattle.issuance_log.specs.Records.{batch_record, batch_tag, counted_items, item_text}
use Rattle.issuance_log.specs.Records.{log_tag, entry_tag, landmark_tag, tiles_tag, settings_at}
use Rattle.issuance_log.specs.Records.{entry_at, entry_record, tiled_in, tiles_record}
use Rattle.issuance_log.specs.Records.{with_id, log_settings_with, tagged, settings_in}
use Rattle.issuance_log.specs.Records.{item_in, mark_in, settings_record, size_in, size_record}
use Rattle.issuance_log.specs.Records.{IsShort, landmark_record, switch_record, switch_tag}
use Rattle.issuance_log.specs.Results.{LogFinds}
use Rattle.issuance_log.specs.declared.error.RecordError.{RecordError}
use Rattle.issuance_log.specs.declared.error.RecordError.TheVariants.{Unfit, Memory}
use Rattle.issuance_log.specs.Settings.{Settings, most_item, are_allowed, AreAllowed}
use Rattle.issuance_log.proofs.Steps.{added_by_batch, added_by_entry, added_none, items_are}
use Rattle.issuance_log.proofs.Steps.{items_of_entry, says_items, says_mark, says_switch}
use Rattle.issuance_log.proofs.Steps.{says_tiles}
use Rattle.journal_core.proofs.Folds.{state_begins, state_next}

pub length-settings : (s : Settings) → length (settings_record s) ≡ 10 + length s.id
unfolding settings_record
length-settings s = simp length-append (omega arith)

pub length-entry : (entry key : List ℕ)
    → length (entry_record entry key) ≡ 5 + length entry + length key
unfolding entry_record
length-entry entry key = simp length-append (omega arith)

pub length-size : (tag size : ℕ) → length (size_record tag size) ≡ 9
unfolding size_record
length-size tag size = simp length-append (omega arith)

-- ---- a form after its tag

module _ {X : Type 0} (wanted : ℕ) (small : wanted < 256) {encode : X → List ℕ} {Fits : X
    → Type 0} {Follows : List ℕ → Type 0} {read : At → Result (X × At) Short}
    (form : IsForm encode Fits Follows read) where
  pub tagged_again : Follows [] → (x : X) → Fits x
      → tagged wanted read (number_at w8 (at (number w8 wanted ++ encode x) 0)) ≡ Some x
  tagged_again ended x fits =
      let tag = (number_form w8 (2 ^ 8) wide8).again wanted 0 (encode x) small tt in
      ap (tagged wanted read) tag ∙ rw (eq-eqb wanted wanted refl) (whole_again form ended x 1 fits)

  pub tagged_takes : (body : List ℕ) (x : X) → IsBytes body
      → tagged wanted read (number_at w8 (at body 0)) ≡ Some x
      → (body ≡ number w8 wanted ++ encode x) × Fits x
  tagged_takes body x bytes is = go (number_at w8 (at body 0)) refl is
    where
      chosen_some : (b : Bool) (o : Option X) → (if b then o else None) ≡ Some x → (b ≡ true)
          × (o ≡ Some x)
      chosen_some true o is = (refl, is)
      chosen_some false o is = let wrong : None ≡ Some x = is in cc

      go : (r : Result (ℕ × At) Short) → number_at w8 (at body 0) ≡ r
          → tagged wanted read r ≡ Some x → (body ≡ number w8 wanted ++ encode x) × Fits x
      go (Err short) was is = let wrong : None ≡ Some x = is in cc
      go (Ok tag) was is =
          let test = chosen_some (tag.0 == wanted) (whole_of (read tag.1)) is in
          let one = (number_form w8 (2 ^ 8) wide8).takes (at body 0) tag.0 tag.1 bytes was in
          let two = whole_takes form tag.1 x one.0.bytes test.1 in (
            one.0.parts ∙ ap (λ (rest : List ℕ). number w8 tag.0 ++ rest) two.0
                ∙ ap (λ (m : ℕ). number w8 m ++ encode x) (eqb-true tag.0 wanted test.0),
            two.1,
          )

-- ---- an Entry

pub entry_form : IsForm (both (vector w16) (vector w16)) (FitsBoth IsShort IsShort)
    Anything entry_at
unfolding entry_at
entry_form = then_form (vector_form w16 (2 ^ 16) wide16) (vector_form w16 (2 ^ 16) wide16)

pub item_again : (entry key : List ℕ) → IsShort entry → IsShort key
    → item_in (entry_record entry key) ≡ Some (entry, key)
unfolding item_in entry_record
item_again entry key few_entry few_key =
    tagged_again entry_tag (omega arith) entry_form tt (entry, key) (few_entry, few_key)

pub item_takes : (body entry key : List ℕ) → IsBytes body → item_in body ≡ Some (entry, key)
    → (body ≡ entry_record entry key) × IsShort entry × IsShort key
unfolding item_in entry_record
item_takes body entry key bytes is =
    let taken = tagged_takes entry_tag (omega arith) entry_form body (entry, key) bytes is in
    (taken.0, taken.1.0, taken.1.1)

-- a record in which no item is found
pub no_item : (body : List ℕ) (why : RecordError) → why ≡ Unfit
    → LogFinds {X = Bor (List ℕ) × Bor (List ℕ)} (λ x. (x.0.now, x.1.now)) (item_in body) (Err why)
    → item_in body ≡ None
no_item body Unfit is none = none
no_item body Memory is none = let wrong : Memory ≡ Unfit = is in cc

-- ---- a Batch

pub item_some : (x : List ℕ × List ℕ) → FitsBoth IsShort IsShort x → 0 < length (item_text x)
item_some x fits =
    let size = length-append (vector w16 x.0) (vector w16 x.1) in
    let first = length-append (number w16 (length x.0)) x.0 in
    omega arith

-- the items of a Batch, each as that of an Entry
pub items_form : IsForm (flat_map item_text) HaveShortItems Nothing (up_to_end entry_at)
items_form = many_form entry_form item_some

batch_form : IsForm (both (number w16) (flat_map item_text))
    (FitsBoth (λ (n : ℕ). n < 2 ^ 16) HaveShortItems) Nothing batch_at
unfolding batch_at
batch_form = then_form (number_form w16 (2 ^ 16) wide16) items_form

pub batch_again : (items : List (List ℕ × List ℕ)) → CanBeBatch items
    → batch_in (batch_record items) ≡ Some items
unfolding batch_in batch_record
batch_again items can =
    ap (option_and_then counted_items) (tagged_again batch_tag (omega arith) batch_form refl
    (length items, items) (can.few, can.short))
    ∙ rw (
      eq-eqb (length items) (length items) refl,
      le-leb 1 (length items) can.some,
    ) refl

-- the items that were counted
pub counted_from : (o : Option (ℕ × List (List ℕ × List ℕ))) (items : List (List ℕ × List ℕ))
    → option_and_then counted_items o ≡ Some items
    → (x : ℕ × List (List ℕ × List ℕ)) × (o ≡ Some x) × (counted_items x ≡ Some items)
counted_from None items is = let wrong : None ≡ Some items = is in absurd cc
counted_from (Some x) items is = (x, refl, is)

pub batch_takes : (body : List ℕ) (items : List (List ℕ × List ℕ)) → IsBytes body
    → batch_in body ≡ Some items → (body ≡ batch_record items) × CanBeBatch items
unfolding batch_in batch_record
batch_takes body items bytes is =
    let found = counted_from (tagged batch_tag batch_at (number_at w8 (at body 0))) items is in
    let count = found.0.0 in
    let all = found.0.1 in
    let encoded = tagged_takes batch_tag (omega arith) batch_form body found.0 bytes found.1 in
    let tests = when_some ((count == length all) && nat_le 1 count) (Some all) items found.2 in
    let both_tests = and_parts (count == length all) (nat_le 1 count) tests.0 in
    let same : count ≡ length all = eqb-true count (length all) both_tests.0 in
    let some = leb-true 1 count both_tests.1 in
    subst (λ (l : List (List ℕ × List ℕ)). (body ≡ number w8 batch_tag
    ++ (number w16 (length l) ++ flat_map item_text l)) × CanBeBatch l)
    (same_Some all items tests.1) (
      encoded.0 ∙ ap (λ (n : ℕ). number w8 batch_tag ++ (number w16 n ++ flat_map item_text all))
          same,
      record {
        some = subst (λ (n : ℕ). 1 ≤ n) same some;
        few = subst (λ (n : ℕ). n < 65536) same encoded.1.0;
        short = encoded.1.1;
      },
    )

-- a Batch is no Entry
pub batch_no_item : (items : List (List ℕ × List ℕ)) → item_in (batch_record items) ≡ None
unfolding item_in batch_record
batch_no_item items = ap (tagged entry_tag entry_at)
    ((number_form w8 (2 ^ 8) wide8).again batch_tag 0
    (number w16 (length items) ++ flat_map item_text items) (omega arith) tt)

pub batch_adds : (items : List (List ℕ × List ℕ)) → CanBeBatch items
    → added_in (batch_record items) ≡ Some items
batch_adds items can =
    added_by_batch (batch_record items) items (batch_no_item items) (batch_again items can)

-- the lengths of what a record adds fit two bytes
pub added_short : (body : List ℕ) → IsBytes body → HaveShortItems (added_items body)
added_short body bytes = go (item_in body) (batch_in body) refl refl
  where
    go : (item : Option (List ℕ × List ℕ)) (batch : Option (List (List ℕ × List ℕ)))
        → item_in body ≡ item → batch_in body ≡ batch → HaveShortItems (added_items body)
    go (Some x) batch one two =
        let takes = item_takes body x.0 x.1 bytes one in
        subst HaveShortItems (sym (items_of_entry body x one)) ((takes.1, takes.2), tt)
    go None (Some items) one two =
        subst HaveShortItems (sym (items_are body items (added_by_batch body items one two)))
        (batch_takes body items bytes two).1.short
    go None None one two =
        subst HaveShortItems (sym (ap (λ o. unwrap_or o []) (added_none body one two))) tt

-- the log after a record that says this
pub next_says : (h : List ℕ → List ℕ) (s : LogState) (body : List ℕ) (x : LogStep)
    → log_step_in body ≡ x
    → next_log h s body ≡ log_after_step h s x
unfolding next_log
next_says h s body x is = ap (log_after_step h s) is

-- ---- a Landmark and a Tiles

abbrev pub IsLong : ℕ → Type 0
IsLong n = n < 2 ^ 64

module _ (tag : ℕ) (small : tag < 256) where
  pub size_again : (size : ℕ) → size < 2 ^ 64 → size_in tag (size_record tag size) ≡ Some size
  unfolding size_in size_record
  size_again = tagged_again tag small word_form tt

  pub size_takes : (body : List ℕ) (size : ℕ) → IsBytes body → size_in tag body ≡ Some size
      → (body ≡ size_record tag size) × (size < 2 ^ 64)
  unfolding size_in size_record
  size_takes = tagged_takes tag small word_form

-- a Landmark is no Entry
pub mark_alone : (size : ℕ) → item_in (landmark_record size) ≡ None
unfolding item_in size_record
mark_alone size = ap (tagged entry_tag entry_at)
    ((number_form w8 (2 ^ 8) wide8).again landmark_tag 0 (number w64 size) (omega arith) tt)

mark_no_batch : (size : ℕ) → batch_in (landmark_record size) ≡ None
unfolding batch_in size_record
mark_no_batch size = ap (λ r. option_and_then counted_items (tagged batch_tag batch_at r))
    ((number_form w8 (2 ^ 8) wide8).again landmark_tag 0 (number w64 size) (omega arith) tt)

pub mark_adds_none : (size : ℕ) → added_in (landmark_record size) ≡ None
mark_adds_none size =
    added_none (landmark_record size) (mark_alone size) (mark_no_batch size)

-- a Tiles is neither an Entry nor a Landmark
pub tiles_no_item : (size : ℕ) → item_in (tiles_record size) ≡ None
unfolding item_in size_record
tiles_no_item size = ap (tagged entry_tag entry_at)
    ((number_form w8 (2 ^ 8) wide8).again tiles_tag 0 (number w64 size) (omega arith) tt)

tiles_no_batch : (size : ℕ) → batch_in (tiles_record size) ≡ None
unfolding batch_in size_record
tiles_no_batch size = ap (λ r. option_and_then counted_items (tagged batch_tag batch_at r))
    ((number_form w8 (2 ^ 8) wide8).again tiles_tag 0 (number w64 size) (omega arith) tt)

pub tiles_add_none : (size : ℕ) → added_in (tiles_record size) ≡ None
tiles_add_none size = added_none (tiles_record size) (tiles_no_item size) (tiles_no_batch size)

pub tiles_no_mark : (size : ℕ) → mark_in (tiles_record size) ≡ None
unfolding size_in size_record
tiles_no_mark size = ap (tagged landmark_tag (number_at w64))
    ((number_form w8 (2 ^ 8) wide8).again tiles_tag 0 (number w64 size) (omega arith) tt)

-- a Switch is none of these
pub switch_no_item : (size : ℕ) → item_in (switch_record size) ≡ None
unfolding item_in size_record
switch_no_item size = ap (tagged entry_tag entry_at)
    ((number_form w8 (2 ^ 8) wide8).again switch_tag 0 (number w64 size) (omega arith) tt)

switch_no_batch : (size : ℕ) → batch_in (switch_record size) ≡ None
unfolding batch_in size_record
switch_no_batch size = ap (λ r. option_and_then counted_items (tagged batch_tag batch_at r))
    ((number_form w8 (2 ^ 8) wide8).again switch_tag 0 (number w64 size) (omega arith) tt)

pub switch_adds_none : (size : ℕ) → added_in (switch_record size) ≡ None
switch_adds_none size =
    added_none (switch_record size) (switch_no_item size) (switch_no_batch size)

pub switch_no_mark : (size : ℕ) → mark_in (switch_record size) ≡ None
unfolding size_in size_record
switch_no_mark size = ap (tagged landmark_tag (number_at w64))
    ((number_form w8 (2 ^ 8) wide8).again switch_tag 0 (number w64 size) (omega arith) tt)

pub switch_no_tiles : (size : ℕ) → tiled_in (switch_record size) ≡ None
unfolding size_in size_record
switch_no_tiles size = ap (tagged tiles_tag (number_at w64))
    ((number_form w8 (2 ^ 8) wide8).again switch_tag 0 (number w64 size) (omega arith) tt)

-- ---- a Log

abbrev pub settings_text : List ℕ × (ℕ × ℕ) → List ℕ
settings_text = both (vector w8) (both (number w32) (number w32))

abbrev ShortId : List ℕ → Type 0
ShortId bytes = length bytes < 2 ^ 8

abbrev IsWord : ℕ → Type 0
IsWord n = n < 2 ^ 32

abbrev pub FitSettings : List ℕ × (ℕ × ℕ) → Type 0
FitSettings = FitsBoth ShortId (FitsBoth IsWord IsWord)

pub settings_form : IsForm settings_text FitSettings Anything settings_at
unfolding settings_at
settings_form =
    let numbers = number_form w32 (2 ^ 32) wide32 in
    then_form (vector_form w8 (2 ^ 8) wide8) (then_form numbers numbers)

tests_allowed : (active limit : ℕ) → AreAllowed active limit → are_allowed active limit ≡ true
tests_allowed active limit is =
    rw (
      le-leb 1 active is.some_active,
      le-leb active most_active is.few_active,
      le-leb 2 limit is.some,
      le-leb limit most_entries is.few,
    ) refl

pub settings_again : (s : Settings) → IsAnchorId s.id → AreAllowed s.max_active s.limit
    → settings_in (settings_record s) ≡ Some s
unfolding settings_in settings_record
settings_again s id allowed =
    let active = allowed.few_active in
    let limit = allowed.few in
    let short = id.short in
    let fits : FitSettings (s.id, (s.max_active, s.limit)) =
    (omega arith, (omega arith, omega arith)) in
    ap (option_and_then log_settings_with) (tagged_again log_tag (omega arith) settings_form tt
    (s.id, (s.max_active, s.limit)) fits)
    ∙ ap (λ (b : Bool). if b then with_id s.max_active s.limit (anchor_of s.id) else None)
    (tests_allowed s.max_active s.limit allowed)
    ∙ ap (with_id s.max_active s.limit) (anchor_again s.id id)

-- ---- a journal of records as they are encoded

-- of a Log
pub log_created : (h : List ℕ → List ℕ) (s : Settings) → IsAnchorId s.id
    → AreAllowed s.max_active s.limit → log_of h (settings_record s ∷ []) ≡ Ok (new_log s)
unfolding begun_log
log_created h s id allowed = state_begins (log_fold h) (settings_record s) (new_log s)
    (ap (option_map new_log) (settings_again s id allowed))

-- of one Entry more
pub next_added : (h : List ℕ → List ℕ) (s : LogState) (entry key : List ℕ)
    → length s.entries < s.settings.limit → IsShort entry → IsShort key
    → has_form (log_form (view_in s)) entry ≡ true → matches h entry key ≡ true
    → next_log h s (entry_record entry key) ≡ Some (with_item entry key s)
next_added h s entry key capacity few_entry few_key form belongs =
    let test : takes_items h (view_in s) ((entry, key) ∷ []) ≡ true =
    rw (lt-ltb (length s.entries) s.settings.limit capacity, form, belongs) refl in
    next_says h s (entry_record entry key) (adds_items ((entry, key) ∷ []))
    (says_items (entry_record entry key) ((entry, key) ∷ []) (added_by_entry
    (entry_record entry key) (entry, key) (item_again entry key few_entry few_key)))
    ∙ ap (λ (b : Bool). if b then Some (with_item entry key s) else None) test

-- of one Batch more
pub next_batched : (h : List ℕ → List ℕ) (s : LogState) (items : List (List ℕ × List ℕ))
    → CanBeBatch items → takes_items h (view_in s) items ≡ true
    → next_log h s (batch_record items) ≡ Some (with_items items s)
next_batched h s items can taken =
    next_says h s (batch_record items) (adds_items items)
    (says_items (batch_record items) items (batch_adds items can))
    ∙ ap (λ (b : Bool). if b then Some (with_items items s) else None) taken

-- of one Landmark more
pub next_marked : (h : List ℕ → List ℕ) (s : LogState) → length s.entries < 2 ^ 64
    → last_mark s.marks < length s.entries
    → next_log h s (landmark_record (length s.entries)) ≡ Some (with_mark s)
next_marked h s fits above =
    let size = length s.entries in
    let test : takes_landmark (view_in s) size ≡ true =
    rw (eq-eqb size size refl, lt-ltb (last_mark s.marks) size above) refl in
    next_says h s (landmark_record size) (sets_mark size)
    (says_mark (landmark_record size) size (mark_adds_none size)
    (size_again landmark_tag (omega arith) size fits))
    ∙ ap (λ (b : Bool). if b then Some (with_mark s) else None) test

-- of one Tiles more
pub next_tiled : (h : List ℕ → List ℕ) (s : LogState) (size : ℕ) → size < 2 ^ 64
    → size % 256 ≡ 0 → s.tiled < size → size ≤ length s.entries
    → next_log h s (tiles_record size) ≡ Some (with_tiles size s)
next_tiled h s size fits multiple above within =
    let test : takes_tiles (view_in s) size ≡ true =
    rw (
      eq-eqb (size % 256) 0 multiple,
      lt-ltb s.tiled size above,
      le-leb size (length s.entries) within,
    ) refl in
    next_says h s (tiles_record size) (stores_tiles size)
    (says_tiles (tiles_record size) size (tiles_add_none size) (tiles_no_mark size)
    (size_again tiles_tag (omega arith) size fits))
    ∙ ap (λ (b : Bool). if b then Some (with_tiles size s) else None) test

-- of the Switch
pub next_switched : (h : List ℕ → List ℕ) (s : LogState) → length s.entries < 2 ^ 64
    → s.switched ≡ None → next_log h s (switch_record (length s.entries)) ≡ Some (with_switch s)
next_switched h s fits first =
    let size = length s.entries in
    let test : takes_switch (view_in s) size ≡ true = rw (first, eq-eqb size size refl) refl in
    next_says h s (switch_record size) (switches size)
    (says_switch (switch_record size) size (switch_adds_none size) (switch_no_mark size)
    (switch_no_tiles size) (size_again switch_tag (omega arith) size fits))
    ∙ ap (λ (b : Bool). if b then Some (with_switch s) else None) test

pub log_added : (h : List ℕ → List ℕ) (list : List (List ℕ)) (s : LogState) (entry key : List ℕ)
    → log_of h list ≡ Ok s → length s.entries < s.settings.limit
    → length entry + length key ≤ most_item → has_form (log_form (view_in s)) entry ≡ true
    → matches h entry key ≡ true
    → log_of h (list ++ entry_record entry key ∷ []) ≡ Ok (with_item entry key s)
log_added h list s entry key is capacity few form belongs =
    state_next (log_fold h) list s (entry_record entry key) (with_item entry key s) is
    (next_added h s entry key capacity (omega arith) (omega arith) form belongs)
