-- A log is what it shows over every disk, with the first items in its records.
use Rattle.std.proofs.Common.{◌≡◌, ℕ, ◌+◌, ◌≤◌, List, [], ◌∷◌, ◌++◌, length, take}
use Rattle.std.proofs.Common.{None, Ok, refl, ap, sym, ◌∙◌, arith}
use Rattle.std.specs.Prelude.{map}
use Rattle.std.specs.Option.{unwrap_or}
use Rattle.std.proofs.lemmas.List.{append-nil, length-append, length-map}
use Rattle.std.proofs.lemmas.List.{length-take-le, map-append, take-append-le, take_all}
use Rattle.std.proofs.lemmas.Grind.{flat_map-append}
use Rattle.byte_formats.specs.Types.{Text, HashFunction}
use Rattle.issuance_log.specs.Folds.{LogState, LogView, log_of, new_log, null_entry, view_in}
use Rattle.issuance_log.specs.Folds.{with_item, with_items}
use Rattle.issuance_log.specs.Records.{CanBeBatch, IsShort, added_in, added_items}
use Rattle.issuance_log.specs.Records.{batch_record, entry_record}
use Rattle.issuance_log.specs.Shown.{recorded_items, shown_with}
use Rattle.issuance_log.proofs.After.{following_items, entries_of, keys_of, later_items}
use Rattle.issuance_log.proofs.After.{only_begins}
use Rattle.issuance_log.proofs.Encoded.{batch_adds, item_again}
use Rattle.issuance_log.proofs.Steps.{items_are, items_of_entry}

-- what is shown, with these entries and keys
abbrev made : LogView → List Text → List Text → LogState
made v entries keys = record {
  settings = v.settings;
  entries = entries;
  keys = keys;
  marks = v.marks;
  tiled = v.tiled;
  switched = v.switched;
}

rebuilt : (s : LogState) (entries keys : List Text) → entries ≡ s.entries → keys ≡ s.keys
    → made (view_in s) entries keys ≡ s
rebuilt s entries keys one two =
    ap (λ e. made (view_in s) e keys) one ∙ ap (λ k. made (view_in s) s.entries k) two

same_shown : (v : LogView) (entries keys entries' keys' : List Text) → entries ≡ entries'
    → keys ≡ keys' → made v entries keys ≡ made v entries' keys'
same_shown v entries keys entries' keys' one two = cc

-- the log of records is so
pub shown_so : (h : HashFunction) (list : List Text) (s : LogState) → log_of h list ≡ Ok s
    → shown_with (view_in s) list ≡ s
shown_so h list s is =
    let begun = only_begins h list s is in
    let items : List (Text × Text) = recorded_items (begun.0 ∷ begun.1.0) in
    let has = following_items h 1 (new_log s.settings) s begun.1.0 begun.1.1.2 in
    let entries : s.entries ≡ entries_of items = has.entries in
    let keys : s.keys ≡ keys_of items = has.keys in
    let some = ap (λ (l : List Text). length l) entries ∙ length-map items (λ item. item.0) in
    let even = ap (λ (l : List Text). length l) keys ∙ length-map items (λ item. item.1) in
    let list_is = ap recorded_items begun.1.1.0 in
    let size = length s.entries in
    rebuilt s _ _
    (ap (λ l. take size (entries_of l)) list_is ∙ ap (take size) (sym entries)
    ∙ take_all size s.entries (omega arith))
    (ap (λ l. take size (keys_of l)) list_is ∙ ap (take size) (sym keys)
    ∙ take_all size s.keys (omega (arith, some, even)))

-- a record more has its items after the others
pub recorded_more : (list : List Text) (body : Text) → (rest : List (Text × Text))
    × (recorded_items (list ++ body ∷ []) ≡ recorded_items list ++ rest)
recorded_more [] body = (recorded_items (body ∷ []), refl)
recorded_more (first ∷ bodies) body = (
  later_items (body ∷ []),
  ap (λ l. (null_entry, []) ∷ l)
      (flat_map-append added_items bodies (body ∷ [])),
)

first_same : (f : Text × Text → Text) (n : ℕ) (list : List Text) (body : Text)
    → n ≤ length (recorded_items list)
    → take n (map f (recorded_items (list ++ body ∷ []))) ≡ take n (map f (recorded_items list))
first_same f n list body few =
    let more = recorded_more list body in
    let size = length-map (recorded_items list) f in
    ap (λ l. take n (map f l)) more.1 ∙ ap (take n) (map-append f (recorded_items list) more.0)
    ∙ take-append-le n (map f (recorded_items list)) (map f more.0) (omega (arith, few, size))

pub shown_longer : (v : LogView) (list : List Text) (body : Text)
    → v.size ≤ length (recorded_items list)
    → shown_with v (list ++ body ∷ []) ≡ shown_with v list
shown_longer v list body few = same_shown v _ _ _ _
    (first_same (λ item. item.0) v.size list body few)
    (first_same (λ item. item.1) v.size list body few)

-- the record of an item has it after the others
recorded_item : (list : List Text) (entry key : Text) → IsShort entry → IsShort key
    → 1 ≤ length (recorded_items list)
    → recorded_items (list ++ entry_record entry key ∷ [])
    ≡ recorded_items list ++ (entry, key) ∷ []
recorded_item [] entry key few_entry few_key some = absurd (omega arith)
recorded_item (first ∷ bodies) entry key few_entry few_key some =
    ap (λ l. (null_entry, []) ∷ l)
    (flat_map-append added_items bodies (entry_record entry key ∷ []))
    ∙ ap (λ l. recorded_items (first ∷ bodies) ++ (l ++ []))
    (items_of_entry (entry_record entry key) (entry, key) (item_again entry key few_entry few_key))

-- the record of several has them after the others
recorded_batch : (list : List Text) (items : List (Text × Text)) → CanBeBatch items
    → 1 ≤ length (recorded_items list)
    → recorded_items (list ++ batch_record items ∷ []) ≡ recorded_items list ++ items
recorded_batch [] items can some = absurd (omega arith)
recorded_batch (first ∷ bodies) items can some =
    ap (λ l. (null_entry, []) ∷ l) (flat_map-append added_items bodies (batch_record items ∷ []))
    ∙ ap (λ l. recorded_items (first ∷ bodies) ++ (l ++ []))
    (items_are (batch_record items) items (batch_adds items can))
    ∙ ap (λ l. recorded_items (first ∷ bodies) ++ l) (append-nil items)

-- a record that adds none has none
pub recorded_other : (list : List Text) (body : Text) → added_in body ≡ None
    → 1 ≤ length (recorded_items list)
    → recorded_items (list ++ body ∷ []) ≡ recorded_items list
recorded_other [] body none some = absurd (omega arith)
recorded_other (first ∷ bodies) body none some =
    ap (λ l. (null_entry, []) ∷ l)
    (flat_map-append added_items bodies (body ∷ []))
    ∙ ap (λ o. recorded_items (first ∷ bodies) ++ (unwrap_or o [] ++ [])) none
    ∙ append-nil (recorded_items (first ∷ bodies))

several_more : (f : Text × Text → Text) (n : ℕ) (items more added : List (Text × Text))
    → n ≡ length items → more ≡ items ++ added
    → take (n + length added) (map f more) ≡ take n (map f items) ++ map f added
several_more f n items more added size is =
    let count = length-map items f in
    let counts : length (map f (items ++ added)) ≡ length items + length added =
    length-map (items ++ added) f ∙ length-append items added in
    ap (λ l. take (n + length added) (map f l)) is
    ∙ take_all (n + length added) (map f (items ++ added)) (omega arith)
    ∙ map-append f items added
    ∙ ap (λ l. l ++ map f added) (sym (take_all n (map f items) (omega arith)))

-- the record of an item after as many items as are shown
pub shown_added : (v : LogView) (list : List Text) (entry key : Text) → IsShort entry → IsShort key
    → 1 ≤ v.size → v.size ≡ length (recorded_items list)
    → shown_with (record v { size = v.size + 1 }) (list ++ entry_record entry key ∷ [])
    ≡ with_item entry key (shown_with v list)
shown_added v list entry key few_entry few_key some size =
    let more = recorded_item list entry key few_entry few_key (omega arith) in
    same_shown v _ _ _ _
    (several_more (λ item. item.0) v.size (recorded_items list) _ ((entry, key) ∷ []) size more)
    (several_more (λ item. item.1) v.size (recorded_items list) _ ((entry, key) ∷ []) size more)

-- and that of several
pub shown_batched : (v : LogView) (list : List Text) (items : List (Text × Text))
    → CanBeBatch items → 1 ≤ v.size → v.size ≡ length (recorded_items list)
    → shown_with (record v { size = v.size + length items }) (list ++ batch_record items ∷ [])
    ≡ with_items items (shown_with v list)
shown_batched v list items can some size =
    let more = recorded_batch list items can (omega arith) in
    same_shown v _ _ _ _
    (several_more (λ item. item.0) v.size (recorded_items list) _ items size more)
    (several_more (λ item. item.1) v.size (recorded_items list) _ items size more)

-- Records that make a log have as many items as it has entries.
pub all_shown : (h : HashFunction) (list : List Text) (s : LogState) → log_of h list ≡ Ok s
    → length s.entries ≡ length (recorded_items list)
all_shown h list s is =
    let begun = only_begins h list s is in
    let items : List (Text × Text) = recorded_items (begun.0 ∷ begun.1.0) in
    let has = following_items h 1 (new_log s.settings) s begun.1.0 begun.1.1.2 in
    let entries : s.entries ≡ entries_of items = has.entries in
    ap (λ (l : List Text). length l) entries ∙ length-map items (λ item. item.0)
    ∙ ap (λ l. length (recorded_items l)) (sym begun.1.1.0)

-- as many as are shown, where that are all
pub shown_size : (v : LogView) (list : List Text) → v.size ≡ length (recorded_items list)
    → length (shown_with v list).entries ≡ v.size
shown_size v list all =
    let count = length-map (recorded_items list) (λ item. item.0) in
    length-take-le v.size (entries_of (recorded_items list)) (omega arith)

-- what is shown over every disk, of the log that is shown
pub shown_view : (v : LogView) (list : List Text) → v.size ≡ length (recorded_items list)
    → view_in (shown_with v list) ≡ v
shown_view v list all =
    ap (λ (n : ℕ). record {
      settings = v.settings;
      size = n;
      marks = v.marks;
      tiled = v.tiled;
      switched = v.switched;
    }) (shown_size v list all)
