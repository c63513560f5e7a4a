-- The records of a file of bytes are bytes, and so are the entries and the keys in one. The first
-- two should stand in journal_core, the last ones in issuance_log.
use Rattle.std.proofs.Common.{◌≡◌, ℕ, zero, suc, ◌+◌, List, [], ◌∷◌, ◌++◌, length, drop, slice_get}
use Rattle.std.proofs.Common.{Option, None, Some, refl, sym, ap, subst}
use Rattle.std.specs.Int.{w8, w16}
use Rattle.std.specs.List.{AllByRecursion}
use Rattle.std.specs.Option.{unwrap_or}
use Rattle.std.specs.Prelude.{flat_map}
use Rattle.std.proofs.lemmas.Option.{same_Some}
use Rattle.byte_formats.specs.Offsets.{IsBytes}
use Rattle.byte_formats.specs.Types.{Text}
use Rattle.byte_formats.proofs.Steps.{IsBytes-back, IsBytes-drop, IsBytes-prefix, IsBytes-take}
use Rattle.journal_core.specs.Format.{AreRecordsAt}
use Rattle.tls_wire.specs.Encoding.{number, vector}
use Rattle.issuance_log.specs.Records.{added_items, batch_in, batch_record, batch_tag, entry_record}
use Rattle.issuance_log.specs.Records.{entry_tag, item_in, item_text}
use Rattle.issuance_log.proofs.Encoded.{batch_takes, item_takes}
use Rattle.issuance_log.proofs.Steps.{added_by_batch, added_none, items_are, items_of_entry}

pub records_are_bytes : (bytes : Text) (place : ℕ) (list : List Text) → IsBytes bytes
    → AreRecordsAt bytes place list → AllByRecursion IsBytes list
records_are_bytes bytes place [] are there = tt
records_are_bytes bytes place (body ∷ bodies) are there = (
  subst IsBytes there.0.body_is
      (IsBytes-take (length body) (drop (place + 5) bytes) (IsBytes-drop (place + 5) bytes are)),
  records_are_bytes bytes (place + 5 + length body) bodies are there.1,
)

-- one of them
pub one_is : (P : Text → Type 0) (list : List Text) (body : Text) (more : List Text)
    → AllByRecursion P (list ++ body ∷ more) → P body
one_is P [] body more all = all.0
one_is P (x ∷ list) body more all = one_is P list body more all.1

-- and of those of any kind
pub at_is : {A : Type 0} (P : A → Type 0) (list : List A) (i : ℕ) (x : A) → AllByRecursion P list
    → slice_get list i ≡ Some x → P x
at_is {A} P [] i x all there = let wrong : None ≡ Some x = there in absurd cc
at_is P (y ∷ list) zero x all there = subst P (same_Some y x there) all.0
at_is P (y ∷ list) (suc i) x all there = at_is P list i x all.1 there

-- ---- what a record adds

-- an entry and its key
abbrev pub AreBytes : Text × Text → Type 0
AreBytes item = IsBytes item.0 × IsBytes item.1

item_are_bytes : (entry key : Text) → IsBytes (item_text (entry, key)) → AreBytes (entry, key)
item_are_bytes entry key both = (
  IsBytes-back (number w16 (length entry)) entry
      (IsBytes-prefix (vector w16 entry) (vector w16 key) both),
  IsBytes-back (number w16 (length key)) key
      (IsBytes-back (vector w16 entry) (vector w16 key) both),
)

each_are_bytes : (items : List (Text × Text)) → IsBytes (flat_map item_text items)
    → AllByRecursion AreBytes items
each_are_bytes [] bytes = tt
each_are_bytes (x ∷ items) bytes = (
  item_are_bytes x.0 x.1 (IsBytes-prefix (item_text x) (flat_map item_text items) bytes),
  each_are_bytes items (IsBytes-back (item_text x) (flat_map item_text items) bytes),
)

item_is_bytes : (body entry key : Text) → IsBytes body → item_in body ≡ Some (entry, key)
    → IsBytes entry × IsBytes key
unfolding entry_record
item_is_bytes body entry key bytes is =
    let whole = subst IsBytes (item_takes body entry key bytes is).0 bytes in
    item_are_bytes entry key
    (IsBytes-back (number w8 entry_tag) (vector w16 entry ++ vector w16 key) whole)

batch_are_bytes : (body : Text) (items : List (Text × Text)) → IsBytes body
    → batch_in body ≡ Some items → AllByRecursion AreBytes items
unfolding batch_record
batch_are_bytes body items bytes is =
    let whole = subst IsBytes (batch_takes body items bytes is).0 bytes in
    let counted = IsBytes-back (number w8 batch_tag)
    (number w16 (length items) ++ flat_map item_text items) whole in
    each_are_bytes items
    (IsBytes-back (number w16 (length items)) (flat_map item_text items) counted)

-- the items of a record of bytes are bytes
pub added_are_bytes : (body : Text) → IsBytes body → AllByRecursion AreBytes (added_items body)
added_are_bytes body bytes = go (item_in body) (batch_in body) refl refl
  where
    go : (item : Option (Text × Text)) (batch : Option (List (Text × Text)))
        → item_in body ≡ item → batch_in body ≡ batch
        → AllByRecursion AreBytes (added_items body)
    go (Some x) batch one two = subst (AllByRecursion AreBytes) (sym (items_of_entry body x one))
        (item_is_bytes body x.0 x.1 bytes one, tt)
    go None (Some items) one two = subst (AllByRecursion AreBytes)
        (sym (items_are body items (added_by_batch body items one two)))
        (batch_are_bytes body items bytes two)
    go None None one two = subst (AllByRecursion AreBytes)
        (sym (ap (λ (o : Option (List (Text × Text))). unwrap_or o []) (added_none body one two)))
        tt
