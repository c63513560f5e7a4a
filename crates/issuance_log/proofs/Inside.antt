-- Where the items of a record stand inside its body.
use Rattle.std.proofs.Common.{◌≡◌, ℕ, zero, suc, ◌+◌, ◌≤◌, ◌==◌, List, [], ◌∷◌, length}
use Rattle.std.proofs.Common.{Option, Some, None, Result, Ok, Err, refl, ap, sym, subst, ◌∙◌, arith}
use Rattle.std.proofs.Common.{◌-◌, ◌&&◌, inl, inr, drop, nat_le, nat_lt, take}
use Rattle.std.specs.Int.{w8, w16, from_be_bytes}
use Rattle.std.specs.Option.{unwrap_or}
use Rattle.std.proofs.lemmas.Bool.{ltb-false}
use Rattle.std.proofs.lemmas.List.{drop-drop, length-drop, length-take-le}
use Rattle.std.proofs.lemmas.Option.{same_Some}
use Rattle.std.specs.Prelude.{if◌then◌else◌, is_some}
use Rattle.byte_formats.specs.Types.{Text}
use Rattle.byte_formats.specs.Offsets.{At, after, at}
use Rattle.byte_formats.specs.Lists.{many_at, up_to_end}
use Rattle.byte_formats.specs.Readings.{◌>>=◌, whole_of}
use Rattle.byte_formats.proofs.Steps.{blamed_ok, bind_ok, chosen, guard_ok, ok_is}
use Rattle.byte_formats.proofs.Values.{when_some}
use Rattle.tls_wire.specs.Reading.{ahead_at, bytes_at, number_at, short, vector_at}
use Rattle.tls_wire.specs.declared.cursor.Short.{Short}
use Rattle.issuance_log.specs.ItemOffsets.{before_items, places_from}
use Rattle.issuance_log.specs.Records.{added_items, batch_at, batch_in, batch_tag}
use Rattle.issuance_log.specs.Records.{entry_at, entry_tag, item_in, tagged}
use Rattle.issuance_log.proofs.Encoded.{counted_from}
use Rattle.issuance_log.proofs.Steps.{added_by_batch, added_none, items_are, items_of_entry}

-- The items stand in the body, one after the other, from so many of its bytes on.
abbrev pub StandInside : Text → ℕ → List (Text × Text) → Type 0
StandInside body from [] = Unit {0}
StandInside body from (x ∷ items) =
    ((later : At) × (entry_at (at body from) ≡ Ok (x, later)))
    × StandInside body (from + 4 + length x.0 + length x.1) items

-- The length of two bytes and as many bytes: they are there, and what is read next follows them.
pub record IsVectorRead (body : Text) (from : ℕ) (bytes : Text) (b : At) : Type 0 where
  pub next : b ≡ at body (from + 2 + length bytes)
  pub within : from + 2 + length bytes ≤ length body
  pub counted : length bytes ≡ from_be_bytes w16 (take 2 (drop from body))
  pub part : bytes ≡ take (length bytes) (drop (from + 2) body)

after_at : (body : Text) (from n : ℕ) → after n (at body from) ≡ at body (from + n)
after_at body from n =
    ap (λ (rest : Text). record { place = from + n; rest = rest }) (drop-drop n from body)

pub vector_read : (body : Text) (from : ℕ) (bytes : Text) (b : At)
    → vector_at w16 (at body from) ≡ Ok (bytes, b) → IsVectorRead body from bytes b
unfolding vector_at
vector_read body from bytes b is =
    let a = at body from in
    let one = bind_ok (number_at w16 a) (λ (x : ℕ × At). ahead_at x.0 x.1 a) (bytes, b) is in
    let first = guard_ok (nat_lt (length a.rest) 2) (short a)
    (Ok (from_be_bytes w16 (take 2 a.rest), after 2 a)) one.0 one.1 in
    let head = ok_is Short (from_be_bytes w16 (take 2 a.rest), after 2 a) one.0 first.1 in
    let read = blamed_ok (short a) (bytes_at one.0.0 one.0.1) (bytes, b) one.2 in
    let second = guard_ok (nat_lt (length one.0.1.rest) one.0.0) (short one.0.1)
    (Ok (take one.0.0 one.0.1.rest, after one.0.0 one.0.1)) (bytes, b) read in
    let got = ok_is Short (take one.0.0 one.0.1.rest, after one.0.0 one.0.1) (bytes, b)
    second.1 in
    let place : one.0.1 ≡ at body (from + 2) =
    sym (ap (λ (v : ℕ × At). v.1) head) ∙ after_at body from 2 in
    let enough : one.0.0 ≤ length one.0.1.rest =
    ltb-false (length one.0.1.rest) one.0.0 second.0 in
    let count : length bytes ≡ one.0.0 =
    sym (ap (λ (v : Text × At). length v.0) got)
    ∙ length-take-le one.0.0 one.0.1.rest enough in
    let left : length one.0.1.rest ≡ length body - (from + 2) =
    ap (λ (v : At). length v.rest) place ∙ length-drop (from + 2) body in
    let begun : 2 ≤ length a.rest = ltb-false (length a.rest) 2 first.0 in
    let whole : length a.rest ≡ length body - from = length-drop from body in
    record {
      next = sym (ap (λ (v : Text × At). v.1) got)
          ∙ ap (λ (n : ℕ). after n one.0.1) (sym count) ∙ ap (after (length bytes)) place
          ∙ after_at body (from + 2) (length bytes);
      within = omega (arith, enough, count, left, begun, whole);
      counted = count ∙ sym (ap (λ (v : ℕ × At). v.0) head);
      part = sym (ap (λ (v : Text × At). v.0) got)
          ∙ ap (λ (n : ℕ). take n one.0.1.rest) (sym count)
          ∙ ap (λ (v : At). take (length bytes) v.rest) place;
    }

-- an item: so too
pub record IsEntryRead (body : Text) (from : ℕ) (x : Text × Text) (b : At) : Type 0 where
  pub next : b ≡ at body (from + 4 + length x.0 + length x.1)
  pub within : from + 4 + length x.0 + length x.1 ≤ length body

pub entry_read : (body : Text) (from : ℕ) (x : Text × Text) (b : At)
    → entry_at (at body from) ≡ Ok (x, b) → IsEntryRead body from x b
unfolding entry_at
entry_read body from x b is =
    let one = bind_ok (vector_at w16 (at body from)) _ (x, b) is in
    let two = bind_ok (vector_at w16 one.0.1) _ (x, b) one.2 in
    let same = ok_is Short ((one.0.0, two.0.0), two.0.1) (x, b) two.2 in
    let first = vector_read body from one.0.0 one.0.1 one.1 in
    let second = vector_read body (from + 2 + length one.0.0) two.0.0 two.0.1
    (ap (vector_at w16) (sym first.next) ∙ two.1) in
    subst (λ (v : (Text × Text) × At). IsEntryRead body from v.0 v.1) same (record {
      next = second.next ∙ ap (at body) (omega arith);
      within = omega (arith, second.within);
    })

-- Items up to the end stand one after the other.
pub many_stand : (body : Text) (n : ℕ) (from : ℕ) (items : List (Text × Text)) (b : At)
    → many_at entry_at n (at body from) ≡ Ok (items, b) → StandInside body from items
unfolding many_at
many_stand body zero from items b is =
    subst (λ (v : List (Text × Text) × At). StandInside body from v.0)
    (ok_is Short ([], at body from) (items, b) is) tt
many_stand body (suc n) from items b is =
    let following : (Text × Text) × At → Result (List (Text × Text) × At) Short =
    λ x. many_at entry_at n x.1 >>= λ xs. Ok (x.0 ∷ xs.0, xs.1) in
    elim (chosen (length (at body from).rest == 0) (Ok ([], at body from))
    (entry_at (at body from) >>= following) (Ok (items, b)) is) [
      | inl c ↦ subst (λ (v : List (Text × Text) × At). StandInside body from v.0)
          (ok_is Short ([], at body from) (items, b) c.1) tt
      | inr c ↦
          let one = bind_ok (entry_at (at body from)) following (items, b) c.1 in
          let rest = bind_ok (many_at entry_at n one.0.1) _ (items, b) one.2 in
          let read = entry_read body from one.0.0 one.0.1 one.1 in
          subst (λ (v : List (Text × Text) × At). StandInside body from v.0)
          (ok_is Short (one.0.0 ∷ rest.0.0, rest.0.1) (items, b) rest.2) (
            (one.0.1, one.1),
            many_stand body n _ rest.0.0 rest.0.1
                (ap (many_at entry_at n) (sym read.next) ∙ rest.1),
          )
    ]

-- What a record adds stands in its body, from so many of its bytes on.
pub record AddedStand (body : Text) : Type 0 where
  pub from : ℕ
  pub before : before_items body ≡ 5 + from
  pub stand : StandInside body from (added_items body)

-- what was read as the whole after this tag
tagged_read : {X : Type 0} (wanted : ℕ) (read : At → Result (X × At) Short) (body : Text) (x : X)
    → tagged wanted read (number_at w8 (at body 0)) ≡ Some x
    → (b : At) × (read (at body 1) ≡ Ok (x, b))
tagged_read {X} wanted read body x is = go (number_at w8 (at body 0)) refl is
  where
    whole : (r : Result (X × At) Short) → whole_of r ≡ Some x → (b : At) × (r ≡ Ok (x, b))
    whole (Err short) e = let wrong : None ≡ Some x = e in absurd cc
    whole (Ok v) e =
        let test = when_some (length v.1.rest == 0) (Some v.0) x e in
        (v.1, ap (λ (y : X). Ok (y, v.1)) (same_Some v.0 x test.1))

    go : (r : Result (ℕ × At) Short) → number_at w8 (at body 0) ≡ r → tagged wanted read r ≡ Some x
        → (b : At) × (read (at body 1) ≡ Ok (x, b))
    go (Err short) was e = let wrong : None ≡ Some x = e in absurd cc
    go (Ok tag) was e =
        let test = when_some (tag.0 == wanted) (whole_of (read tag.1)) x e in
        let found = whole (read tag.1) test.1 in
        let first = guard_ok (nat_lt (length (at body 0).rest) 1) (short (at body 0))
        (Ok (from_be_bytes w8 (take 1 (at body 0).rest), after 1 (at body 0))) tag was in
        let head = ok_is Short
        (from_be_bytes w8 (take 1 (at body 0).rest), after 1 (at body 0)) tag first.1 in
        let place : tag.1 ≡ at body 1 =
        sym (ap (λ (v : ℕ × At). v.1) head) ∙ after_at body 0 1 in
        (found.0, ap read (sym place) ∙ found.1)

-- the item of an Entry after its tag, and the items of a Batch after its tag and their number
entry_stands : (body : Text) (x : Text × Text) → item_in body ≡ Some x
    → StandInside body 1 (x ∷ [])
unfolding item_in
entry_stands body x is = (tagged_read entry_tag entry_at body x is, tt)

batch_stands : (body : Text) (items : List (Text × Text)) → batch_in body ≡ Some items
    → StandInside body 3 items
unfolding batch_in batch_at
batch_stands body items is =
    let found = counted_from (tagged batch_tag batch_at (number_at w8 (at body 0))) items is in
    let test = when_some ((found.0.0 == length found.0.1) && nat_le 1 found.0.0) (Some found.0.1)
    items found.2 in
    let read = tagged_read batch_tag batch_at body found.0 found.1 in
    let one = bind_ok (number_at w16 (at body 1)) _ (found.0, read.0) read.1 in
    let two = bind_ok (up_to_end entry_at one.0.1) _ (found.0, read.0) one.2 in
    let same = ok_is Short ((one.0.0, two.0.0), two.0.1) (found.0, read.0) two.2 in
    let first = guard_ok (nat_lt (length (at body 1).rest) 2) (short (at body 1))
    (Ok (from_be_bytes w16 (take 2 (at body 1).rest), after 2 (at body 1))) one.0 one.1 in
    let head = ok_is Short
    (from_be_bytes w16 (take 2 (at body 1).rest), after 2 (at body 1)) one.0 first.1 in
    let place : one.0.1 ≡ at body 3 =
    sym (ap (λ (v : ℕ × At). v.1) head) ∙ after_at body 1 2 in
    let stand = many_stand body (length (at body 3).rest) 3 two.0.0 two.0.1
    (ap (up_to_end entry_at) (sym place) ∙ two.1) in
    subst (StandInside body 3)
    (ap (λ (v : (ℕ × List (Text × Text)) × At). v.0.1) same ∙ same_Some found.0.1 items test.1)
    stand

pub added_stand : (body : Text) → AddedStand body
added_stand body = go (item_in body) (batch_in body) refl refl
  where
    go : (item : Option (Text × Text)) (batch : Option (List (Text × Text)))
        → item_in body ≡ item → batch_in body ≡ batch → AddedStand body
    go (Some x) batch one two = record {
      from = 1;
      before = ap (λ o. if is_some o then 6 else 8) one;
      stand = subst (StandInside body 1) (sym (items_of_entry body x one))
          (entry_stands body x one);
    }
    go None (Some items) one two = record {
      from = 3;
      before = ap (λ o. if is_some o then 6 else 8) one;
      stand = subst (StandInside body 3)
          (sym (items_are body items (added_by_batch body items one two)))
          (batch_stands body items two);
    }
    go None None one two = record {
      from = 3;
      before = ap (λ o. if is_some o then 6 else 8) one;
      stand = subst (StandInside body 3)
          (sym (ap (λ o. unwrap_or o []) (added_none body one two))) tt;
    }

-- ---- their offsets

pub length-places : (place : ℕ) (items : List (Text × Text))
    → length (places_from place items) ≡ length items
length-places place [] = refl
length-places place (x ∷ items) =
    ap suc (length-places (place + 4 + length x.0 + length x.1) items)
