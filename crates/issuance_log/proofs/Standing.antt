-- The items of a log are at their offsets, record by record.
use Rattle.std.proofs.Common.{◌≡◌, ℕ, zero, suc, ◌+◌, ◌<◌, ◌≤◌, List, [], ◌∷◌, ◌++◌, length}
use Rattle.std.proofs.Common.{refl, ap, sym, subst, ◌∙◌, slice_index_or, arith}
use Rattle.std.proofs.lemmas.List.{append_assoc, append-nil}
use Rattle.byte_formats.specs.Types.{Text}
use Rattle.journal_core.specs.Format.{following}
use Rattle.journal_core.proofs.Records.{following-append}
use Rattle.issuance_log.specs.Items.{AreBelow}
use Rattle.issuance_log.specs.ItemOffsets.{IsAtOffset, before_items, offsets_after, offsets_of}
use Rattle.issuance_log.specs.ItemOffsets.{places_from, places_in}
use Rattle.issuance_log.specs.Records.{added_items}
use Rattle.issuance_log.specs.Shown.{recorded_items}
use Rattle.issuance_log.proofs.After.{later_items}
use Rattle.issuance_log.proofs.Inside.{StandInside, added_stand, entry_read}

-- ---- offsets

-- the offsets in a record more are after the others
pub offsets_more : (place : ℕ) (bodies : List Text) (body : Text)
    → offsets_after place (bodies ++ body ∷ [])
    ≡ offsets_after place bodies ++ places_in (following place bodies) body
unfolding offsets_after
offsets_more place [] body = append-nil (places_in place body)
offsets_more place (first ∷ bodies) body =
    ap (λ (l : List ℕ). places_in place first ++ l)
    (offsets_more (place + 5 + length first) bodies body)
    ∙ sym (append_assoc (places_in place first)
    (offsets_after (place + 5 + length first) bodies)
    (places_in (following (place + 5 + length first) bodies) body))

pub offsets_with : (first : Text) (bodies : List Text) (body : Text)
    → offsets_of ((first ∷ bodies) ++ body ∷ [])
    ≡ offsets_of (first ∷ bodies) ++ places_in (following 16 (first ∷ bodies)) body
offsets_with first bodies body =
    ap (λ (l : List ℕ). 0 ∷ l) (offsets_more (following 16 (first ∷ [])) bodies body)

-- at each of them stands its item: those of this body, and then those of the later ones
by_items : (before bodies : List Text) (body : Text) (from : ℕ) (items : List (Text × Text))
    (offsets : List ℕ) → StandInside body from items
    → ((j : ℕ) → j < length (later_items bodies) → IsAtOffset (before ++ body ∷ bodies)
    (slice_index_or offsets j 0) (slice_index_or (later_items bodies) j ([], [])))
    → (j : ℕ) → j < length (items ++ later_items bodies)
    → IsAtOffset (before ++ body ∷ bodies)
    (slice_index_or (places_from (following 16 before + 5 + from) items ++ offsets) j 0)
    (slice_index_or (items ++ later_items bodies) j ([], []))
by_items before bodies body from [] offsets stand rest j there = rest j there
by_items before bodies body from (x ∷ items) offsets stand rest zero there = record {
  prefix = before;
  body = body;
  back = bodies;
  inside = from;
  later = stand.0.0;
  split = refl;
  offset_is = refl;
  is = stand.0.1;
}
by_items before bodies body from (x ∷ items) offsets stand rest (suc j) there =
    let far : following 16 before + 5 + (from + 4 + length x.0 + length x.1)
    ≡ following 16 before + 5 + from + 4 + length x.0 + length x.1 = omega arith in
    subst (λ (n : ℕ). IsAtOffset (before ++ body ∷ bodies)
    (slice_index_or (places_from n items ++ offsets) j 0)
    (slice_index_or (items ++ later_items bodies) j ([], []))) far
    (by_items before bodies body (from + 4 + length x.0 + length x.1) items offsets stand.1 rest j
    (omega (arith, there)))

placed : (before bodies : List Text) (i : ℕ) → i < length (later_items bodies)
    → IsAtOffset (before ++ bodies)
    (slice_index_or (offsets_after (following 16 before) bodies) i 0)
    (slice_index_or (later_items bodies) i ([], []))
unfolding offsets_after
placed before [] i there = absurd (omega (arith, there))
placed before (body ∷ bodies) i there =
    let added = added_stand body in
    let place : following 16 before + 5 + added.from ≡ following 16 before + before_items body =
    omega (arith, added.before) in
    let later = offsets_after (following 16 before + 5 + length body) bodies in
    subst (λ (n : ℕ). IsAtOffset (before ++ body ∷ bodies)
    (slice_index_or (places_from n (added_items body) ++ later) i 0)
    (slice_index_or (added_items body ++ later_items bodies) i ([], []))) place
    (by_items before bodies body added.from (added_items body) later added.stand
    (λ j below. subst (λ (l : List Text). IsAtOffset l (slice_index_or later j 0)
    (slice_index_or (later_items bodies) j ([], []))) (append_assoc before (body ∷ []) bodies)
    (subst (λ (n : ℕ). IsAtOffset ((before ++ body ∷ []) ++ bodies)
    (slice_index_or (offsets_after n bodies) j 0)
    (slice_index_or (later_items bodies) j ([], []))) (following-append 16 before body)
    (placed (before ++ body ∷ []) bodies j below))) i there)

-- so it is of each item after the null entry
pub placed_of : (first : Text) (bodies : List Text) (i : ℕ) → 1 ≤ i
    → i < length (recorded_items (first ∷ bodies))
    → IsAtOffset (first ∷ bodies) (slice_index_or (offsets_of (first ∷ bodies)) i 0)
    (slice_index_or (recorded_items (first ∷ bodies)) i ([], []))
placed_of first bodies zero some there = absurd (omega (arith, some))
placed_of first bodies (suc j) some there =
    placed (first ∷ []) bodies j (omega (arith, there))

-- offsets below an end, and more of them below a later one
pub below_more : (offsets more : List ℕ) (end later : ℕ) → AreBelow offsets end → end ≤ later
    → AreBelow more later → AreBelow (offsets ++ more) later
below_more [] more end later are grows new i there = new i there
below_more (place ∷ offsets) more end later are grows new zero there =
    let first = are zero (omega arith) in omega arith
below_more (place ∷ offsets) more end later are grows new (suc i) there =
    below_more offsets more end later (λ j below. are (suc j) (omega arith)) grows new i
    (omega (arith, there))

-- items inside a body, and the offset after the record
stand_below : (body : Text) (place from end : ℕ) (items : List (Text × Text))
    → StandInside body from items → place + length body ≤ end
    → AreBelow (places_from (place + from) items) end
stand_below body place from end [] stand few i there = absurd (omega (arith, there))
stand_below body place from end (x ∷ items) stand few zero there =
    let read = entry_read body from x stand.0.0 stand.0.1 in omega (arith, read.within)
stand_below body place from end (x ∷ items) stand few (suc i) there =
    let far : place + (from + 4 + length x.0 + length x.1)
    ≡ place + from + 4 + length x.0 + length x.1 = omega arith in
    subst (λ (n : ℕ). AreBelow (places_from n items) end) far
    (stand_below body place (from + 4 + length x.0 + length x.1) end items stand.1 few) i
    (omega (arith, there))

pub below_items : (body : Text) (place end : ℕ) → place + 5 + length body ≤ end
    → AreBelow (places_in place body) end
below_items body place end few =
    let added = added_stand body in
    let same : place + 5 + added.from ≡ place + before_items body = omega (arith, added.before) in
    subst (λ (n : ℕ). AreBelow (places_from n (added_items body)) end) same
    (stand_below body (place + 5) added.from end (added_items body) added.stand few)

pub below_one : (place end : ℕ) → place + 4 ≤ end → AreBelow (place ∷ []) end
below_one place end few zero there = few
below_one place end few (suc i) there = absurd (omega (arith, there))
