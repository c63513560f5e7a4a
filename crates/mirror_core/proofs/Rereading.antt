-- An item that is read back from a mirror's journal: the one at its index.
use Rattle.std.proofs.Common.{◌≡◌, ℕ, zero, suc, ◌+◌, ◌-◌, ◌<◌, ◌≤◌, List, [], ◌∷◌}
use Rattle.std.proofs.Common.{◌++◌, length, Option, Some, None, IfSome, option_map, Result, Ok, Err}
use Rattle.std.proofs.Common.{refl, ap, sym, subst, ◌∙◌, arith, slice_index_or, Bool}
use Rattle.std.specs.Option.{unwrap_or}
use Rattle.std.specs.Prelude.{if◌then◌else◌, IfErr, OnOk}
use Rattle.std.proofs.lemmas.Bool.{le-ltb, lt-ltb}
use Rattle.std.proofs.lemmas.List.{append_assoc, get_or-append_right, get_or_append_left}
use Rattle.std.proofs.lemmas.List.{length-append}
use Rattle.byte_formats.specs.Types.{Hash, HashFunction, Text}
use Rattle.journal_core.specs.Format.{following}
use Rattle.journal_core.proofs.Records.{following-append}
use Rattle.mirror_core.specs.Folds.{MirrorState, MirrorView, mirror_with}
use Rattle.mirror_core.specs.Kept.{IsMirrored}
use Rattle.mirror_core.specs.Places.{HoldsIndex, IsItemIn, no_place, place_with, places_after}
use Rattle.mirror_core.specs.Places.{places_of_batches}
use Rattle.mirror_core.specs.Records.{all_mirrored, mirrored_in}
use Rattle.mirror_core.specs.Refusals.{GivesMirrored, IsNoMirrorAnswer, first_difference}
use Rattle.mirror_core.specs.Refusals.{mirror_item_at}
use Rattle.mirror_core.specs.declared.error.MirrorError.{MirrorError}
use Rattle.mirror_core.specs.declared.error.MirrorError.TheVariants.{Append, Beyond, Differs}
use Rattle.mirror_core.specs.declared.error.MirrorError.TheVariants.{Failed, Memory, NothingNew}
use Rattle.mirror_core.specs.declared.error.MirrorError.TheVariants.{TooLarge}
use Rattle.mirror_core.specs.declared.kept.BatchPlace.{BatchPlace}

-- ---- which Batch has an index

-- so many items, and those of a record
abbrev with_more : ℕ → Option (List (Text × Text)) → ℕ
with_more first o = first + length (unwrap_or o [])

-- The numbers of later places are no smaller.
no_smaller : (place first : ℕ) (bodies : List Text) (i : ℕ)
    → i < length (places_after place first bodies)
    → first ≤ (slice_index_or (places_after place first bodies) i no_place).first
unfolding places_after
no_smaller place first [] i there = absurd (omega (arith, there))
no_smaller place first (body ∷ bodies) i there =
    by_body (mirrored_in body) i there
    (λ n j below. no_smaller (place + 5 + length body) n bodies j below)
  where
    by_body : (o : Option (List (Text × Text))) (i : ℕ)
        → i < length (place_with place first o
        ++ places_after (place + 5 + length body) (with_more first o) bodies)
        → ((n j : ℕ) → j < length (places_after (place + 5 + length body) n bodies)
        → n ≤ (slice_index_or (places_after (place + 5 + length body) n bodies) j no_place).first)
        → first ≤ (slice_index_or (place_with place first o
        ++ places_after (place + 5 + length body) (with_more first o) bodies) i no_place).first
    by_body None i there again =
        let rest = again (with_more first None) i there in omega (arith, rest)
    by_body (Some items) zero there again = omega arith
    by_body (Some items) (suc i) there again =
        let rest = again (with_more first (Some items)) i (omega (arith, there)) in
        omega (arith, rest)

-- An index that is before the first of these is before all of their items.
before_next : (place first : ℕ) (bodies : List Text) (index : ℕ)
    → (0 < length (places_after place first bodies)
    → index < (slice_index_or (places_after place first bodies) 0 no_place).first)
    → index < first + length (all_mirrored bodies) → index < first
unfolding places_after
before_next place first [] index next within = omega (arith, within)
before_next place first (body ∷ bodies) index next within =
    by_body (mirrored_in body) next within
    (λ n later inside. before_next (place + 5 + length body) n bodies index later inside)
  where
    by_body : (o : Option (List (Text × Text))) → (0 < length (place_with place first o
        ++ places_after (place + 5 + length body) (with_more first o) bodies)
        → index < (slice_index_or (place_with place first o
        ++ places_after (place + 5 + length body) (with_more first o) bodies) 0 no_place).first)
        → index < first + length (unwrap_or o [] ++ all_mirrored bodies)
        → ((n : ℕ) → (0 < length (places_after (place + 5 + length body) n bodies)
        → index < (slice_index_or (places_after (place + 5 + length body) n bodies) 0
        no_place).first) → index < n + length (all_mirrored bodies) → index < n) → index < first
    by_body None next within again =
        let rest = again (with_more first None) next (omega (arith, within)) in
        omega (arith, rest)
    by_body (Some items) next within again = next (omega arith)

shifted : (p : BatchPlace) (places : List BatchPlace) (m : ℕ)
    → slice_index_or (p ∷ places) (suc m + 1) no_place ≡ slice_index_or places (m + 1) no_place
shifted p places m =
    let one : suc m + 1 ≡ suc (m + 1) = omega arith in
    ap (λ (n : ℕ). slice_index_or (p ∷ places) n no_place) one

-- The item at an index is the one of its number in the Batch that is found for it.
item_found : (before bodies : List Text) (first index number : ℕ) (found : BatchPlace)
    (x : Text × Text) → number < length (places_after (following 16 before) first bodies)
    → found ≡ slice_index_or (places_after (following 16 before) first bodies) number no_place
    → found.first ≤ index
    → (number + 1 < length (places_after (following 16 before) first bodies)
    → index < (slice_index_or (places_after (following 16 before) first bodies) (number + 1)
    no_place).first) → index < first + length (all_mirrored bodies)
    → IsItemIn found.place (index - found.first) x (before ++ bodies)
    → x ≡ slice_index_or (all_mirrored bodies) (index - first) ([], [])
unfolding places_after
item_found before [] first index number found x there is from next within at =
    absurd (omega (arith, there))
item_found before (body ∷ bodies) first index number found x there is from next within at =
    by_body (mirrored_in body) refl number there is next within
    (λ n m below same later inside whole. item_found (before ++ body ∷ []) bodies n index m found x
    below same from later inside whole)
  where
    place : ℕ
    place = following 16 before

    moved : (before ++ body ∷ []) ++ bodies ≡ before ++ body ∷ bodies
    moved = append_assoc before (body ∷ []) bodies

    later : ℕ → List BatchPlace
    later n = places_after (place + 5 + length body) n bodies

    -- the same of the records after this one
    Again : Type 0
    Again = (n m : ℕ) → m < length (places_after (following 16 (before ++ body ∷ [])) n bodies)
        → found ≡ slice_index_or (places_after (following 16 (before ++ body ∷ [])) n bodies) m
        no_place
        → (m + 1 < length (places_after (following 16 (before ++ body ∷ [])) n bodies)
        → index < (slice_index_or (places_after (following 16 (before ++ body ∷ [])) n bodies)
        (m + 1) no_place).first) → index < n + length (all_mirrored bodies)
        → IsItemIn found.place (index - found.first) x ((before ++ body ∷ []) ++ bodies)
        → x ≡ slice_index_or (all_mirrored bodies) (index - n) ([], [])

    after : Again → (n m : ℕ) → m < length (later n) → found ≡ slice_index_or (later n) m no_place
        → (m + 1 < length (later n)
        → index < (slice_index_or (later n) (m + 1) no_place).first)
        → index < n + length (all_mirrored bodies)
        → x ≡ slice_index_or (all_mirrored bodies) (index - n) ([], [])
    after again n m there is next within =
        let far = following-append 16 before body in
        again n m
        (subst (λ (p : ℕ). m < length (places_after p n bodies)) (sym far) there)
        (subst (λ (p : ℕ). found ≡ slice_index_or (places_after p n bodies) m no_place)
        (sym far) is)
        (subst (λ (p : ℕ). m + 1 < length (places_after p n bodies)
        → index < (slice_index_or (places_after p n bodies) (m + 1) no_place).first) (sym far)
        next) within
        (subst (IsItemIn found.place (index - found.first) x) (sym moved) at)

    by_body : (o : Option (List (Text × Text))) → mirrored_in body ≡ o → (m : ℕ)
        → m < length (place_with place first o ++ later (with_more first o))
        → found ≡ slice_index_or (place_with place first o ++ later (with_more first o)) m no_place
        → (m + 1 < length (place_with place first o ++ later (with_more first o))
        → index < (slice_index_or (place_with place first o ++ later (with_more first o))
        (m + 1) no_place).first)
        → index < first + length (unwrap_or o [] ++ all_mirrored bodies) → Again
        → x ≡ slice_index_or (unwrap_or o [] ++ all_mirrored bodies) (index - first) ([], [])
    by_body None batch m there is next within again =
        let same : with_more first None ≡ first = omega arith in
        after again (with_more first None) m there is next (omega (arith, within))
        ∙ ap (λ (n : ℕ). slice_index_or (all_mirrored bodies) (index - n) ([], [])) same
    by_body (Some items) batch zero there is next within again =
        let sum = length-append items (all_mirrored bodies) in
        let one = ap (λ (p : BatchPlace). p.first) is in
        let two = ap (λ (p : BatchPlace). p.place) is in
        let inside : index < first + length items =
        before_next (place + 5 + length body) (first + length items) bodies index
        (λ some. next (omega (arith, some))) (omega (arith, within, sum)) in
        let number_is : index - found.first ≡ index - first =
        ap (λ (n : ℕ). index - n) one in
        let below : index - first < length items = omega (arith, inside, from, one) in
        at before body bodies items refl two batch
        (omega (arith, below, number_is))
        ∙ ap (λ (n : ℕ). slice_index_or items n ([], [])) number_is
        ∙ sym (get_or_append_left items (all_mirrored bodies) ([], []) (index - first) below)
    by_body (Some items) batch (suc m) there is next within again =
        let sum = length-append items (all_mirrored bodies) in
        let after_first = with_more first (Some items) in
        let enough = no_smaller (place + 5 + length body) after_first bodies m
        (omega (arith, there)) in
        let same = ap (λ (p : BatchPlace). p.first) is in
        let least : after_first ≤ index = omega (arith, enough, same, from) in
        let far : index - first - length items ≡ index - after_first = omega arith in
        after again after_first m (omega (arith, there)) is
        (λ some. subst (λ (p : BatchPlace). index < p.first)
        (shifted (record { place = place; first = first }) (later after_first) m)
        (next (omega (arith, some)))) (omega (arith, within, sum))
        ∙ sym (get_or-append_right items (all_mirrored bodies) (length items) (index - first)
        ([], []) refl (omega (arith, least))
        ∙ ap (λ (n : ℕ). slice_index_or (all_mirrored bodies) n ([], [])) far)

-- ---- what an item gives

there_is : (s : MirrorState) (index : ℕ) → index < length s.items
    → mirror_item_at s index ≡ Ok (slice_index_or s.items index ([], []))
unfolding mirror_item_at
there_is s index there =
    ap (λ (t : Bool). if t then Ok (slice_index_or s.items index ([], []))
    else Err (Beyond (length s.items))) (lt-ltb index (length s.items) there)

none_is : (s : MirrorState) (index : ℕ) → length s.items ≤ index
    → mirror_item_at s index ≡ Err (Beyond (length s.items))
unfolding mirror_item_at
none_is s index past =
    ap (λ (t : Bool). if t then Ok (slice_index_or s.items index ([], []))
    else Err (Beyond (length s.items))) (le-ltb index (length s.items) past)

-- what holds of the mirror that is shown
pub shown_of : (v : MirrorView) (P : MirrorState → Type 0) {K : List Text → Type 0}
    (o : Option (List Text)) → IfSome o K → ((list : List Text) → K list → P (mirror_with v list))
    → IfSome (option_map (mirror_with v) o) P
shown_of v P None kept holds = tt
shown_of v P (Some list) kept holds = holds list kept

nothing_said : (wanted : Result (Text × Text) MirrorError) (why : MirrorError) (entry key : Text)
    → IsNoMirrorAnswer why → GivesMirrored wanted (Err why) entry key
nothing_said wanted Failed entry key is = tt
nothing_said wanted Memory entry key is = tt
nothing_said wanted (Differs number) entry key is = absurd is
nothing_said wanted NothingNew entry key is = absurd is
nothing_said wanted (TooLarge size) entry key is = absurd is
nothing_said wanted (Beyond size) entry key is = absurd is
nothing_said wanted (Append why) entry key is = absurd is

module _ (h : HashFunction) (v : MirrorView) (places : List BatchPlace)
    (leaves : Option (List Hash)) (o : Option (List Text))
    (kept : IfSome o (IsMirrored h v places leaves)) where
  -- an index past the size
  pub gives_none : (index : ℕ) (entry key : Text) → v.size ≤ index
      → IfSome (option_map (mirror_with v) o)
      (λ s. GivesMirrored (mirror_item_at s index) (Err (Beyond v.size)) entry key)
  gives_none index entry key past =
      shown_of v (λ s. GivesMirrored (mirror_item_at s index) (Err (Beyond v.size)) entry key) o
      kept (λ list is. none_is (mirror_with v list) index (omega (arith, is.all, past))
      ∙ ap (λ (n : ℕ). Err (Beyond n)) (sym is.all))

  -- what was read, by the answer
  pub gives_item : (index : ℕ) (found : BatchPlace) (entry key : Text) → index < v.size
      → HoldsIndex places index found → (result : Result (Unit {0}) MirrorError)
      → IfErr result IsNoMirrorAnswer
      → OnOk result (IfSome o (IsItemIn found.place (index - found.first) (entry, key)))
      → IfSome (option_map (mirror_with v) o)
      (λ s. GivesMirrored (mirror_item_at s index) result entry key)
  gives_item index found entry key there holds (Err why) none gives =
      shown_of v (λ s. GivesMirrored (mirror_item_at s index) (Err why) entry key) o kept
      (λ list is. nothing_said (mirror_item_at (mirror_with v list) index) why entry key none)
  gives_item index found entry key there holds (Ok done) none gives = by_list o kept gives
    where
      by_list : (p : Option (List Text)) → IfSome p (IsMirrored h v places leaves)
          → IfSome p (IsItemIn found.place (index - found.first) (entry, key))
          → IfSome (option_map (mirror_with v) p)
          (λ s. GivesMirrored (mirror_item_at s index) (Ok done) entry key)
      by_list None kept gives = tt
      by_list (Some list) kept gives =
          let held = subst (λ (l : List BatchPlace). HoldsIndex l index found) kept.places_are holds
          in
          let whole : index - 0 ≡ index = omega arith in
          there_is (mirror_with v list) index (omega (arith, kept.all, there))
          ∙ ap Ok (sym (item_found [] list 0 index held.number found (entry, key) held.there held.is
          held.from held.next (omega (arith, kept.all, there)) gives
          ∙ ap (λ (n : ℕ). slice_index_or (all_mirrored list) n ([], [])) whole))

-- ---- what a comparison gives

pub found_by : (h : HashFunction) (v : MirrorView) (places given : List BatchPlace)
    (leaves : Option (List Hash)) (o : Option (List Text)) → IfSome o (IsMirrored h v places leaves)
    → (found : Option ℕ) (items : List (Text × Text)) → given ≡ places
    → IfSome o (λ list. given ≡ places_of_batches list
    → found ≡ first_difference (all_mirrored list) items)
    → IfSome (option_map (mirror_with v) o) (λ s. found ≡ first_difference s.items items)
found_by h v places given leaves None kept found items same is = tt
found_by h v places given leaves (Some list) kept found items same is =
    is (same ∙ kept.places_are)
