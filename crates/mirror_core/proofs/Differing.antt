-- The first item that differs, Batch by Batch and item by item.
use Rattle.std.proofs.Common.{◌≡◌, ℕ, zero, suc, ◌+◌, ◌-◌, ◌<◌, ◌≤◌, true, false, List, []}
use Rattle.std.proofs.Common.{◌∷◌, ◌++◌, length, drop, Option, Some, None, IfSome, refl, ap}
use Rattle.std.proofs.Common.{sym, subst, ◌∙◌, arith, min, Bool, if◌then◌else◌, slice_index_or}
use Rattle.std.specs.List.{zip}
use Rattle.std.specs.Prelude.{flat_map}
use Rattle.std.specs.Option.{unwrap_or}
use Rattle.std.proofs.lemmas.List.{append_assoc, drop-drop, drop_all, drop_more}
use Rattle.std.proofs.lemmas.List.{length-drop}
use Rattle.byte_formats.specs.Offsets.{IsBytes}
use Rattle.byte_formats.specs.Types.{HashFunction, Text}
use Rattle.entry_list.specs.Items.{AreItems, ItemLists}
use Rattle.issuance_log.specs.Batches.{leading_item, leading_items}
use Rattle.journal_core.specs.Format.{following}
use Rattle.journal_core.proofs.Records.{following-append}
use Rattle.mirror_core.specs.Places.{IsBodyAt, no_place, place_with, places_after}
use Rattle.mirror_core.specs.Places.{places_of_batches}
use Rattle.mirror_core.specs.Records.{all_mirrored, mirrored_in}
use Rattle.mirror_core.specs.Refusals.{difference_from, first_difference, is_same_item, pairs_of}
use Rattle.mirror_core.specs.declared.kept.BatchPlace.{BatchPlace}
use Rattle.issuance_log.proofs.Leading.{begins, leading_none, leading_on}
use Rattle.mirror_core.proofs.ReadBodies.{batch_leading}

-- ---- the items of a list, each with its key

pub length-pairs : (h : HashFunction) (items : ItemLists) → AreItems h items
    → length (pairs_of items) ≡ length items.entries
length-pairs h items are = go items.entries items.keys are.even
  where
    go : (entries keys : List Text) → length keys ≡ length entries
        → length (zip entries keys) ≡ length entries
    go [] keys even = refl
    go (e ∷ entries) [] even = absurd (omega (arith, even))
    go (e ∷ entries) (k ∷ keys) even = ap suc (go entries keys (omega (arith, even)))

pub pair_at : (items : ItemLists) (i : ℕ) → i < length (pairs_of items)
    → slice_index_or (pairs_of items) i ([], [])
    ≡ (slice_index_or items.entries i [], slice_index_or items.keys i [])
pair_at items i there = go items.entries items.keys i there
  where
    go : (entries keys : List Text) (i : ℕ) → i < length (zip entries keys)
        → slice_index_or (zip entries keys) i ([], [])
        ≡ (slice_index_or entries i [], slice_index_or keys i [])
    go [] keys i there = absurd (omega (arith, there))
    go (e ∷ entries) [] i there = absurd (omega (arith, there))
    go (e ∷ entries) (k ∷ keys) zero there = refl
    go (e ∷ entries) (k ∷ keys) (suc i) there = go entries keys i (omega (arith, there))

-- so is the one that is read
pub pair_is : (items : ItemLists) (i : ℕ) (entry key : Text) → i < length (pairs_of items)
    → entry ≡ slice_index_or items.entries i [] → key ≡ slice_index_or items.keys i []
    → (entry, key) ≡ slice_index_or (pairs_of items) i ([], [])
pair_is items i entry key there one two =
    ap (λ (t : Text). (t, key)) one
    ∙ ap (λ (t : Text). (slice_index_or items.entries i [], t)) two ∙ sym (pair_at items i there)

-- there are no more than entries
pub few_pairs : (items : ItemLists) → length (pairs_of items) ≤ length items.entries
few_pairs items = go items.entries items.keys
  where
    go : (entries keys : List Text) → length (zip entries keys) ≤ length entries
    go [] keys = omega arith
    go (e ∷ entries) [] = omega arith
    go (e ∷ entries) (k ∷ keys) = let rest = go entries keys in omega (arith, rest)

-- the items from a number on
pub rest_is : (ys : List (Text × Text)) (n : ℕ) (y : Text × Text) → n < length ys
    → y ≡ slice_index_or ys n ([], []) → drop n ys ≡ y ∷ drop (n + 1) ys
rest_is ys n y there is =
    drop_more ys n ([], []) there
    ∙ ap (λ (z : Text × Text). z ∷ drop (n + 1) ys) (sym is)

-- ---- differences

pub none_held : (n : ℕ) (items : List (Text × Text)) → difference_from n [] items ≡ None
unfolding difference_from
none_held n items = refl

pub none_given : (n : ℕ) (held : List (Text × Text)) → difference_from n held [] ≡ None
unfolding difference_from
none_given n [] = refl
none_given n (x ∷ held) = refl

pub same_on : (n : ℕ) (x y : Text × Text) (held items : List (Text × Text))
    → is_same_item x y ≡ true
    → difference_from n (x ∷ held) (y ∷ items) ≡ difference_from (n + 1) held items
unfolding difference_from
same_on n x y held items is =
    ap (λ (b : Bool). if b then difference_from (n + 1) held items else Some n) is

pub differs_here : (n : ℕ) (x y : Text × Text) (held items : List (Text × Text))
    → is_same_item x y ≡ false → difference_from n (x ∷ held) (y ∷ items) ≡ Some n
unfolding difference_from
differs_here n x y held items is =
    ap (λ (b : Bool). if b then difference_from (n + 1) held items else Some n) is

-- more items after some of which none differs
pub same_before : (n m : ℕ) (held more items : List (Text × Text))
    → difference_from n held items ≡ None → m ≡ min (n + length held) (n + length items)
    → difference_from n (held ++ more) items ≡ difference_from m more (drop (m - n) items)
unfolding difference_from
same_before n m [] more items none is =
    let same : n ≡ m = omega (arith, is) in
    let all : m - n ≡ 0 = omega (arith, is) in
    ap (λ (k : ℕ). difference_from k more items) same
    ∙ ap (λ (k : ℕ). difference_from m more (drop k items)) (sym all)
same_before n m (x ∷ held) more [] none is =
    let same : m - n ≡ 0 = omega (arith, is) in
    sym (ap (λ (k : ℕ). difference_from m more (drop k [])) same ∙ none_given m more)
same_before n m (x ∷ held) more (y ∷ items) none is =
    go (is_same_item x y) refl none
    (λ same. same_before (n + 1) m held more items same (omega (arith, is)))
  where
    rest : m - n ≡ suc (m - (n + 1))
    rest = omega (arith, is)

    go : (b : Bool) → is_same_item x y ≡ b
        → (if b then difference_from (n + 1) held items else Some n) ≡ None
        → (difference_from (n + 1) held items ≡ None
        → difference_from (n + 1) (held ++ more) items
        ≡ difference_from m more (drop (m - (n + 1)) items))
        → (if is_same_item x y then difference_from (n + 1) (held ++ more) items else Some n)
        ≡ difference_from m more (drop (m - n) (y ∷ items))
    go false same e later = let wrong : Some n ≡ None = e in absurd cc
    go true same e later =
        ap (λ (b : Bool). if b then difference_from (n + 1) (held ++ more) items else Some n) same
        ∙ later e
        ∙ ap (λ (k : ℕ). difference_from m more (drop k (y ∷ items))) (sym rest)

-- some of which one differs
pub differs_before : (n k : ℕ) (held more items : List (Text × Text))
    → difference_from n held items ≡ Some k → difference_from n (held ++ more) items ≡ Some k
unfolding difference_from
differs_before n k [] more items is = let wrong : None ≡ Some k = is in absurd cc
differs_before n k (x ∷ held) more [] is = let wrong : None ≡ Some k = is in absurd cc
differs_before n k (x ∷ held) more (y ∷ items) is =
    go (is_same_item x y) is (λ e. differs_before (n + 1) k held more items e)
  where
    go : (b : Bool) → (if b then difference_from (n + 1) held items else Some n) ≡ Some k
        → (difference_from (n + 1) held items ≡ Some k
        → difference_from (n + 1) (held ++ more) items ≡ Some k)
        → (if b then difference_from (n + 1) (held ++ more) items else Some n) ≡ Some k
    go true e later = later e
    go false e later = e

-- ---- one Batch, item by item

-- What is left of a Batch decides, from this number on.
pub record IsCompared (list rest : Text) (from number total : ℕ) (items : List (Text × Text))
    : Type 0 where
  pub size : length items ≡ total
  pub left : IsBytes rest
  pub same : difference_from number (leading_items rest) (drop number items)
      ≡ difference_from from (leading_items list) (drop from items)
  pub counted : number + length (leading_items rest) ≡ from + length (leading_items list)
  pub within : number ≤ total

module _ (list rest : Text) (from number total : ℕ) (items : List (Text × Text))
    (so_far : IsCompared list rest from number total items) where
  -- no more items are given
  pub compared_out : number ≡ total
      → difference_from from (leading_items list) (drop from items) ≡ None
  compared_out out =
      sym so_far.same
      ∙ ap (difference_from number (leading_items rest))
      (drop_all number items (omega (arith, so_far.size, out)))
      ∙ none_given number (leading_items rest)

  module _ (x : Text × Text) (later : Text) (is : leading_item rest ≡ Some (x, later))
      (below : number < total) (y : Text × Text)
      (y_is : y ≡ slice_index_or items number ([], [])) where
    on : leading_items rest ≡ x ∷ leading_items later
    on = leading_on rest x later so_far.left is

    next : drop number items ≡ y ∷ drop (number + 1) items
    next = rest_is items number y (omega (arith, below, so_far.size)) y_is

    both_on : difference_from number (x ∷ leading_items later) (y ∷ drop (number + 1) items)
        ≡ difference_from from (leading_items list) (drop from items)
    both_on =
        sym (ap (λ (l : List (Text × Text)). difference_from number l (drop number items)) on
        ∙ ap (difference_from number (x ∷ leading_items later)) next) ∙ so_far.same

    pub compared_on : is_same_item x y ≡ true
        → IsCompared list later from (number + 1) total items
    compared_on same =
        let more = ap length on in
        record {
          size = so_far.size;
          left = (begins rest x later so_far.left is).left;
          same = sym (same_on number x y (leading_items later) (drop (number + 1) items) same)
              ∙ both_on;
          counted = omega (arith, so_far.counted, more);
          within = omega (arith, below);
        }

    pub compared_not : is_same_item x y ≡ false
        → difference_from from (leading_items list) (drop from items) ≡ Some number
    compared_not differs =
        sym both_on ∙ differs_here number x y (leading_items later) (drop (number + 1) items)
        differs

  -- all items were compared
  pub compared_all : leading_item rest ≡ None
      → (difference_from from (leading_items list) (drop from items) ≡ None)
      × (number ≡ from + length (leading_items list))
  compared_all none =
      let nothing = leading_none rest none in
      let empty = ap length nothing in (
        sym so_far.same
            ∙ ap (λ (l : List (Text × Text)). difference_from number l (drop number items)) nothing
            ∙ none_held number (drop number items),
        omega (arith, so_far.counted, empty),
      )

pub more_left : (list rest : Text) (from number total : ℕ) (items : List (Text × Text))
    (x : Text × Text) (later : Text) → leading_item rest ≡ Some (x, later)
    → IsCompared list rest from number total items
    → number < from + length (leading_items list)
more_left list rest from number total items x later is so_far =
    let more = ap length (leading_on rest x later so_far.left is) in
    omega (arith, so_far.counted, more)

-- ---- the Batches, one by one

-- the items of a record, where it is a Batch
abbrev pub batch_with : Option (List (Text × Text)) → List (List (Text × Text))
batch_with (Some items) = items ∷ []
batch_with None = []

-- the items of each Batch in these records
abbrev pub batches_in : List Text → List (List (Text × Text))
batches_in list = flat_map (λ body. batch_with (mirrored_in body)) list

-- all of them
abbrev pub joined : List (List (Text × Text)) → List (Text × Text)
joined batches = flat_map (λ items. items) batches

pub joined_are : (list : List Text) → joined (batches_in list) ≡ all_mirrored list
joined_are [] = refl
joined_are (body ∷ list) = by_body (mirrored_in body) (joined_are list)
  where
    by_body : (o : Option (List (Text × Text)))
        → joined (batches_in list) ≡ all_mirrored list
        → joined (batch_with o ++ batches_in list) ≡ unwrap_or o [] ++ all_mirrored list
    by_body None rest = rest
    by_body (Some items) rest = ap (λ (l : List (Text × Text)). items ++ l) rest

pub as_many : (place first : ℕ) (list : List Text)
    → length (places_after place first list) ≡ length (batches_in list)
unfolding places_after
as_many place first [] = refl
as_many place first (body ∷ list) =
    by_body (mirrored_in body) (λ n. as_many (place + 5 + length body) n list)
  where
    by_body : (o : Option (List (Text × Text)))
        → ((n : ℕ) → length (places_after (place + 5 + length body) n list)
        ≡ length (batches_in list)) → length (place_with place first o
        ++ places_after (place + 5 + length body) (first + length (unwrap_or o [])) list)
        ≡ length (batch_with o ++ batches_in list)
    by_body None rest = rest (first + 0)
    by_body (Some items) rest = ap suc (rest (first + length items))

-- The Batch at a place, if its body was read, has these items.
pub batch_at_place : (before list : List Text) (first i : ℕ) (read : Text)
    → i < length (places_after (following 16 before) first list) → IsBytes read
    → IsBodyAt (slice_index_or (places_after (following 16 before) first list) i no_place).place
    read (before ++ list)
    → leading_items (drop 3 read) ≡ slice_index_or (batches_in list) i []
unfolding places_after
batch_at_place before [] first i read there bytes is = absurd (omega (arith, there))
batch_at_place before (body ∷ list) first i read there bytes is =
    by_body (mirrored_in body) refl i there is
    (λ n j below at. batch_at_place (before ++ body ∷ []) list n j read below bytes at)
  where
    place : ℕ
    place = following 16 before

    moved : (before ++ body ∷ []) ++ list ≡ before ++ body ∷ list
    moved = append_assoc before (body ∷ []) list

    later : ℕ → List BatchPlace
    later n = places_after (place + 5 + length body) n list

    -- the same of the records after this one
    Again : Type 0
    Again = (n j : ℕ) → j < length (places_after (following 16 (before ++ body ∷ [])) n list)
        → IsBodyAt (slice_index_or (places_after (following 16 (before ++ body ∷ [])) n list) j
        no_place).place read ((before ++ body ∷ []) ++ list)
        → leading_items (drop 3 read) ≡ slice_index_or (batches_in list) j []

    after : Again → (n i : ℕ) → i < length (later n)
        → IsBodyAt (slice_index_or (later n) i no_place).place read (before ++ body ∷ list)
        → leading_items (drop 3 read) ≡ slice_index_or (batches_in list) i []
    after again n i there is =
        let far = following-append 16 before body in
        again n i
        (subst (λ (p : ℕ). i < length (places_after p n list)) (sym far) there)
        (subst (λ (p : ℕ). IsBodyAt (slice_index_or (places_after p n list) i no_place).place read
        ((before ++ body ∷ []) ++ list)) (sym far)
        (subst (IsBodyAt (slice_index_or (later n) i no_place).place read) (sym moved) is))

    by_body : (o : Option (List (Text × Text))) → mirrored_in body ≡ o → (i : ℕ)
        → i < length (place_with place first o ++ later (first + length (unwrap_or o [])))
        → IsBodyAt (slice_index_or (place_with place first o
        ++ later (first + length (unwrap_or o []))) i no_place).place read (before ++ body ∷ list)
        → Again
        → leading_items (drop 3 read) ≡ slice_index_or (batch_with o ++ batches_in list) i []
    by_body None batch i there is again = after again (first + 0) i there is
    by_body (Some items) batch zero there is again =
        let same = is before body list refl refl in
        batch_leading read items bytes (ap mirrored_in same ∙ batch)
    by_body (Some items) batch (suc i) there is again =
        after again (first + length items) i (omega (arith, there)) is

-- What the Batches from a number on say decides, after so many items.
abbrev pub Decides : ℕ → ℕ → List (Text × Text) → List Text → Type 0
Decides i count items list =
    first_difference (all_mirrored list) items
    ≡ difference_from count (joined (drop i (batches_in list))) (drop count items)

pub decides_first : (items : List (Text × Text)) (list : List Text) → Decides 0 0 items list
decides_first items list =
    ap (λ (l : List (Text × Text)). difference_from 0 l items) (sym (joined_are list))

module _ (items : List (Text × Text)) (list : List Text) (i count : ℕ) (xs : List (Text × Text))
    (there : i < length (batches_in list)) (xs_are : xs ≡ slice_index_or (batches_in list) i [])
    (so_far : Decides i count items list) where
  split : joined (drop i (batches_in list)) ≡ xs ++ joined (drop (i + 1) (batches_in list))
  split =
      ap joined (drop_more (batches_in list) i [] there)
      ∙ ap (λ (l : List (Text × Text)). l ++ joined (drop (i + 1) (batches_in list))) (sym xs_are)

  -- none of its items differs
  pub decides_on : (next : ℕ) → difference_from count xs (drop count items) ≡ None
      → next ≡ min (count + length xs) (length items) → count ≤ length items
      → Decides (i + 1) next items list
  decides_on next none is within =
      let left = length-drop count items in
      let far : count + (next - count) ≡ next = omega (arith, is, within) in
      so_far
      ∙ ap (λ (l : List (Text × Text)). difference_from count l (drop count items)) split
      ∙ same_before count next xs (joined (drop (i + 1) (batches_in list))) (drop count items) none
      (omega (arith, is, within, left))
      ∙ ap (difference_from next (joined (drop (i + 1) (batches_in list))))
      (drop-drop (next - count) count items
      ∙ ap (λ (n : ℕ). drop n items) (omega (arith, far)))

  -- this one does
  pub decides_not : (number : ℕ) → difference_from count xs (drop count items) ≡ Some number
      → first_difference (all_mirrored list) items ≡ Some number
  decides_not number is =
      so_far
      ∙ ap (λ (l : List (Text × Text)). difference_from count l (drop count items)) split
      ∙ differs_before count number xs (joined (drop (i + 1) (batches_in list)))
      (drop count items) is

-- after the last
pub decides_all : (items : List (Text × Text)) (list : List Text) (i count : ℕ)
    → length (batches_in list) ≤ i → Decides i count items list
    → first_difference (all_mirrored list) items ≡ None
decides_all items list i count past so_far =
    so_far
    ∙ ap (λ l. difference_from count (joined l) (drop count items))
    (drop_all i (batches_in list) past)
    ∙ none_held count (drop count items)

-- where no more items are given
pub decides_out : (items : List (Text × Text)) (list : List Text) (i count : ℕ)
    → length items ≤ count → Decides i count items list
    → first_difference (all_mirrored list) items ≡ None
decides_out items list i count past so_far =
    so_far
    ∙ ap (difference_from count (joined (drop i (batches_in list)))) (drop_all count items past)
    ∙ none_given count (joined (drop i (batches_in list)))

-- ---- by the records, where they are known

-- the items of the Batch at a place, if its body was read
pub batch_is_read : (o : Option (List Text)) (places : List BatchPlace) (i : ℕ)
    (p : BatchPlace) (read bytes : Text) → i < length places → p ≡ slice_index_or places i no_place
    → IsBytes read → bytes ≡ drop 3 read → IfSome o (IsBodyAt p.place read)
    → IfSome o (λ list. places ≡ places_of_batches list → (i < length (batches_in list))
    × (leading_items bytes ≡ slice_index_or (batches_in list) i []))
batch_is_read None places i p read bytes there is known bytes_is body = tt
batch_is_read (Some list) places i p read bytes there is known bytes_is body = λ same.
    let count = ap (λ (l : List BatchPlace). length l) same in
    let many = as_many 16 0 list in
    let here = is ∙ ap (λ (l : List BatchPlace). slice_index_or l i no_place) same in (
      omega (arith, there, count, many),
      ap leading_items bytes_is
          ∙ batch_at_place [] list 0 i read (omega (arith, there, count)) known
          (subst (λ (q : BatchPlace). IsBodyAt q.place read list) here body),
    )

module _ (o : Option (List Text)) (places : List BatchPlace) (items : List (Text × Text))
    (i count : ℕ) (xs : List (Text × Text))
    (so_far : IfSome o (λ list. places ≡ places_of_batches list → Decides i count items list)) where
  module _ (batch : IfSome o (λ list. places ≡ places_of_batches list
      → (i < length (batches_in list)) × (xs ≡ slice_index_or (batches_in list) i []))) where
    pub all_decide : (next : ℕ) → difference_from count xs (drop count items) ≡ None
        → next ≡ min (count + length xs) (length items) → count ≤ length items
        → IfSome o (λ list. places ≡ places_of_batches list → Decides (i + 1) next items list)
    all_decide next none is within = go o so_far batch
      where
        go : (p : Option (List Text))
            → IfSome p (λ list. places ≡ places_of_batches list → Decides i count items list)
            → IfSome p (λ list. places ≡ places_of_batches list
            → (i < length (batches_in list)) × (xs ≡ slice_index_or (batches_in list) i []))
            → IfSome p (λ list. places ≡ places_of_batches list
            → Decides (i + 1) next items list)
        go None before here = tt
        go (Some list) before here = λ same.
            let at = here same in
            decides_on items list i count xs at.0 at.1 (before same) next none is within

    pub all_differ : (number : ℕ) → difference_from count xs (drop count items) ≡ Some number
        → IfSome o (λ list. places ≡ places_of_batches list
        → Some number ≡ first_difference (all_mirrored list) items)
    all_differ number is = go o so_far batch
      where
        go : (p : Option (List Text))
            → IfSome p (λ list. places ≡ places_of_batches list → Decides i count items list)
            → IfSome p (λ list. places ≡ places_of_batches list
            → (i < length (batches_in list)) × (xs ≡ slice_index_or (batches_in list) i []))
            → IfSome p (λ list. places ≡ places_of_batches list
            → Some number ≡ first_difference (all_mirrored list) items)
        go None before here = tt
        go (Some list) before here = λ same.
            let at = here same in
            sym (decides_not items list i count xs at.0 at.1 (before same) number is)

  pub all_out : length items ≤ count → IfSome o (λ list. places ≡ places_of_batches list
      → None ≡ first_difference (all_mirrored list) items)
  all_out past = go o so_far
    where
      go : (p : Option (List Text))
          → IfSome p (λ list. places ≡ places_of_batches list → Decides i count items list)
          → IfSome p (λ list. places ≡ places_of_batches list
          → None ≡ first_difference (all_mirrored list) items)
      go None before = tt
      go (Some list) before = λ same. sym (decides_out items list i count past (before same))

  pub all_done : length places ≤ i → IfSome o (λ list. places ≡ places_of_batches list
      → None ≡ first_difference (all_mirrored list) items)
  all_done past = go o so_far
    where
      go : (p : Option (List Text))
          → IfSome p (λ list. places ≡ places_of_batches list → Decides i count items list)
          → IfSome p (λ list. places ≡ places_of_batches list
          → None ≡ first_difference (all_mirrored list) items)
      go None before = tt
      go (Some list) before = λ same.
          let size = ap (λ (l : List BatchPlace). length l) same in
          let many = as_many 16 0 list in
          sym (decides_all items list i count (omega (arith, size, many, past)) (before same))
