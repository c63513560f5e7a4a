-- The items of the next Batch: as many as fit a record, up to the first that is large.
use Rattle.std.proofs.Common.{◌≡◌, ℕ, zero, suc, ◌+◌, ◌-◌, ◌<◌, ◌≤◌, ◌&&◌, ◌||◌, nat_le, not}
use Rattle.std.proofs.Common.{Bool, true, false, List, [], ◌∷◌, length, take, drop, refl, ap}
use Rattle.std.proofs.Common.{sym, subst, ◌∙◌, arith, add-one, if◌then◌else◌, slice_index_or}
use Rattle.std.specs.List.{list_all, list_any, zip}
use Rattle.std.specs.Prelude.{flat_map}
use Rattle.std.proofs.lemmas.Bool.{le-leb, leb-false, leb-true, ltb-false}
use Rattle.std.proofs.lemmas.Bool.Decides.{nat_tests}
use Rattle.std.proofs.lemmas.List.{drop_all, drop_more, length-append, length-drop}
use Rattle.std.proofs.lemmas.List.{length-take-le}
use Rattle.byte_formats.specs.Types.{HashFunction, Text}
use Rattle.entry_list.specs.Items.{AreItems, ItemLists, is_key_of}
use Rattle.issuance_log.specs.Batches.{has_large, is_large, most_listed}
use Rattle.issuance_log.specs.Records.{CanBeBatch, item_text}
use Rattle.issuance_log.specs.Settings.{most_item}
use Rattle.issuance_log.proofs.Fitting.{four_each, length-item, none_large}
use Rattle.mirror_core.specs.Folds.{is_mirrorable}
use Rattle.mirror_core.specs.Refusals.{batch_count, begins_large, next_batch, pairs_of}

-- an item more that is taken, one that is large, and one that doesn't fit
batch_on : (left : ℕ) (x : Text × Text) (items : List (Text × Text)) → is_large x ≡ false
    → length (item_text x) ≤ left
    → batch_count left (x ∷ items) ≡ batch_count (left - length (item_text x)) items + 1
unfolding batch_count
batch_on left x items small few =
    ap (λ (b : Bool). if not b && nat_le (length (item_text x)) left
    then batch_count (left - length (item_text x)) items + 1 else 0) small
    ∙ ap (λ (b : Bool). if b then batch_count (left - length (item_text x)) items + 1 else 0)
    (le-leb (length (item_text x)) left few)

batch_large : (left : ℕ) (x : Text × Text) (items : List (Text × Text)) → is_large x ≡ true
    → batch_count left (x ∷ items) ≡ 0
unfolding batch_count
batch_large left x items large =
    ap (λ (b : Bool). if not b && nat_le (length (item_text x)) left
    then batch_count (left - length (item_text x)) items + 1 else 0) large

lt-leb : (a b : ℕ) → b < a → nat_le a b ≡ false
lt-leb a b less = grind (arith, nat_tests)

both_false : (b : Bool) → (b && false) ≡ false
both_false true = refl
both_false false = refl

batch_full : (left : ℕ) (x : Text × Text) (items : List (Text × Text))
    → left < length (item_text x) → batch_count left (x ∷ items) ≡ 0
unfolding batch_count
batch_full left x items many =
    ap (λ (b : Bool). if not (is_large x) && b
    then batch_count (left - length (item_text x)) items + 1 else 0)
    (lt-leb (length (item_text x)) left many)
    ∙ ap (λ (b : Bool). if b then batch_count (left - length (item_text x)) items + 1 else 0)
    (both_false (not (is_large x)))

batch_none : (left : ℕ) → batch_count left [] ≡ 0
unfolding batch_count
batch_none left = refl

-- ---- all of them

-- What holds of the first items that are taken: none is large, and they have no more bytes.
pub record AreTaken (left : ℕ) (items : List (Text × Text)) (count : ℕ) : Type 0 where
  pub within : count ≤ length items
  pub few : length (flat_map item_text (take count items)) ≤ left
  pub small : has_large (take count items) ≡ false

pub are_taken : (left : ℕ) (items : List (Text × Text))
    → AreTaken left items (batch_count left items)
are_taken left [] =
    subst (AreTaken left []) (sym (batch_none left))
    (record { within = omega arith; few = omega arith; small = refl })
are_taken left (x ∷ items) =
    by_tests (is_large x) refl (nat_le (length (item_text x)) left) refl
    (are_taken (left - length (item_text x)) items)
  where
    nothing : AreTaken left (x ∷ items) 0
    nothing = record { within = omega arith; few = omega arith; small = refl }

    by_tests : (large : Bool) → is_large x ≡ large → (fits : Bool)
        → nat_le (length (item_text x)) left ≡ fits
        → AreTaken (left - length (item_text x)) items
        (batch_count (left - length (item_text x)) items)
        → AreTaken left (x ∷ items) (batch_count left (x ∷ items))
    by_tests true large fits test rest =
        subst (AreTaken left (x ∷ items)) (sym (batch_large left x items large)) nothing
    by_tests false small false test rest =
        subst (AreTaken left (x ∷ items))
        (sym (batch_full left x items (leb-false (length (item_text x)) left test))) nothing
    by_tests false small true test rest =
        let few = leb-true (length (item_text x)) left test in
        let n = batch_count (left - length (item_text x)) items in
        let sum = length-append (item_text x) (flat_map item_text (take n items)) in
        let one : n + 1 ≡ suc n = add-one n in
        subst (AreTaken left (x ∷ items)) (sym (batch_on left x items small few ∙ one)) (record {
          within = omega (arith, rest.within);
          few = omega (arith, rest.few, sum, few);
          small = ap (λ (b : Bool). b || list_any is_large (take n items)) small ∙ rest.small;
        })

-- they are those of a Batch
pub can_batch : (items : List (Text × Text)) → 1 ≤ batch_count most_listed items
    → CanBeBatch (take (batch_count most_listed items) items)
can_batch items some =
    let n = batch_count most_listed items in
    let are = are_taken most_listed items in
    let count = length-take-le n items are.within in
    let four = four_each (take n items) in
    record {
      some = omega (arith, some, count);
      few = omega (arith, are.few, four);
      short = none_large (take n items) are.small;
    }

-- and there is one if the first isn't large
pub some_taken : (x : Text × Text) (items : List (Text × Text)) → is_large x ≡ false
    → length (item_text x) ≤ 131069 → 1 ≤ batch_count most_listed (x ∷ items)
some_taken x items small few =
    let is = batch_on most_listed x items small few in omega (arith, is)

-- ---- item by item

-- So many are taken before the rest.
abbrev pub AreCounted : ℕ → ℕ → ℕ → List (Text × Text) → Type 0
AreCounted from count left ys =
    batch_count most_listed (drop from ys) ≡ count + batch_count left (drop (from + count) ys)

pub counted_first : (from : ℕ) (ys : List (Text × Text)) → AreCounted from 0 131069 ys
counted_first from ys =
    let here : from + 0 ≡ from = omega arith in
    let same = ap (λ (n : ℕ). batch_count most_listed (drop n ys)) here in
    omega (arith, same)

module _ (ys : List (Text × Text)) (from count left : ℕ) (so_far : AreCounted from count left ys)
  where
    pub counted_end : length ys ≤ from + count → count ≡ batch_count most_listed (drop from ys)
    counted_end past =
        let none = ap (batch_count left) (drop_all (from + count) ys past) ∙ batch_none left in
        omega (arith, so_far, none)

    module _ (x : Text × Text) (there : from + count < length ys)
        (x_is : x ≡ slice_index_or ys (from + count) ([], [])) where
      next : drop (from + count) ys ≡ x ∷ drop (from + count + 1) ys
      next =
          drop_more ys (from + count) ([], []) there
          ∙ ap (λ (z : Text × Text). z ∷ drop (from + count + 1) ys) (sym x_is)

      pub counted_large : is_large x ≡ true → count ≡ batch_count most_listed (drop from ys)
      counted_large large =
          let none = ap (batch_count left) next
          ∙ batch_large left x (drop (from + count + 1) ys) large in
          omega (arith, so_far, none)

      pub counted_full : left < 4 + length x.0 + length x.1
          → count ≡ batch_count most_listed (drop from ys)
      counted_full many =
          let none = ap (batch_count left) next
          ∙ batch_full left x (drop (from + count + 1) ys) (omega (arith, many, length-item x)) in
          omega (arith, so_far, none)

      pub counted_on : (rest : ℕ) → is_large x ≡ false → 4 + length x.0 + length x.1 + rest ≡ left
          → AreCounted from (count + 1) rest ys
      counted_on rest small sum =
          let size = length-item x in
          let one = ap (batch_count left) next
          ∙ batch_on left x (drop (from + count + 1) ys) small (omega (arith, sum, size)) in
          let less : left - length (item_text x) ≡ rest = omega (arith, sum, size) in
          let far : from + count + 1 ≡ from + (count + 1) = omega arith in
          let later = ap (λ (n : ℕ). batch_count n (drop (from + count + 1) ys)) less
          ∙ ap (λ (n : ℕ). batch_count rest (drop n ys)) far in
          omega (arith, so_far, one, later)

-- ---- the next Batch

module _ (ys : List (Text × Text)) (n : ℕ) where
  pub batch_within : n ≤ length ys → n + batch_count most_listed (drop n ys) ≤ length ys
  batch_within few =
      let are = are_taken most_listed (drop n ys) in
      let left = length-drop n ys in
      omega (arith, few, are.within, left)

  pub batch_length : length (next_batch n ys) ≡ batch_count most_listed (drop n ys)
  batch_length =
      length-take-le (batch_count most_listed (drop n ys)) (drop n ys)
      (are_taken most_listed (drop n ys)).within

  pub batch_few : length (flat_map item_text (next_batch n ys)) ≤ 131069
  batch_few = (are_taken most_listed (drop n ys)).few

  module _ (x : Text × Text) (there : n < length ys)
      (x_is : x ≡ slice_index_or ys n ([], [])) where
    split : drop n ys ≡ x ∷ drop (n + 1) ys
    split =
        drop_more ys n ([], []) there
        ∙ ap (λ (z : Text × Text). z ∷ drop (n + 1) ys) (sym x_is)

    pub begins_is : begins_large (drop n ys) ≡ is_large x
    begins_is = ap begins_large split

    pub first_taken : is_large x ≡ false → 1 ≤ batch_count most_listed (drop n ys)
    first_taken small =
        let few = ltb-false most_item (length x.0 + length x.1) small in
        let size = length-item x in
        let some = some_taken x (drop (n + 1) ys) small (omega (arith, few, size)) in
        let same = ap (batch_count most_listed) split in
        omega (arith, some, same)

-- ---- each is an item of a mirror

-- whether the key is the one that has to stand beside the entry
abbrev is_own : HashFunction → Text × Text → Bool
is_own h x = is_key_of h x.0 x.1

own_all : (h : HashFunction) (items : ItemLists) → AreItems h items
    → list_all (is_own h) (pairs_of items) ≡ true
own_all h items are = go items.entries items.keys are.each
  where
    go : (entries keys : List Text) → ((i : ℕ) → i < length entries
        → is_key_of h (slice_index_or entries i []) (slice_index_or keys i []) ≡ true)
        → list_all (is_own h) (zip entries keys) ≡ true
    go [] keys each = refl
    go (e ∷ entries) [] each = refl
    go (e ∷ entries) (k ∷ keys) each =
        ap (λ (b : Bool). b && list_all (is_own h) (zip entries keys)) (each 0 (omega arith))
        ∙ go entries keys (λ i there. each (suc i) (omega (arith, there)))

both_true : (b c : Bool) → (b && c) ≡ true → (b ≡ true) × (c ≡ true)
both_true true c is = (refl, is)
both_true false c is = let wrong : false ≡ true = is in absurd cc

all_drop : (p : Text × Text → Bool) (n : ℕ) (xs : List (Text × Text)) → list_all p xs ≡ true
    → list_all p (drop n xs) ≡ true
all_drop p zero xs all = all
all_drop p (suc n) [] all = refl
all_drop p (suc n) (x ∷ xs) all = all_drop p n xs (both_true (p x) (list_all p xs) all).1

all_take : (p : Text × Text → Bool) (n : ℕ) (xs : List (Text × Text)) → list_all p xs ≡ true
    → list_all p (take n xs) ≡ true
all_take p zero xs all = refl
all_take p (suc n) [] all = refl
all_take p (suc n) (x ∷ xs) all =
    let both = both_true (p x) (list_all p xs) all in
    ap (λ (b : Bool). b && list_all p (take n xs)) both.0 ∙ all_take p n xs both.1

none_or : (b c : Bool) → (b || c) ≡ false → (b ≡ false) × (c ≡ false)
none_or false c is = (refl, is)
none_or true c is = let wrong : true ≡ false = is in absurd cc

all_mirrorable : (h : HashFunction) (xs : List (Text × Text)) → has_large xs ≡ false
    → list_all (is_own h) xs ≡ true → list_all (is_mirrorable h) xs ≡ true
all_mirrorable h [] small own = refl
all_mirrorable h (x ∷ xs) small own =
    let one = none_or (is_large x) (list_any is_large xs) small in
    let two = both_true (is_own h x) (list_all (is_own h) xs) own in
    ap (λ (b : Bool). (not b && is_own h x) && list_all (is_mirrorable h) xs) one.0
    ∙ ap (λ (b : Bool). b && list_all (is_mirrorable h) xs) two.0
    ∙ all_mirrorable h xs one.1 two.1

pub batch_each : (h : HashFunction) (items : ItemLists) (n : ℕ) → AreItems h items
    → list_all (is_mirrorable h) (next_batch n (pairs_of items)) ≡ true
batch_each h items n are =
    let ys = drop n (pairs_of items) in
    all_mirrorable h (next_batch n (pairs_of items)) (are_taken most_listed ys).small
    (all_take (is_own h) (batch_count most_listed ys) ys
    (all_drop (is_own h) n (pairs_of items) (own_all h items are)))
