-- Items that one record holds.
use Rattle.std.proofs.Common.{◌≡◌, ℕ, zero, suc, ◌+◌, ◌-◌, ◌*◌, ◌<◌, ◌≤◌, nat_le, nat_lt, List, []}
use Rattle.std.proofs.Common.{◌∷◌, ◌++◌, length, Bool, true, false, Option, Some, None, refl, ap}
use Rattle.std.proofs.Common.{sym}
use Rattle.std.proofs.Common.{◌∙◌, ◌||◌, add-one, take, arith, drop, get_or, if◌then◌else◌}
use Rattle.std.specs.Prelude.{flat_map}
use Rattle.std.specs.List.{list_any}
use Rattle.std.proofs.lemmas.Bool.{le-leb, leb-false, leb-true, ltb-false}
use Rattle.std.proofs.lemmas.Bool.Decides.{nat_tests}
use Rattle.std.proofs.lemmas.List.{drop_all, drop_more, length-append}
use Rattle.byte_formats.specs.Types.{Text}
use Rattle.issuance_log.specs.Batches.{fitting, has_large, is_large, most_listed}
use Rattle.issuance_log.specs.Folds.{LogView}
use Rattle.issuance_log.specs.Records.{CanBeBatch, HaveShortItems, batch_record, item_text}
use Rattle.issuance_log.specs.Refusals.{batch_refusal}
use Rattle.issuance_log.specs.Settings.{most_item}
use Rattle.issuance_log.specs.declared.error.LogError.{LogError}

pub length-item : (x : Text × Text) → length (item_text x) ≡ 4 + length x.0 + length x.1
length-item x = simp length-append (omega arith)

pub length-batch : (items : List (Text × Text))
    → length (batch_record items) ≡ 3 + length (flat_map item_text items)
unfolding batch_record
length-batch items = simp length-append (omega arith)

-- each item has four bytes at least
pub four_each : (items : List (Text × Text))
    → 4 * length items ≤ length (flat_map item_text items)
four_each [] = omega arith
four_each (x ∷ items) =
    let rest = four_each items in
    let sum = length-append (item_text x) (flat_map item_text items) in
    omega (arith, rest, sum, length-item x)

lt-leb : (a b : ℕ) → b < a → nat_le a b ≡ false
lt-leb a b less = grind (arith, nat_tests)

-- one item more that fits, or doesn't
pub fitting_on : (left : ℕ) (x : Text × Text) (items : List (Text × Text))
    → 4 + length x.0 + length x.1 ≤ left
    → fitting left (x ∷ items) ≡ fitting (left - (4 + length x.0 + length x.1)) items + 1
unfolding fitting
fitting_on left x items few =
    let size = length-item x in
    ap (λ (n : ℕ). if nat_le n left then fitting (left - n) items + 1 else 0) size
    ∙ ap (λ (b : Bool). if b then fitting (left - (4 + length x.0 + length x.1)) items + 1 else 0)
    (le-leb (4 + length x.0 + length x.1) left few)

pub fitting_not : (left : ℕ) (x : Text × Text) (items : List (Text × Text))
    → left < 4 + length x.0 + length x.1 → fitting left (x ∷ items) ≡ 0
unfolding fitting
fitting_not left x items many =
    let size = length-item x in
    ap (λ (n : ℕ). if nat_le n left then fitting (left - n) items + 1 else 0) size
    ∙ ap (λ (b : Bool). if b then fitting (left - (4 + length x.0 + length x.1)) items + 1 else 0)
    (lt-leb (4 + length x.0 + length x.1) left many)

pub fitting_none : (left : ℕ) → fitting left [] ≡ 0
unfolding fitting
fitting_none left = refl

pub fitting_most : (left : ℕ) (items : List (Text × Text)) → fitting left items ≤ length items
unfolding fitting
fitting_most left [] = omega arith
fitting_most left (x ∷ items) =
    go (nat_le (length (item_text x)) left) (fitting_most (left - length (item_text x)) items)
  where
    go : (b : Bool) → fitting (left - length (item_text x)) items ≤ length items
        → (if b then fitting (left - length (item_text x)) items + 1 else 0) ≤ suc (length items)
    go true rest = omega (arith, rest)
    go false rest = omega arith

-- items that all fit have no more bytes
pub fitting_all : (left : ℕ) (items : List (Text × Text)) → fitting left items ≡ length items
    → length (flat_map item_text items) ≤ left
unfolding fitting
fitting_all left [] is = omega arith
fitting_all left (x ∷ items) is = go (nat_le (length (item_text x)) left) refl is
    (λ all. fitting_all (left - length (item_text x)) items all)
  where
    go : (b : Bool) → nat_le (length (item_text x)) left ≡ b
        → (if b then fitting (left - length (item_text x)) items + 1 else 0) ≡ suc (length items)
        → (fitting (left - length (item_text x)) items ≡ length items
        → length (flat_map item_text items) ≤ left - length (item_text x))
        → length (item_text x ++ flat_map item_text items) ≤ left
    go false test e later = absurd (omega (arith, e))
    go true test e later =
        let one = leb-true (length (item_text x)) left test in
        let rest = later (omega (arith, e)) in
        let sum = length-append (item_text x) (flat_map item_text items) in
        omega (arith, one, rest, sum)

-- items that have no more bytes all fit
pub all_fit : (left : ℕ) (items : List (Text × Text))
    → length (flat_map item_text items) ≤ left → fitting left items ≡ length items
unfolding fitting
all_fit left [] few = refl
all_fit left (x ∷ items) few =
    let sum = length-append (item_text x) (flat_map item_text items) in
    let rest = all_fit (left - length (item_text x)) items (omega (arith, few, sum)) in
    ap (λ (b : Bool). if b then fitting (left - length (item_text x)) items + 1 else 0)
    (le-leb (length (item_text x)) left (omega (arith, few, sum)))
    ∙ omega (arith, rest)

-- those that fit have no more bytes
pub fitting_few : (left : ℕ) (items : List (Text × Text))
    → length (flat_map item_text (take (fitting left items) items)) ≤ left
unfolding fitting
fitting_few left [] = omega arith
fitting_few left (x ∷ items) =
    go (nat_le (length (item_text x)) left) refl
    (fitting_few (left - length (item_text x)) items)
  where
    go : (b : Bool) → nat_le (length (item_text x)) left ≡ b
        → length (flat_map item_text (take (fitting (left - length (item_text x)) items) items))
        ≤ left - length (item_text x)
        → length (flat_map item_text (take (if b
        then fitting (left - length (item_text x)) items + 1 else 0) (x ∷ items))) ≤ left
    go false test rest = omega arith
    go true test rest =
        let n = fitting (left - length (item_text x)) items in
        let one = leb-true (length (item_text x)) left test in
        let taken : take (n + 1) (x ∷ items) ≡ x ∷ take n items =
        ap (λ (m : ℕ). take m (x ∷ items)) (add-one n) in
        let sum = ap (λ (l : List (Text × Text)). length (flat_map item_text l)) taken
        ∙ length-append (item_text x) (flat_map item_text (take n items)) in
        omega (arith, one, rest, sum)

-- and more of them have more
pub fitting_greatest : (left : ℕ) (items : List (Text × Text)) (n : ℕ) → fitting left items < n
    → n ≤ length items → left < length (flat_map item_text (take n items))
unfolding fitting
fitting_greatest left [] n above within = absurd (omega (arith, above, within))
fitting_greatest left (x ∷ items) zero above within = absurd (omega (arith, above))
fitting_greatest left (x ∷ items) (suc n) above within =
    go (nat_le (length (item_text x)) left) refl above
    (λ later. fitting_greatest (left - length (item_text x)) items n later
    (omega (arith, within)))
  where
    sum : length (item_text x ++ flat_map item_text (take n items))
        ≡ length (item_text x) + length (flat_map item_text (take n items))
    sum = length-append (item_text x) (flat_map item_text (take n items))

    go : (b : Bool) → nat_le (length (item_text x)) left ≡ b
        → (if b then fitting (left - length (item_text x)) items + 1 else 0) < suc n
        → (fitting (left - length (item_text x)) items < n
        → left - length (item_text x) < length (flat_map item_text (take n items)))
        → left < length (item_text x ++ flat_map item_text (take n items))
    go false test more later =
        let long = leb-false (length (item_text x)) left test in omega (arith, long, sum)
    go true test more later =
        let rest = later (omega (arith, more)) in omega (arith, rest, sum)

-- items of which none is large are short
pub none_large : (items : List (Text × Text)) → has_large items ≡ false → HaveShortItems items
none_large [] is = tt
none_large (x ∷ items) is = go (is_large x) refl is (λ none. none_large items none)
  where
    go : (b : Bool) → is_large x ≡ b → (b || list_any is_large items) ≡ false
        → (list_any is_large items ≡ false → HaveShortItems items) → HaveShortItems (x ∷ items)
    go true test e later = let wrong : true ≡ false = e in absurd cc
    go false test e later =
        let few = ltb-false most_item (length x.0 + length x.1) test in
        ((omega (arith, few), omega (arith, few)), later e)

pub can_be : (items : List (Text × Text)) → 1 ≤ length items
    → fitting most_listed items ≡ length items → has_large items ≡ false → CanBeBatch items
can_be items some all large =
    let few = fitting_all most_listed items all in
    let count = four_each items in
    record { some = some; few = omega (arith, few, count); short = none_large items large }

-- a refusal that is none of its tests
not_first : (b : Bool) (e : LogError) (o : Option LogError) → (if b then Some e else o) ≡ None
    → (b ≡ false) × (o ≡ None)
not_first true e o is = let wrong : Some e ≡ None = is in absurd cc
not_first false e o is = (refl, is)

-- What the tests of items say that are added together, if none of them refuses.
pub record PassTests (v : LogView) (items : List (Text × Text)) : Type 0 where
  pub within : v.size + length items ≤ v.settings.limit
  pub fit : fitting most_listed items ≡ length items
  pub large : has_large items ≡ false

pub unrefused : (v : LogView) (broken : Bool) (end : ℕ) (items : List (Text × Text))
    → batch_refusal v broken end items ≡ None → PassTests v items
unfolding batch_refusal
unrefused v broken end items none =
    let one = not_first (nat_lt v.settings.limit (v.size + length items)) _ _ none in
    let two = not_first (nat_lt (fitting most_listed items) (length items)) _ _ one.1 in
    let three = not_first (has_large items) _ _ two.1 in
    let most = fitting_most most_listed items in
    let least = ltb-false (fitting most_listed items) (length items) two.0 in
    record {
      within = ltb-false v.settings.limit (v.size + length items) one.0;
      fit = omega (arith, most, least);
      large = three.0;
    }

pub unrefused_batch : (v : LogView) (broken : Bool) (end : ℕ) (items : List (Text × Text))
    → 1 ≤ length items → batch_refusal v broken end items ≡ None → CanBeBatch items
unrefused_batch v broken end items some none =
    let pass = unrefused v broken end items none in can_be items some pass.fit pass.large

-- ---- item by item

module _ (items : List (Text × Text)) (i : ℕ) (x : Text × Text) (there : i < length items)
    (is : x ≡ get_or items i x) where
  pub next_is : drop i items ≡ x ∷ drop (i + 1) items
  next_is =
      drop_more items i x there ∙ ap (λ (y : Text × Text). y ∷ drop (i + 1) items) (sym is)

  -- how many fit, where this one does, or doesn't
  pub fits_on : (wanted count left rest : ℕ) → wanted ≡ count + fitting left (drop i items)
      → 4 + length x.0 + length x.1 + rest ≡ left
      → wanted ≡ (count + 1) + fitting rest (drop (i + 1) items)
  fits_on wanted count left rest so_far fit =
      let step = ap (fitting left) next_is
      ∙ fitting_on left x (drop (i + 1) items) (omega (arith, fit)) in
      let rest_is : left - (4 + length x.0 + length x.1) ≡ rest = omega (arith, fit) in
      let later = ap (λ (n : ℕ). fitting n (drop (i + 1) items)) rest_is in
      omega (arith, so_far, step, later)

  pub fits_not : (wanted count left : ℕ) → wanted ≡ count + fitting left (drop i items)
      → left < 4 + length x.0 + length x.1 → count ≡ wanted
  fits_not wanted count left so_far many =
      let step = ap (fitting left) next_is ∙ fitting_not left x (drop (i + 1) items) many in
      omega (arith, so_far, step)

pub fits_end : (items : List (Text × Text)) (i wanted count left : ℕ) → length items ≤ i
    → wanted ≡ count + fitting left (drop i items) → count ≡ wanted
fits_end items i wanted count left past so_far =
    let none = ap (fitting left) (drop_all i items past) ∙ fitting_none left in
    omega (arith, so_far, none)
