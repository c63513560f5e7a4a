-- The first difference is the first, and the next Batch is the longest.
use Rattle.std.proofs.Common.{◌≡◌, ◌⊎◌, inl, inr, ℕ, zero, suc, ◌+◌, ◌-◌, ◌<◌, ◌≤◌, ◌&&◌, ◌||◌, not}
use Rattle.std.proofs.Common.{nat_le, Bool, true, false, List, [], ◌∷◌, ◌++◌, length, take, min}
use Rattle.std.proofs.Common.{Some, None, refl, ap, sym, ◌∙◌, arith, slice_index_or}
use Rattle.std.proofs.Common.{if◌then◌else◌}
use Rattle.std.specs.List.{list_any}
use Rattle.std.specs.Prelude.{flat_map}
use Rattle.std.specs.Str.{bytes_eq}
use Rattle.std.proofs.lemmas.Bool.{and_parts, leb-false, leb-true}
use Rattle.std.proofs.lemmas.List.{length-append}
use Rattle.std.proofs.lemmas.Option.{same_Some}
use Rattle.std.proofs.lemmas.Slice.Eq.{bytes_eq-Decides}
use Rattle.byte_formats.specs.Types.{Text}
use Rattle.byte_formats.proofs.Values.{same_bytes}
use Rattle.issuance_log.specs.Batches.{has_large, is_large}
use Rattle.issuance_log.specs.Records.{item_text}
use Rattle.mirror_core.specs.Refusals.{batch_count, difference_from, is_same_item}

-- ---- differences

-- items that have the same bytes
same_item : (x y : Text × Text) → is_same_item x y ≡ true → x ≡ y
same_item x y is =
    let both = and_parts (bytes_eq x.0 y.0) (bytes_eq x.1 y.1) is in
    ap (λ (t : Text). (t, x.1)) ((bytes_eq-Decides x.0 y.0).0 both.0)
    ∙ ap (λ (t : Text). (y.0, t)) ((bytes_eq-Decides x.1 y.1).0 both.1)

apart_item : (x y : Text × Text) → is_same_item x y ≡ false → x ≡ y → ⊥
apart_item x y differs same =
    let whole : is_same_item y y ≡ true =
    ap (λ (b : Bool). b && bytes_eq y.1 y.1) (same_bytes y.0) ∙ same_bytes y.1 in
    let wrong : true ≡ false =
    sym whole ∙ sym (ap (λ (z : Text × Text). is_same_item z y) same) ∙ differs in
    absurd cc

-- What the number of the first difference says, after so many.
pub record IsFirstOf (n number : ℕ) (held items : List (Text × Text)) : Type 0 where
  pub from : n ≤ number
  pub before : take (number - n) held ≡ take (number - n) items
  pub in_held : number - n < length held
  pub in_items : number - n < length items
  pub differs : slice_index_or held (number - n) ([], [])
      ≡ slice_index_or items (number - n) ([], []) → ⊥

pub first_of : (n number : ℕ) (held items : List (Text × Text))
    → difference_from n held items ≡ Some number → IsFirstOf n number held items
unfolding difference_from
first_of n number [] items is = let wrong : None ≡ Some number = is in absurd cc
first_of n number (x ∷ held) [] is = let wrong : None ≡ Some number = is in absurd cc
first_of n number (x ∷ held) (y ∷ items) is =
    go (is_same_item x y) refl is (λ e. first_of (n + 1) number held items e)
  where
    go : (b : Bool) → is_same_item x y ≡ b
        → (if b then difference_from (n + 1) held items else Some n) ≡ Some number
        → (difference_from (n + 1) held items ≡ Some number
        → IsFirstOf (n + 1) number held items) → IsFirstOf n number (x ∷ held) (y ∷ items)
    go false differs e later =
        let here : n ≡ number = same_Some n number e in
        let none : 0 ≡ number - n = omega (arith, here) in
        record {
          from = omega (arith, here);
          before = ap (λ (m : ℕ). take m (x ∷ held)) (sym none)
              ∙ ap (λ (m : ℕ). take m (y ∷ items)) none;
          in_held = omega (arith, none);
          in_items = omega (arith, none);
          differs = λ same. apart_item x y differs
              (ap (λ (m : ℕ). slice_index_or (x ∷ held) m ([], [])) none ∙ same
              ∙ sym (ap (λ (m : ℕ). slice_index_or (y ∷ items) m ([], [])) none));
        }
    go true same e later =
        let rest = later e in
        let one = rest.from in
        let next : number - n ≡ suc (number - (n + 1)) = omega (arith, one) in
        record {
          from = omega (arith, one);
          before = ap (λ (m : ℕ). take m (x ∷ held)) next
              ∙ ap (λ (z : Text × Text). z ∷ take (number - (n + 1)) held) (same_item x y same)
              ∙ ap (λ (l : List (Text × Text)). y ∷ l) rest.before
              ∙ sym (ap (λ (m : ℕ). take m (y ∷ items)) next);
          in_held = omega (arith, rest.in_held, next);
          in_items = omega (arith, rest.in_items, next);
          differs = λ alike. rest.differs
              (sym (ap (λ (m : ℕ). slice_index_or (x ∷ held) m ([], [])) next) ∙ alike
              ∙ ap (λ (m : ℕ). slice_index_or (y ∷ items) m ([], [])) next);
        }

pub none_of : (n : ℕ) (held items : List (Text × Text)) → difference_from n held items ≡ None
    → take (min (length held) (length items)) held
    ≡ take (min (length held) (length items)) items
unfolding difference_from
none_of n [] items is =
    let none : min 0 (length items) ≡ 0 = omega arith in
    ap (λ (m : ℕ). take m []) none ∙ sym (ap (λ (m : ℕ). take m items) none)
none_of n (x ∷ held) [] is =
    let none : min (suc (length held)) 0 ≡ 0 = omega arith in
    ap (λ (m : ℕ). take m (x ∷ held)) none ∙ sym (ap (λ (m : ℕ). take m []) none)
none_of n (x ∷ held) (y ∷ items) is =
    go (is_same_item x y) refl is (λ e. none_of (n + 1) held items e)
  where
    least : ℕ
    least = min (length held) (length items)

    next : min (suc (length held)) (suc (length items)) ≡ suc least
    next = omega arith

    go : (b : Bool) → is_same_item x y ≡ b
        → (if b then difference_from (n + 1) held items else Some n) ≡ None
        → (difference_from (n + 1) held items ≡ None → take least held ≡ take least items)
        → take (min (suc (length held)) (suc (length items))) (x ∷ held)
        ≡ take (min (suc (length held)) (suc (length items))) (y ∷ items)
    go false differs e later = let wrong : Some n ≡ None = e in absurd cc
    go true same e later =
        ap (λ (m : ℕ). take m (x ∷ held)) next
        ∙ ap (λ (z : Text × Text). z ∷ take least held) (same_item x y same)
        ∙ ap (λ (l : List (Text × Text)). y ∷ l) (later e)
        ∙ sym (ap (λ (m : ℕ). take m (y ∷ items)) next)

-- ---- the longest

pub more_is_large : (left : ℕ) (items : List (Text × Text)) (n : ℕ) → batch_count left items < n
    → n ≤ length items → (has_large (take n items) ≡ true)
    ⊎ (left < length (flat_map item_text (take n items)))
unfolding batch_count
more_is_large left [] n above within = absurd (omega (arith, above, within))
more_is_large left (x ∷ items) zero above within = absurd (omega (arith, above))
more_is_large left (x ∷ items) (suc n) above within =
    go (is_large x) refl (nat_le (length (item_text x)) left) refl above
    (λ later. more_is_large (left - length (item_text x)) items n later (omega (arith, within)))
  where
    rest : ℕ
    rest = left - length (item_text x)

    sum : length (item_text x ++ flat_map item_text (take n items))
        ≡ length (item_text x) + length (flat_map item_text (take n items))
    sum = length-append (item_text x) (flat_map item_text (take n items))

    or_true : (b : Bool) → (b || true) ≡ true
    or_true true = refl
    or_true false = refl

    either : length (item_text x) ≤ left → (has_large (take n items) ≡ true)
        ⊎ (rest < length (flat_map item_text (take n items)))
        → ((is_large x || list_any is_large (take n items)) ≡ true)
        ⊎ (left < length (item_text x ++ flat_map item_text (take n items)))
    either fits (inl large) =
        inl (ap (λ (b : Bool). is_large x || b) large ∙ or_true (is_large x))
    either fits (inr many) = inr (omega (arith, many, sum, fits))

    go : (large : Bool) → is_large x ≡ large → (fits : Bool)
        → nat_le (length (item_text x)) left ≡ fits
        → (if not large && fits then batch_count rest items + 1 else 0) < suc n
        → (batch_count rest items < n → (has_large (take n items) ≡ true)
        ⊎ (rest < length (flat_map item_text (take n items))))
        → ((is_large x || list_any is_large (take n items)) ≡ true)
        ⊎ (left < length (item_text x ++ flat_map item_text (take n items)))
    go true large fits test more later =
        inl (ap (λ (b : Bool). b || list_any is_large (take n items)) large)
    go false small false test more later =
        let long = leb-false (length (item_text x)) left test in inr (omega (arith, long, sum))
    go false small true test more later =
        either (leb-true (length (item_text x)) left test) (later (omega (arith, more)))
