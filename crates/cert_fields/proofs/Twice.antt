-- Identifiers that stand twice: in a list that is cut in two, in one that is put in order, and in a
-- block.
use denote.Ref.{Bor}
use Rattle.std.proofs.Common.{◌≡◌, ℕ, zero, suc, ◌+◌, ◌<◌, ◌≤◌, Bool, true, false, ◌||◌, List, []}
use Rattle.std.proofs.Common.{◌∷◌, ◌++◌, ◌-◌, length, slice_index_or, slice_set, take, drop}
use Rattle.std.proofs.Common.{IsPermutation, Result, Ok, Err, is_ok, refl, sym, ap, ◌∙◌, arith, inl}
use Rattle.std.proofs.Common.{inr, true≢false, Ordering, Less, Equal, Greater, nat_cmp, is_eq}
use Rattle.std.proofs.Common.{is_lt}
use Rattle.std.specs.Str.{bytes_eq}
use Rattle.std.specs.List.{list_any, AllByRecursion, IsDistinct}
use Rattle.std.specs.List.Sorted.{IsStrictlySortedBy, IsSearchInRange, IsBinarySearchResult}
use Rattle.std.specs.Ordering.{eq_by_cmp, ordering_reverse}
use Rattle.std.specs.Cmp.{IsTotalOrder}
use Rattle.std.specs.Cmp.Lexicographic.{slice_cmp}
use Rattle.std.proofs.lemmas.Bool.{or_parts, or_from, cases_lt}
use Rattle.std.proofs.lemmas.Cmp.{lists_total, nat_cmp_total}
use Rattle.std.proofs.lemmas.List.{get_or-map, length-map, map-append, take_more_set}
use Rattle.std.proofs.lemmas.List.{get_or_default, length-take, take_at}
use Rattle.std.proofs.lemmas.List.Folds.{list_any-append, list_any_at, list_any_none}
use Rattle.std.proofs.lemmas.List.Sorted.{IsPermutation-map, IsPermutation-sym, length_permutation}
use Rattle.std.proofs.lemmas.List.Sorted.{list_any-IsPermutation, searchable_from_sorted}
use Rattle.std.proofs.lemmas.Map.Keys.{IsDistinct-IsPermutation, IsDistinct-from_sorted}
use Rattle.std.proofs.lemmas.Map.Keys.{sorted_from_all_adjacent}
use Rattle.std.proofs.lemmas.Map.Text.{is_eq-slice_cmp}
use Rattle.std.proofs.lemmas.Slice.Eq.{bytes_eq-Decides}
use Rattle.byte_formats.specs.Types.{Text}
use Rattle.byte_formats.proofs.Values.{or_swap}
use Rattle.cert_fields.specs.Extensions.{is_among, are_repeated, any_among}
use Rattle.cert_fields.specs.Views.{texts, AreSorted}

-- ---- tests

pub same_true : (a b : Bool) → (a ≡ true → b ≡ true) → (b ≡ true → a ≡ true) → a ≡ b
same_true true b to from = sym (to refl)
same_true false true to from = from refl
same_true false false to from = refl

same_false : (a b : Bool) → (a ≡ false → b ≡ false) → (b ≡ false → a ≡ false) → a ≡ b
same_false false b to from = sym (to refl)
same_false true false to from = from refl
same_false true true to from = refl

or_right : (a b : Bool) → b ≡ true → (a || b) ≡ true
or_right true b e = refl
or_right false b e = e

pub bytes_flip : (a b : Text) → bytes_eq a b ≡ bytes_eq b a
bytes_flip a b =
    same_true (bytes_eq a b) (bytes_eq b a)
    (λ e. (bytes_eq-Decides b a).1 (sym ((bytes_eq-Decides a b).0 e)))
    (λ e. (bytes_eq-Decides a b).1 (sym ((bytes_eq-Decides b a).0 e)))

-- ---- a list in two parts

among_both : (x : Text) (xs ys : List Text)
    → is_among x (xs ++ ys) ≡ (is_among x xs || is_among x ys)
among_both x xs ys = list_any-append (λ other. bytes_eq other x) xs ys

among_nothing : (ys : List Text) → any_among [] ys ≡ false
among_nothing [] = refl
among_nothing (y ∷ ys) = among_nothing ys

among_first : (x : Text) (xs ys : List Text)
    → any_among (x ∷ xs) ys ≡ (is_among x ys || any_among xs ys)
among_first x xs [] = refl
among_first x xs (y ∷ ys) =
    ap (λ (b : Bool). (bytes_eq x y || is_among y xs) || b) (among_first x xs ys)
    ∙ or_swap (bytes_eq x y) (is_among y xs) (is_among x ys) (any_among xs ys)
    ∙ ap (λ (b : Bool). (b || is_among x ys) || (is_among y xs || any_among xs ys)) (bytes_flip x y)

-- The prefix is free of repetitions, and shares nothing with the rest: the rest decides.
pub repeated_after : (xs ys : List Text) → are_repeated xs ≡ false → any_among xs ys ≡ false
    → are_repeated (xs ++ ys) ≡ are_repeated ys
repeated_after [] ys none apart = refl
repeated_after (x ∷ xs) ys none apart =
    let (new, others) = or_parts (is_among x xs) (are_repeated xs) none in
    let (away, more) = or_parts (is_among x ys) (any_among xs ys) (sym (among_first x xs ys)
    ∙ apart) in
    let all : is_among x (xs ++ ys) ≡ false = among_both x xs ys
    ∙ or_from (is_among x xs) (is_among x ys) new away in
    rw all (repeated_after xs ys others more)

-- A repetition in the prefix.
pub repeated_prefix : (xs ys : List Text) → are_repeated xs ≡ true → are_repeated (xs ++ ys) ≡ true
repeated_prefix [] ys e = absurd (true≢false (sym e))
repeated_prefix (x ∷ xs) ys e = go (is_among x xs) refl e (repeated_prefix xs ys)
  where
    go : (b : Bool) → is_among x xs ≡ b → (b || are_repeated xs) ≡ true
        → (are_repeated xs ≡ true → are_repeated (xs ++ ys) ≡ true)
        → (is_among x (xs ++ ys) || are_repeated (xs ++ ys)) ≡ true
    go true same all more = rw (among_both x xs ys
        ∙ ap (λ (b : Bool). b || is_among x ys) same) refl
    go false same all more = or_right (is_among x (xs ++ ys)) (are_repeated (xs ++ ys)) (more all)

-- One of the rest is in the prefix.
pub repeated_across : (xs ys : List Text) → any_among xs ys ≡ true → are_repeated (xs ++ ys) ≡ true
repeated_across [] ys e = absurd (true≢false (sym e ∙ among_nothing ys))
repeated_across (x ∷ xs) ys e = go (is_among x ys) refl (sym (among_first x xs ys)
    ∙ e) (repeated_across xs ys)
  where
    go : (b : Bool) → is_among x ys ≡ b → (b || any_among xs ys) ≡ true
        → (any_among xs ys ≡ true → are_repeated (xs ++ ys) ≡ true)
        → (is_among x (xs ++ ys) || are_repeated (xs ++ ys)) ≡ true
    go true same all more = rw (among_both x xs ys
        ∙ or_right (is_among x xs) (is_among x ys) same) refl
    go false same all more = or_right (is_among x (xs ++ ys)) (are_repeated (xs ++ ys)) (more all)

-- One more at the end of a list.
pub repeated_push : (xs : List Text) (y : Text)
    → are_repeated (xs ++ y ∷ []) ≡ (are_repeated xs || is_among y xs)
repeated_push xs y = go (are_repeated xs) (is_among y xs) refl refl
  where
    go : (p q : Bool) → are_repeated xs ≡ p → is_among y xs ≡ q
        → are_repeated (xs ++ y ∷ []) ≡ (p || q)
    go true q twice there = repeated_prefix xs (y ∷ []) twice
    go false true once there = repeated_across xs (y ∷ []) (rw there refl)
    go false false once away = repeated_after xs (y ∷ []) once
        (or_from (is_among y xs) false away refl)

-- ---- a list in order

abbrev ties : Text → Text → Bool
ties = eq_by_cmp (slice_cmp nat_cmp)

ties_flip : (x y : Text) → ties x y ≡ ties y x
ties_flip x y = is_eq-slice_cmp x y ∙ (bytes_flip x y ∙ sym (is_eq-slice_cmp y x))

all_away : (x : Text) (xs : List Text) → is_among x xs ≡ false
    → AllByRecursion (λ y. ties x y ≡ false) xs
all_away x [] e = tt
all_away x (y ∷ ys) e =
    let (this, others) = or_parts (bytes_eq y x) (is_among x ys) e in
    (is_eq-slice_cmp x y ∙ (bytes_flip x y ∙ this), all_away x ys others)

away_all : (x : Text) (xs : List Text) → AllByRecursion (λ y. ties x y ≡ false) xs
    → is_among x xs ≡ false
away_all x [] f = refl
away_all x (y ∷ ys) f =
    or_from (bytes_eq y x) (is_among x ys) (bytes_flip y x
    ∙ (sym (is_eq-slice_cmp x y) ∙ f.0)) (away_all x ys f.1)

distinct_from : (xs : List Text) → are_repeated xs ≡ false → IsDistinct ties xs
unfolding IsDistinct
distinct_from [] e = tt
distinct_from (x ∷ xs) e =
    let (new, others) = or_parts (is_among x xs) (are_repeated xs) e in
    (all_away x xs new, distinct_from xs others)

distinct_to : (xs : List Text) → IsDistinct ties xs → are_repeated xs ≡ false
unfolding IsDistinct
distinct_to [] f = refl
distinct_to (x ∷ xs) f = or_from (is_among x xs) (are_repeated xs) (away_all x xs f.0)
    (distinct_to xs f.1)

-- The order doesn't matter.
pub repeated_permuted : (xs ys : List (Bor Text)) → IsPermutation xs ys
    → are_repeated (texts xs) ≡ are_repeated (texts ys)
repeated_permuted xs ys p =
    let there = IsPermutation-map (λ (s : Bor Text). s.now) xs ys p in
    let back = IsPermutation-sym (texts xs) (texts ys) there in
    same_false (are_repeated (texts xs)) (are_repeated (texts ys))
    (λ e. distinct_to (texts ys) (IsDistinct-IsPermutation ties ties_flip (texts xs)
    (texts ys) there (distinct_from (texts xs) e)))
    (λ e. distinct_to (texts xs) (IsDistinct-IsPermutation ties ties_flip (texts ys) (texts xs) back
    (distinct_from (texts ys) e)))

pub among_permuted : (xs ys : List (Bor Text)) (zs : List Text) → IsPermutation xs ys
    → any_among (texts xs) zs ≡ any_among (texts ys) zs
among_permuted xs ys [] p = refl
among_permuted xs ys (z ∷ zs) p =
    let there = IsPermutation-map (λ (s : Bor Text). s.now) xs ys p in
    ap (λ (b : Bool). b || any_among (texts xs) zs)
    (list_any-IsPermutation (λ other. bytes_eq other z) (texts xs) (texts ys) there)
    ∙ ap (λ (b : Bool). is_among z (texts ys) || b) (among_permuted xs ys zs p)

-- The first of two that are in order and aren't equal is less.
is_less : (a b : Text) → is_lt (slice_cmp nat_cmp b a) ≡ false → bytes_eq a b ≡ false
    → slice_cmp nat_cmp a b ≡ Less
is_less a b rise differ = go (slice_cmp nat_cmp b a) refl rise
  where
    total : IsTotalOrder (slice_cmp nat_cmp)
    total = lists_total nat_cmp_total

    go : (o : Ordering) → slice_cmp nat_cmp b a ≡ o → is_lt o ≡ false → slice_cmp nat_cmp a b ≡ Less
    go Less same e = absurd (true≢false e)
    go Equal same e = absurd (true≢false (ap is_eq (sym (total.antisymm a b
        ∙ ap ordering_reverse same)) ∙ (is_eq-slice_cmp a b ∙ differ)))
    go Greater same e = total.antisymm a b ∙ ap ordering_reverse same

-- None of the first ones has an equal neighbour among them.
abbrev pub DifferBefore : List (Bor Text) → ℕ → Type 0
DifferBefore xs i = (k : ℕ) (d : Bor Text) → k + 1 < i
    → bytes_eq (slice_index_or xs k d).now (slice_index_or xs (k + 1) d).now ≡ false

-- Neighbours in order that aren't equal: nothing stands twice.
pub no_neighbours : (xs : List (Bor Text)) (i : ℕ) → AreSorted xs → length xs ≤ i
    → DifferBefore xs i → are_repeated (texts xs) ≡ false
no_neighbours [] i rise le differ = refl
no_neighbours (x ∷ xs) i rise le differ =
    let all : List (Bor Text) = x ∷ xs in
    let total : IsTotalOrder (slice_cmp nat_cmp) = lists_total nat_cmp_total in
    let size : length (texts all) ≡ length all = length-map all (λ (s : Bor Text). s.now) in
    let strict : IsStrictlySortedBy (slice_cmp nat_cmp) (texts all) =
    sorted_from_all_adjacent total (texts all) [] (λ k less.
    rw (
      get_or-map (λ (s : Bor Text). s.now) all k x [] (omega (arith, less, size)),
      get_or-map (λ (s : Bor Text). s.now) all (k + 1) x [] (omega (arith, less, size)),
    )
    (is_less (slice_index_or all k x).now (slice_index_or all (k + 1) x).now
    (rise k x (omega arith) (omega (arith, less, size))) (differ k x (omega (
      arith,
      less,
      le,
      size,
    ))))) in
    distinct_to (texts all) (IsDistinct-from_sorted (slice_cmp nat_cmp) (texts all) strict)

-- Neighbours that are equal.
pub equal_neighbours : (xs : List (Bor Text)) (k : ℕ) (d : Bor Text) → suc k < length xs
    → bytes_eq (slice_index_or xs k d).now (slice_index_or xs (suc k) d).now ≡ true
    → are_repeated (texts xs) ≡ true
equal_neighbours [] k d less e = absurd (omega (arith, less))
equal_neighbours (x ∷ []) k d less e = absurd (omega (arith, less))
equal_neighbours (x ∷ y ∷ ys) zero d less e = rw (bytes_flip y.now x.now ∙ e) refl
equal_neighbours (x ∷ y ∷ ys) (suc k) d less e =
    or_right (is_among x.now (texts (y ∷ ys))) (are_repeated (texts (y ∷ ys)))
    (equal_neighbours (y ∷ ys) k d (omega (arith, less)) e)

pub differ_more : (xs : List (Bor Text)) (i : ℕ) (e : Bor Text) → 1 ≤ i → i < length xs
    → DifferBefore xs i
    → false ≡ bytes_eq (slice_index_or xs (i - 1) e).now (slice_index_or xs i e).now
    → DifferBefore xs (i + 1)
differ_more xs i e some less before differ k d lt =
    elim (cases_lt (k + 1) i) [
      | inl below ↦ before k d below
      | inr last ↦
          let this : k ≡ i - 1 = omega arith in
          let next : k + 1 ≡ i = omega arith in
          ap (λ (n : ℕ). bytes_eq (slice_index_or xs n d).now (slice_index_or xs (k + 1) d).now)
          this
          ∙ (ap (λ (n : ℕ). bytes_eq (slice_index_or xs (i - 1) d).now (slice_index_or xs n d).now)
          next
          ∙ (ap (λ (s : Bor Text). bytes_eq s.now (slice_index_or xs i d).now)
          (get_or_default xs (i - 1) d e (omega arith))
          ∙ (ap (λ (s : Bor Text). bytes_eq (slice_index_or xs (i - 1) e).now s.now)
          (get_or_default xs i d e less) ∙ sym differ)))
    ]

pub equal_at : (xs : List (Bor Text)) (i : ℕ) (e : Bor Text) → 1 ≤ i → i < length xs
    → true ≡ bytes_eq (slice_index_or xs (i - 1) e).now (slice_index_or xs i e).now
    → true ≡ are_repeated (texts xs)
equal_at xs i e some less same =
    let next : suc (i - 1) ≡ i = omega arith in
    sym (equal_neighbours xs (i - 1) e (omega arith)
    (ap (λ (n : ℕ). bytes_eq (slice_index_or xs (i - 1) e).now (slice_index_or xs n e).now) next
    ∙ sym same))

-- One more slice in a block.
pub texts_more : (xs : List (Bor Text)) (i : ℕ) (s : Bor Text) → i < length xs
    → texts (take (i + 1) (slice_set xs i s)) ≡ texts (take i xs) ++ s.now ∷ []
texts_more xs i s less = ap texts (take_more_set xs i s less)
    ∙ map-append (λ (t : Bor Text). t.now) (take i xs) (s ∷ [])

-- ---- looking up

any_texts : (x : Text) (xs : List (Bor Text))
    → is_among x (texts xs) ≡ list_any (λ (s : Bor Text). bytes_eq s.now x) xs
any_texts x [] = refl
any_texts x (s ∷ xs) = ap (λ (b : Bool). bytes_eq s.now x || b) (any_texts x xs)

-- A binary search finds just what is there.
pub searched : (xs : List (Bor Text)) (x : Bor Text) (r : Result ℕ ℕ) → AreSorted xs
    → IsSearchInRange r (length xs)
    → IsBinarySearchResult (λ y. slice_cmp nat_cmp y.now x.now) xs r
    → is_ok r ≡ is_among x.now (texts xs)
searched xs x (Ok i) rise range found =
    let test : Bor Text → Bool = λ s. bytes_eq s.now x.now in
    let same : bytes_eq (slice_index_or xs i x).now x.now ≡ true =
    sym (is_eq-slice_cmp (slice_index_or xs i x).now x.now) ∙ ap is_eq (found x) in
    sym (any_texts x.now xs ∙ list_any_at test xs i x range same)
searched xs x (Err i) rise range found =
    let test : Bor Text → Bool = λ s. bytes_eq s.now x.now in
    let parted = found (searchable_from_sorted (lists_total nat_cmp_total) (λ (s : Bor Text). s.now)
    xs x.now rise) in
    sym (any_texts x.now xs ∙ list_any_none test xs (λ k d less.
    elim (cases_lt k i) [
      | inl below ↦ sym (is_eq-slice_cmp (slice_index_or xs k d).now x.now)
          ∙ ap is_eq (parted.0 k d (omega arith) below)
      | inr above ↦ sym (is_eq-slice_cmp (slice_index_or xs k d).now x.now)
          ∙ ap is_eq (parted.1 k d above less)
    ]))

-- A block whose prefix was sorted: what is looked up there was there before.
pub among_prefix : (block sorted : List (Bor Text)) (n : ℕ) (ids : List Text) → n ≤ length block
    → IsPermutation (take n block) sorted
    → any_among (texts (take n (sorted ++ drop n block))) ids ≡ any_among (texts (take n block)) ids
among_prefix block sorted n ids le p =
    let size : length sorted ≡ n = omega (
      arith,
      length_permutation (take n block) sorted p,
      length-take n block,
      le,
    ) in
    ap (λ (xs : List (Bor Text)). any_among (texts xs) ids) (take_at sorted (drop n block) n size)
    ∙ sym (among_permuted (take n block) sorted ids p)
