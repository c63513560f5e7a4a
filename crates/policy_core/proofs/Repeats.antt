-- Intervals that repeat, found by those before each.
use Rattle.std.proofs.Common.{◌≡◌, ℕ, ◌+◌, ◌<◌, ◌≤◌, ◌==◌, Bool, true, false, ◌||◌, ◌&&◌, not, cond}
use Rattle.std.proofs.Common.{List, [], ◌∷◌, ◌++◌, length, get_or, take, drop, Ordering, Less}
use Rattle.std.proofs.Common.{Equal, Greater, nat_cmp, is_eq, refl, ap, sym, ◌∙◌, append_assoc}
use Rattle.std.proofs.Common.{arith}
use Rattle.std.proofs.lemmas.Bool.Decides.{nat_tests}
use Rattle.std.proofs.lemmas.List.{append-nil, drop_more, drop_all, take_more}
use Rattle.std.specs.BTreeMap.{is_at}
use Rattle.std.specs.BTreeSet.{BTreeSet, contains, Updates, IsEmpty}
use Rattle.std.specs.List.{list_any}
use Rattle.std.specs.Ordering.{ordering_then}
use Rattle.std.proofs.Math.Bool.{or-false}
use Rattle.std.proofs.lemmas.Bool.{not-true}
use Rattle.std.proofs.lemmas.Bool.{not-false}
use Rattle.byte_formats.proofs.Values.{or_swap}
use Rattle.policy_core.specs.declared.lists.Trusted.{Trusted}
use Rattle.policy_core.specs.Stores.{has_repeat, has_same_interval}

-- the order of intervals, as pairs
abbrev pub by_interval : ℕ × ℕ → ℕ × ℕ → Ordering
by_interval a b = ordering_then (nat_cmp a.0 b.0) (nat_cmp a.1 b.1)

abbrev pub has_interval : ℕ × ℕ → Trusted → Bool
has_interval k t = (t.start == k.0) && (t.end == k.1)

-- the set has the intervals of these
pub record Holds (set : BTreeSet (ℕ × ℕ)) (xs : List Trusted) : Type 0 where
  pub each : (k : ℕ × ℕ) → contains by_interval set k ≡ list_any (has_interval k) xs

-- ---- lists

or_joined : (a b c : Bool) → ((a || b) || c) ≡ (a || (b || c))
or_joined true b c = refl
or_joined false b c = refl

list_any-push : {X : Type 0} (test : X → Bool) (xs : List X) (x : X)
    → list_any test (xs ++ x ∷ []) ≡ (list_any test xs || test x)
list_any-push test [] x = or-false (test x)
list_any-push test (y ∷ ys) x = ap (λ (b : Bool). test y || b) (list_any-push test ys x)
    ∙ sym (or_joined (test y) (list_any test ys) (test x))

has_repeat-push : (xs : List Trusted) (x : Trusted)
    → has_repeat has_same_interval (xs ++ x ∷ [])
    ≡ (has_repeat has_same_interval xs || list_any (has_interval (x.start, x.end)) xs)
unfolding has_repeat
has_repeat-push [] x = refl
has_repeat-push (y ∷ ys) x =
    ap (λ (b : Bool). b || has_repeat has_same_interval (ys ++ x ∷ []))
    (list_any-push (has_same_interval y) ys x)
    ∙ (ap (λ (b : Bool). (list_any (has_same_interval y) ys || has_same_interval y x) || b)
    (has_repeat-push ys x)
    ∙ or_swap (list_any (has_same_interval y) ys) (has_same_interval y x)
    (has_repeat has_same_interval ys)
    (list_any (has_interval (x.start, x.end)) ys))

-- an interval among those that stand before it
unfoldable pub repeats_after : List Trusted → List Trusted → Bool
repeats_after seen [] = false
repeats_after seen (x ∷ xs) = list_any (has_interval (x.start, x.end)) seen || repeats_after (seen
    ++ x ∷ []) xs

following : (seen xs : List Trusted) → has_repeat has_same_interval (seen ++ xs)
    ≡ (has_repeat has_same_interval seen || repeats_after seen xs)
unfolding repeats_after
following seen [] = ap (has_repeat has_same_interval) (append-nil seen)
    ∙ sym (or-false (has_repeat has_same_interval seen))
following seen (x ∷ xs) =
    ap (has_repeat has_same_interval) (sym (append_assoc seen (x ∷ []) xs))
    ∙ (following (seen ++ x ∷ []) xs
    ∙ (ap (λ (b : Bool). b || repeats_after (seen ++ x ∷ []) xs) (has_repeat-push seen x)
    ∙ or_joined (has_repeat has_same_interval seen) (list_any (has_interval (x.start, x.end)) seen)
    (repeats_after (seen ++ x ∷ []) xs)))

-- at the start nothing is seen
pub repeats_after-nothing : (xs : List Trusted)
    → repeats_after [] xs ≡ has_repeat has_same_interval xs
unfolding has_repeat
repeats_after-nothing xs = sym (following [] xs)

-- one step on
pub repeats_after-step : (xs : List Trusted) (i : ℕ) (d : Trusted) → i < length xs
    → repeats_after (take i xs) (drop i xs)
    ≡ (list_any (has_interval ((get_or xs i d).start, (get_or xs i d).end))
    (take i xs) || repeats_after (take (i + 1) xs) (drop (i + 1) xs))
unfolding repeats_after
repeats_after-step xs i d lt =
    ap (repeats_after (take i xs)) (drop_more xs i d lt)
    ∙ ap (λ (seen : List Trusted). list_any (has_interval (
      (get_or xs i d).start,
      (get_or xs i d).end,
    )) (take i xs) || repeats_after seen (drop (i + 1) xs))
    (sym (take_more xs i d lt))

-- at the end nothing is left
pub repeats_after-end : (seen xs : List Trusted) (n : ℕ) → length xs ≤ n
    → repeats_after seen (drop n xs) ≡ false
unfolding repeats_after
repeats_after-end seen xs n le = ap (repeats_after seen) (drop_all n xs le)

-- ---- the set

is_eq-then : (o p : Ordering) → is_eq (ordering_then o p) ≡ (is_eq o && is_eq p)
is_eq-then Less p = refl
is_eq-then Equal p = refl
is_eq-then Greater p = refl

is_eq-numbers : (a b : ℕ) → is_eq (nat_cmp a b) ≡ (a == b)
is_eq-numbers a b = grind (arith, nat_tests)

same_key : (x : Trusted) (k : ℕ × ℕ) → is_at (by_interval (x.start, x.end)) k ≡ has_interval k x
same_key x k =
    is_eq-then (nat_cmp x.start k.0) (nat_cmp x.end k.1)
    ∙ (ap (λ (b : Bool). b && is_eq (nat_cmp x.end k.1)) (is_eq-numbers x.start k.0)
    ∙ ap (λ (b : Bool). (x.start == k.0) && b) (is_eq-numbers x.end k.1))

one_more : (b c : Bool) → cond b true c ≡ (c || b)
one_more true true = refl
one_more true false = refl
one_more false c = sym (or-false c)

pub holds_nothing : (set : BTreeSet (ℕ × ℕ)) → IsEmpty set → Holds set []
holds_nothing set empty = record {
  each =
      λ k. ap (λ (ks : List (ℕ × ℕ)). list_any (is_at (by_interval k)) ks) empty;
}

pub holds_more : (old new : BTreeSet (ℕ × ℕ)) (xs : List Trusted) (x : Trusted) → Holds old xs
    → Updates by_interval old new (x.start, x.end) true
    → Holds new (xs ++ x ∷ [])
holds_more old new xs x holds updates = record {
  each = λ k.
      updates.0 k
      ∙ (ap (λ (b : Bool). cond b true (contains by_interval old k)) (same_key x k)
      ∙ (one_more (has_interval k x) (contains by_interval old k)
      ∙ (ap (λ (b : Bool). b || has_interval k x) (holds.each k)
      ∙ sym (list_any-push (has_interval k) xs x))));
}

holds_next : (set : BTreeSet (ℕ × ℕ)) (xs : List Trusted) (i : ℕ) (d : Trusted) (b : Bool)
    → i < length xs → Holds set (take i xs)
    → repeats_after (take i xs) (drop i xs) ≡ has_repeat has_same_interval xs
    → contains by_interval set ((get_or xs i d).start, (get_or xs i d).end) ≡ b
    → (b || repeats_after (take (i + 1) xs) (drop (i + 1) xs)) ≡ has_repeat has_same_interval xs
holds_next set xs i d b lt holds whole found =
    let key : ℕ × ℕ = ((get_or xs i d).start, (get_or xs i d).end) in
    ap (λ (a : Bool). a || repeats_after (take (i + 1) xs) (drop (i + 1) xs)) (sym found
    ∙ holds.each key)
    ∙ (sym (repeats_after-step xs i d lt) ∙ whole)

-- an interval that is there already repeats
pub repeats_there : (set : BTreeSet (ℕ × ℕ)) (xs : List Trusted) (i : ℕ) (d : Trusted)
    → i < length xs → Holds set (take i xs)
    → repeats_after (take i xs) (drop i xs) ≡ has_repeat has_same_interval xs
    → not (contains by_interval set ((get_or xs i d).start, (get_or xs i d).end)) ≡ false
    → true ≡ has_repeat has_same_interval xs
repeats_there set xs i d lt holds whole h =
    holds_next set xs i d true lt holds whole (not-false _ h)

-- a new one leaves the question to those after it
pub repeats_later : (set : BTreeSet (ℕ × ℕ)) (xs : List Trusted) (i : ℕ) (d : Trusted)
    → i < length xs → Holds set (take i xs)
    → repeats_after (take i xs) (drop i xs) ≡ has_repeat has_same_interval xs
    → not (contains by_interval set ((get_or xs i d).start, (get_or xs i d).end)) ≡ true
    → repeats_after (take (i + 1) xs) (drop (i + 1) xs) ≡ has_repeat has_same_interval xs
repeats_later set xs i d lt holds whole h =
    holds_next set xs i d false lt holds whole (not-true _ h)

-- the set with one more
pub holds_next_one : (old new : BTreeSet (ℕ × ℕ)) (xs : List Trusted) (i : ℕ) (d : Trusted)
    → i < length xs → Holds old (take i xs)
    → Updates by_interval old new ((get_or xs i d).start, (get_or xs i d).end) true
    → Holds new (take (i + 1) xs)
holds_next_one old new xs i d lt holds updates =
    rw (take_more xs i d lt) (holds_more old new (take i xs) (get_or xs i d) holds updates)
