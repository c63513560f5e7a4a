-- Subtrees of a log with their hashes, one after the other.
use Rattle.std.proofs.Common.{◌≡◌, ◌∙◌, ◌+◌, ◌-◌, ◌<◌, ◌≤◌, ℕ, Bool, true, false, List, []}
use Rattle.std.proofs.Common.{◌∷◌, ◌++◌, Option, Some, None, inl, inr, refl, sym, ap, subst, arith}
use Rattle.std.proofs.Common.{append_assoc, eqb-true, ne_eqb}
use Rattle.std.proofs.Common.{⊎_elim}
use Rattle.std.proofs.lemmas.Bool.{cases_lt, eqb-false}
use Rattle.std.specs.Prelude.{◌==◌, ◌&&◌, IfSome}
use Rattle.std.specs.List.{AllByRecursion, IsDistinct}
use Rattle.byte_formats.specs.Types.{HashFunction, Text}
use Rattle.tree_core.specs.Cover.{CoversInterval}
use Rattle.tree_core.specs.declared.spans.Cover.{Cover}
use Rattle.tree_core.specs.declared.spans.Span.{Span}
use Rattle.landmarks.specs.Landmarks.{LandmarkList, landmark_size, subtrees_of}
use Rattle.policy_core.specs.Acceptance.{IsAmong}
use Rattle.policy_core.specs.Stores.{has_same_interval}
use Rattle.policy_core.specs.declared.lists.Trusted.{Trusted}
use Rattle.drill_core.specs.LightStores.{AreOfLandmarks, AreOwn, HasCover, IsOwnSubtree, cover_with}
use Rattle.drill_core.specs.LightStores.{second_with, with_hash}

-- ---- one more

all_push : (P : Trusted → Type 0) (xs : List Trusted) (x : Trusted) → AllByRecursion P xs → P x
    → AllByRecursion P (xs ++ x ∷ [])
all_push P [] x all here = (here, tt)
all_push P (y ∷ ys) x all here = (all.0, all_push P ys x all.1 here)

no_and : (a b : Bool) → b ≡ false → (a && b) ≡ false
no_and true b e = e
no_and false b e = refl

other_interval : (x t : Trusted) (place : ℕ) → x.end ≤ place → place < t.end
    → has_same_interval x t ≡ false
other_interval x t place few more =
    let differ : x.end < t.end = omega (arith, few, more) in
    no_and (x.start == t.start) (x.end == t.end)
    (ne_eqb x.end t.end (λ (e : x.end ≡ t.end). absurd (omega (arith, e, differ))))

distinct_push : (xs : List Trusted) (t : Trusted) (place : ℕ)
    → AllByRecursion (λ x. x.end ≤ place) xs → place < t.end → IsDistinct has_same_interval xs
    → IsDistinct has_same_interval (xs ++ t ∷ [])
unfolding IsDistinct
distinct_push [] t place ends more different = (tt, tt)
distinct_push (x ∷ xs) t place ends more different = (
  all_push (λ (y : Trusted). has_same_interval x y ≡ false) xs t different.0
      (other_interval x t place ends.0 more),
  distinct_push xs t place ends.1 more different.1,
)

all_further : (xs : List Trusted) (place far : ℕ) → place ≤ far
    → AllByRecursion (λ x. x.end ≤ place) xs → AllByRecursion (λ x. x.end ≤ far) xs
all_further [] place far more ends = tt
all_further (x ∷ xs) place far more ends =
    let here = ends.0 in (omega (arith, here, more), all_further xs place far more ends.1)

own_push : (h : HashFunction) (entries : List Text) (place : ℕ) (xs : List Trusted) (t : Trusted)
    → AreOwn h entries place xs → IsOwnSubtree h entries t → place < t.end
    → AreOwn h entries t.end (xs ++ t ∷ [])
own_push h entries place xs t are own more = record {
  own = all_push (IsOwnSubtree h entries) xs t are.own own;
  ends = all_push (λ (x : Trusted). x.end ≤ t.end) xs t
      (all_further xs place t.end (omega (arith, more)) are.ends) (omega arith);
  different = distinct_push xs t place are.ends more are.different;
}

-- ---- a cover more

among_more : (t : Trusted) (xs ys : List Trusted) → IsAmong t xs → IsAmong t (xs ++ ys)
among_more t [] ys is = absurd is
among_more t (x ∷ xs) ys (inl here) = inl here
among_more t (x ∷ xs) ys (inr there) = inr (among_more t xs ys there)

among_after : (t : Trusted) (xs ys : List Trusted) → IsAmong t ys → IsAmong t (xs ++ ys)
among_after t [] ys is = is
among_after t (x ∷ xs) ys is = inr (among_after t xs ys is)

cover_more : (h : HashFunction) (entries : List Text) (cover : Cover) (second : Option Span)
    (xs ys : List Trusted)
    → IfSome second (λ span. IsAmong (with_hash h entries span) xs)
    → IfSome second (λ span. IsAmong (with_hash h entries span) (xs ++ ys))
cover_more h entries cover None xs ys is = tt
cover_more h entries cover (Some span) xs ys is =
    among_more (with_hash h entries span) xs ys is

has_more : (h : HashFunction) (entries : List Text) (cover : Cover) (xs ys : List Trusted)
    → HasCover h entries cover xs → HasCover h entries cover (xs ++ ys)
has_more h entries cover xs ys is = record {
  first = among_more (with_hash h entries cover.first) xs ys is.first;
  second = cover_more h entries cover cover.second xs ys is.second;
}

has_itself : (h : HashFunction) (entries : List Text) (first : Span) (second : Option Span)
    (xs : List Trusted)
    → HasCover h entries (record { first = first; second = second })
    (xs ++ cover_with h entries (record { first = first; second = second }))
has_itself h entries first None xs = record {
  first = among_after (with_hash h entries first) xs (with_hash h entries first ∷ []) (inl refl);
  second = tt;
}
has_itself h entries first (Some span) xs =
    let both = with_hash h entries first ∷ with_hash h entries span ∷ [] in
    record {
      first = among_after (with_hash h entries first) xs both (inl refl);
      second = among_after (with_hash h entries span) xs both (inr (inl refl));
    }

own_cover : (h : HashFunction) (entries : List Text) (from to : ℕ) (first : Span)
    (second : Option Span) (xs : List Trusted)
    → CoversInterval from to (record { first = first; second = second })
    → AreOwn h entries from xs
    → AreOwn h entries to (xs ++ cover_with h entries (record { first = first; second = second }))
own_cover h entries from to first None xs covers are =
    let own : IsOwnSubtree h entries (with_hash h entries first) =
    record { subtree = covers.first; hash = refl } in
    subst (λ (place : ℕ). AreOwn h entries place (xs ++ with_hash h entries first ∷ []))
    covers.rest (own_push h entries from xs (with_hash h entries first) are own covers.holds)
own_cover h entries from to first (Some span) xs covers are =
    let own : IsOwnSubtree h entries (with_hash h entries first) =
    record { subtree = covers.first; hash = refl } in
    let rest = covers.rest in
    let own_too : IsOwnSubtree h entries (with_hash h entries span) =
    record { subtree = rest.1.1; hash = refl } in
    let begins = rest.0 in
    let some = rest.1.1.inhabited in
    let more : first.end < span.end = omega (arith, begins, some) in
    let one = own_push h entries from xs (with_hash h entries first) are own covers.holds in
    let two = own_push h entries first.end (xs ++ with_hash h entries first ∷ [])
    (with_hash h entries span) one own_too more in
    subst (λ (list : List Trusted). AreOwn h entries to list)
    (append_assoc xs (with_hash h entries first ∷ []) (with_hash h entries span ∷ []))
    (subst (λ (place : ℕ). AreOwn h entries place
    ((xs ++ with_hash h entries first ∷ []) ++ with_hash h entries span ∷ [])) rest.1.0 two)

-- the subtrees of a cover, put one by one
pub put_both : (h : HashFunction) (entries : List Text) (cover : Cover) (span : Span)
    (xs ys zs : List Trusted) (a b : Trusted) → cover.second ≡ Some span
    → a ≡ with_hash h entries cover.first → b ≡ with_hash h entries span → ys ≡ xs ++ a ∷ []
    → zs ≡ ys ++ b ∷ [] → zs ≡ xs ++ cover_with h entries cover
put_both h entries cover span xs ys zs a b second first_is second_is one two =
    two ∙ ap (λ (list : List Trusted). list ++ b ∷ []) one
    ∙ append_assoc xs (a ∷ []) (b ∷ [])
    ∙ ap (λ (t : Trusted). xs ++ t ∷ b ∷ []) first_is
    ∙ ap (λ (t : Trusted). xs ++ with_hash h entries cover.first ∷ t ∷ []) second_is
    ∙ ap (λ (o : Option Span). xs ++ with_hash h entries cover.first ∷ second_with h entries o)
    (sym second)

-- ---- the subtrees of the landmarks

pub none_of_landmarks : (h : HashFunction) (entries : List Text) (l : LandmarkList) (from : ℕ)
    → AreOfLandmarks h entries l from from []
unfolding IsDistinct
none_of_landmarks h entries l from = record {
  are = record { own = tt; ends = tt; different = tt };
  has = λ number some few. absurd (omega (arith, some, few));
}

below_other : (n number : ℕ) → n < number + 1 → (n ≡ number → ⊥) → n < number
below_other n number few differ =
    ⊎_elim
    (λ (less : n < number). less)
    (λ (more : number ≤ n). absurd (differ (omega (arith, few, more))))
    (cases_lt n number)

-- the subtrees of the next landmark
pub next_landmark : (h : HashFunction) (entries : List Text) (l : LandmarkList) (from number : ℕ)
    (list : List Trusted) (cover : Cover) → AreOfLandmarks h entries l from number list
    → cover ≡ subtrees_of l number
    → CoversInterval (landmark_size l (number - 1)) (landmark_size l number) cover
    → AreOfLandmarks h entries l from (number + 1) (list ++ cover_with h entries cover)
next_landmark h entries l from number list cover is same covers = record {
  are = subst (λ (place : ℕ). AreOwn h entries (landmark_size l place)
      (list ++ cover_with h entries cover)) last
      (own_cover h entries (landmark_size l (number - 1)) (landmark_size l number) cover.first
      cover.second list covers is.are);
  has = has;
}
  where
    last : number ≡ number + 1 - 1
    last = omega arith

    has : (n : ℕ) → from ≤ n → n < number + 1
        → HasCover h entries (subtrees_of l n) (list ++ cover_with h entries cover)
    has n some few = go (n == number) refl
      where
        go : (b : Bool) → (n == number) ≡ b
            → HasCover h entries (subtrees_of l n) (list ++ cover_with h entries cover)
        go true e =
            let here : n ≡ number = eqb-true n number e in
            subst (λ (c : Cover). HasCover h entries c (list ++ cover_with h entries cover))
            (same ∙ ap (subtrees_of l) (sym here))
            (has_itself h entries cover.first cover.second list)
        go false e =
            let less : n < number = below_other n number few (eqb-false n number e) in
            has_more h entries (subtrees_of l n) list (cover_with h entries cover)
            (is.has n some less)
