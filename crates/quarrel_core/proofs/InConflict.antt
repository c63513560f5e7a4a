-- Signs in conflict, and that the first ones are found.
use Rattle.std.proofs.Common.{◌≡◌, ℕ, zero, suc, ◌<◌, ◌≤◌, ⊎_elim, Bool, true, false, ◌&&◌}
use Rattle.std.proofs.Common.{eqb, eqb-true, List, [], ◌∷◌, ◌++◌, length, get_or, append_assoc}
use Rattle.std.proofs.Common.{Some, None, sym, ◌∙◌, ap, refl, subst, arith, inl, inr, ◌⊎◌}
use Rattle.std.specs.Prelude.{Option, bytes_eq, not, slice_get}
use Rattle.std.specs.List.{position}
use Rattle.std.proofs.lemmas.Bool.{and_from, and_parts, cases_lt, eq-eqb, false≢true, not-true}
use Rattle.std.proofs.lemmas.List.{append-nil, length_push}
use Rattle.std.proofs.lemmas.List.Quantifiers.{position-Some}
use Rattle.std.proofs.lemmas.Option.{get_or_from_slice_get, none-some, same_Some}
use Rattle.std.proofs.lemmas.Option.{slice_get-get_or}
use Rattle.std.proofs.lemmas.Option.{slice_get_within, some_pair_parts}
use Rattle.std.proofs.lemmas.Slice.Eq.{bytes_eq-Decides}
use Rattle.cosigner_core.specs.declared.step.Step.{Step}
use Rattle.cosigner_core.specs.declared.step.Step.TheVariants.{Advance, Child, Sign}
use Rattle.quarrel_core.proofs.Indices.{none_passes}
use Rattle.quarrel_core.specs.Conflicts.{conflict_after, conflict_in, conflicts, indices_or}
use Rattle.quarrel_core.specs.ConflictLaws.{AreInConflict, ConflictAt, ConflictsAreFirst}
use Rattle.quarrel_core.specs.ConflictLaws.{IsFirstConflict}

-- The test and the definition agree.

pub in_conflict : (x y : Step) → conflicts x y ≡ true → AreInConflict y x
in_conflict (Sign i s e a p) (Sign j t f b q) is =
    let first = and_parts (eqb t s) (eqb f e && not (bytes_eq a b)) is in
    let second = and_parts (eqb f e) (not (bytes_eq a b)) first.1 in
    let decides = bytes_eq-Decides a b in (
      eqb-true t s first.0,
      eqb-true f e second.0,
      λ same. false≢true (sym (not-true (bytes_eq a b) second.1) ∙ decides.1 (sym same)),
    )
in_conflict (Sign i s e a p) (Advance size root q) is = absurd (false≢true is)
in_conflict (Sign i s e a p) (Child child low) is = absurd (false≢true is)
in_conflict (Advance size root p) y is = absurd (false≢true is)
in_conflict (Child child low) y is = absurd (false≢true is)

pub of_conflict : (x y : Step) → AreInConflict x y → conflicts y x ≡ true
of_conflict (Sign i s e a p) (Sign j t f b q) is =
    and_from (eqb s t) (eqb e f && not (bytes_eq b a)) (eq-eqb s t is.0)
    (and_from (eqb e f) (not (bytes_eq b a)) (eq-eqb e f is.1)
    (differ (bytes_eq b a) refl))
  where
    differ : (c : Bool) → bytes_eq b a ≡ c → not c ≡ true
    differ true same = let decides = bytes_eq-Decides b a in absurd (is.2 (sym (decides.0 same)))
    differ false same = refl
of_conflict (Sign i s e a p) (Advance size root q) is = absurd is
of_conflict (Sign i s e a p) (Child child low) is = absurd is
of_conflict (Advance size root p) y is = absurd is
of_conflict (Child child low) y is = absurd is

-- Steps in a list.

get_left : (xs ys : List Step) (k : ℕ) → k < length xs
    → slice_get (xs ++ ys) k ≡ slice_get xs k
get_left [] ys k below = let none : ⊥ = omega arith in absurd none
get_left (x ∷ xs) ys zero below = refl
get_left (x ∷ xs) ys (suc k) below = get_left xs ys k (omega arith)

get_here : (xs : List Step) (y : Step) (ys : List Step)
    → slice_get (xs ++ y ∷ ys) (length xs) ≡ Some y
get_here [] y ys = refl
get_here (x ∷ xs) y ys = get_here xs y ys

-- What the steps after one give, by whether that one is in conflict.

pub conflict_here : (seen : List Step) (step : Step) (rest : List Step) (i : ℕ)
    → position (conflicts step) seen ≡ Some i
    → conflict_after seen (step ∷ rest) ≡ Some (i, length seen)
unfolding conflict_after
conflict_here seen step rest i found =
    ap (λ (o : Option ℕ). indices_or o (length seen) (conflict_after (seen ++ step ∷ []) rest))
    found

pub conflict_next : (seen : List Step) (step : Step) (rest : List Step)
    → position (conflicts step) seen ≡ None
    → conflict_after seen (step ∷ rest) ≡ conflict_after (seen ++ step ∷ []) rest
unfolding conflict_after
conflict_next seen step rest none =
    ap (λ (o : Option ℕ). indices_or o (length seen) (conflict_after (seen ++ step ∷ []) rest))
    none

pub conflict_end : (seen : List Step) → conflict_after seen [] ≡ None
unfolding conflict_after
conflict_end seen = refl

-- No two steps up to an index are in conflict.
abbrev pub NoneUpTo : List Step → ℕ → Type 0
NoneUpTo steps count = (a b : ℕ) → a < b → b < count → ConflictAt steps a b → ⊥

-- a step at an index, with an earlier one
at_here : (seen : List Step) (step : Step) (rest : List Step) (a : ℕ) → a < length seen
    → ConflictAt (seen ++ step ∷ rest) a (length seen)
    → conflicts step (get_or seen a step) ≡ true
at_here seen step rest a below at =
    let other_is : at.other ≡ step =
    same_Some at.other step (sym at.second ∙ get_here seen step rest) in
    let one_is : get_or seen a step ≡ at.one =
    get_or_from_slice_get seen a at.one step
    (sym (get_left seen (step ∷ rest) a below) ∙ at.first) in
    ap (conflicts step) one_is
    ∙ of_conflict at.one step (subst (AreInConflict at.one) other_is at.conflict)

here_at : (seen : List Step) (step : Step) (rest : List Step) (a : ℕ) → a < length seen
    → conflicts step (get_or seen a step) ≡ true
    → ConflictAt (seen ++ step ∷ rest) a (length seen)
here_at seen step rest a below is = record {
  one = get_or seen a step;
  other = step;
  first = get_left seen (step ∷ rest) a below ∙ slice_get-get_or seen a step below;
  second = get_here seen step rest;
  conflict = in_conflict step (get_or seen a step) is;
}

-- one step more
none_up_to_next : (seen : List Step) (step : Step) (rest : List Step)
    → NoneUpTo (seen ++ step ∷ rest) (length seen) → position (conflicts step) seen ≡ None
    → NoneUpTo (seen ++ step ∷ rest) (length (seen ++ step ∷ []))
none_up_to_next seen step rest before none a b less below at =
    let size = length_push seen step in
    ⊎_elim
    (λ (earlier : b < length seen). before a b less earlier at)
    (λ (past : length seen ≤ b).
    let here : b ≡ length seen = omega arith in
    let first : a < length seen = omega arith in
    false≢true (sym (none_passes (conflicts step) seen step none a first)
    ∙ at_here seen step rest a first (subst (ConflictAt (seen ++ step ∷ rest) a) here at)))
    (cases_lt b (length seen))

regrouped : (seen : List Step) (step : Step) (rest : List Step)
    → (seen ++ step ∷ []) ++ rest ≡ seen ++ step ∷ rest
regrouped seen step rest = append_assoc seen (step ∷ []) rest

found_or_none : (o : Option ℕ) → ((k : ℕ) × (o ≡ Some k)) ⊎ (o ≡ None)
found_or_none (Some k) = inl (k, refl)
found_or_none None = inr refl

first_here : (seen : List Step) (step : Step) (rest : List Step) (i j k : ℕ)
    → NoneUpTo (seen ++ step ∷ rest) (length seen) → position (conflicts step) seen ≡ Some k
    → k ≡ i → length seen ≡ j → IsFirstConflict (seen ++ step ∷ rest) i j
first_here seen step rest i j k before at first second =
    let is = position-Some (conflicts step) seen k step at in
    let below : k < length seen = is.0 in
    record {
      order = omega arith;
      conflict = subst (λ (b : ℕ). ConflictAt (seen ++ step ∷ rest) i b) second
          (subst (λ (a : ℕ). ConflictAt (seen ++ step ∷ rest) a (length seen)) first
          (here_at seen step rest k below is.1));
      none_before = λ a b less under at. before a b less (omega arith) at;
      none_earlier = λ a less at.
          let sooner : a < k = omega arith in
          let early : a < length seen = omega arith in
          false≢true (sym (is.2 a sooner)
          ∙ at_here seen step rest a early
          (subst (λ (b : ℕ). ConflictAt (seen ++ step ∷ rest) a b) (sym second) at));
    }

is_first : (rest seen : List Step) (i j : ℕ) → NoneUpTo (seen ++ rest) (length seen)
    → conflict_after seen rest ≡ Some (i, j) → IsFirstConflict (seen ++ rest) i j
is_first [] seen i j before found =
    absurd (none-some (i, j) (sym (conflict_end seen) ∙ found))
is_first (step ∷ rest) seen i j before found =
    ⊎_elim
    (λ (at : (k : ℕ) × (position (conflicts step) seen ≡ Some k)).
    let parts = some_pair_parts at.0 i (length seen) j
    (sym (conflict_here seen step rest at.0 at.1) ∙ found) in
    first_here seen step rest i j at.0 before at.1 parts.0 parts.1)
    (λ (none : position (conflicts step) seen ≡ None).
    subst (λ (all : List Step). IsFirstConflict all i j) (regrouped seen step rest)
    (is_first rest (seen ++ step ∷ []) i j
    (subst (λ (all : List Step). NoneUpTo all (length (seen ++ step ∷ [])))
    (sym (regrouped seen step rest)) (none_up_to_next seen step rest before none))
    (sym (conflict_next seen step rest none) ∙ found)))
    (found_or_none (position (conflicts step) seen))

is_none : (rest seen : List Step) → NoneUpTo (seen ++ rest) (length seen)
    → conflict_after seen rest ≡ None → NoneUpTo (seen ++ rest) (length (seen ++ rest))
is_none [] seen before found =
    let same : seen ≡ seen ++ [] = sym (append-nil seen) in
    subst (λ (all : List Step). NoneUpTo (seen ++ []) (length all)) same before
is_none (step ∷ rest) seen before found =
    ⊎_elim
    (λ (at : (k : ℕ) × (position (conflicts step) seen ≡ Some k)).
    absurd (none-some (at.0, length seen) (sym found ∙ conflict_here seen step rest at.0 at.1)))
    (λ (none : position (conflicts step) seen ≡ None).
    subst (λ (all : List Step). NoneUpTo all (length all)) (regrouped seen step rest)
    (is_none rest (seen ++ step ∷ [])
    (subst (λ (all : List Step). NoneUpTo all (length (seen ++ step ∷ [])))
    (sym (regrouped seen step rest)) (none_up_to_next seen step rest before none))
    (sym (conflict_next seen step rest none) ∙ found)))
    (found_or_none (position (conflicts step) seen))

none_at_first : (steps : List Step) → NoneUpTo steps 0
none_at_first steps a b less below at = omega arith

pub first_conflict : (steps : List Step) (i j : ℕ) → conflict_in steps ≡ Some (i, j)
    → IsFirstConflict steps i j
first_conflict steps i j found = is_first steps [] i j (none_at_first steps) found

pub ConflictsAreFirst_always : ConflictsAreFirst
ConflictsAreFirst_always = record {
  found = first_conflict;
  none = λ steps i j found less at.
      is_none steps [] (none_at_first steps) found i j less
      (slice_get_within steps j at.other at.second) at;
}
