-- The first index at which a test passes, in a list and in one with an element more.
use Rattle.std.proofs.Common.{◌≡◌, ℕ, ◌<◌, ◌≤◌, ⊎_elim, Bool, true, false, cond, ltb, List, []}
use Rattle.std.proofs.Common.{◌∷◌, ◌++◌, length, get_or, Some, None, sym, ◌∙◌, ap, refl, arith}
use Rattle.std.specs.Prelude.{Option, unwrap_or}
use Rattle.std.specs.List.{position, position_or_len}
use Rattle.std.proofs.lemmas.Bool.{cases_lt, cond-false, cond-true, le-ltb, lt-ltb}
use Rattle.std.proofs.lemmas.List.{get_or_append_left, get_or_push, length_push}
use Rattle.std.proofs.lemmas.List.Quantifiers.{position-Some}
use Rattle.std.proofs.lemmas.List.Sums.{fails_before_first, position_or_len_is}

pub position_is : {X : Type 0} (p : X → Bool) (xs : List X) (i : ℕ) (d : X) → i < length xs
    → ((k : ℕ) → k < i → p (get_or xs k d) ≡ false) → p (get_or xs i d) ≡ true
    → position p xs ≡ Some i
position_is p xs i d below before here =
    ap (λ (n : ℕ). cond (ltb n (length xs)) (Some n) None)
    (position_or_len_is p xs i d (omega arith) before (λ within. here))
    ∙ cond-true (ltb i (length xs)) (Some i) None (lt-ltb i (length xs) below)

pub position_none : {X : Type 0} (p : X → Bool) (xs : List X) (d : X)
    → ((k : ℕ) → k < length xs → p (get_or xs k d) ≡ false) → position p xs ≡ None
position_none p xs d fails =
    ap (λ (n : ℕ). cond (ltb n (length xs)) (Some n) None)
    (position_or_len_is p xs (length xs) d (omega arith) fails
    (λ within. let none : ⊥ = omega arith in absurd none))
    ∙ cond-false (ltb (length xs) (length xs)) (Some (length xs)) None
    (le-ltb (length xs) (length xs) (omega arith))

pub none_passes : {X : Type 0} (p : X → Bool) (xs : List X) (d : X) → position p xs ≡ None
    → (k : ℕ) → k < length xs → p (get_or xs k d) ≡ false
none_passes p xs d none k within =
    ⊎_elim
    (λ (found : position_or_len p xs < length xs).
    let some : Some (position_or_len p xs) ≡ None =
    sym (cond-true (ltb (position_or_len p xs) (length xs)) (Some (position_or_len p xs)) None
    (lt-ltb (position_or_len p xs) (length xs) found)) ∙ none in
    absurd cc)
    (λ (past : length xs ≤ position_or_len p xs).
    fails_before_first p xs k d (omega arith))
    (cases_lt (position_or_len p xs) (length xs))

-- what was found is found in a longer list
pub found_longer : {X : Type 0} (p : X → Bool) (xs : List X) (y d : X) (i : ℕ)
    → position p xs ≡ Some i → position p (xs ++ y ∷ []) ≡ Some i
found_longer p xs y d i found =
    let at = position-Some p xs i d found in
    let below : i < length xs = at.0 in
    let size = length_push xs y in
    position_is p (xs ++ y ∷ []) i d (omega arith)
    (λ k less. ap p (get_or_append_left xs (y ∷ []) d k (omega arith)) ∙ at.2 k less)
    (ap p (get_or_append_left xs (y ∷ []) d i below) ∙ at.1)

-- where none was found, the last is the first that passes, or none does
pub last_passes : {X : Type 0} (p : X → Bool) (xs : List X) (y d : X) → position p xs ≡ None
    → p y ≡ true → position p (xs ++ y ∷ []) ≡ Some (length xs)
last_passes p xs y d none passes =
    let size = length_push xs y in
    position_is p (xs ++ y ∷ []) (length xs) d (omega arith)
    (λ k less. ap p (get_or_append_left xs (y ∷ []) d k less) ∙ none_passes p xs d none k less)
    (ap p (get_or_push xs y d (length xs) refl) ∙ passes)

pub last_fails : {X : Type 0} (p : X → Bool) (xs : List X) (y d : X) → p y ≡ false
    → position p (xs ++ y ∷ []) ≡ position p xs
last_fails p xs y d fails = by (position p xs) refl
  where
    by : (o : Option ℕ) → position p xs ≡ o → position p (xs ++ y ∷ []) ≡ o
    by (Some i) found = found_longer p xs y d i found
    by None none =
        let size = length_push xs y in
        position_none p (xs ++ y ∷ []) d
        (λ k less. ⊎_elim
        (λ (before : k < length xs).
        ap p (get_or_append_left xs (y ∷ []) d k before) ∙ none_passes p xs d none k before)
        (λ (past : length xs ≤ k).
        let here : length xs ≡ k = omega arith in
        ap p (get_or_push xs y d k here) ∙ fails)
        (cases_lt k (length xs)))

pub passes_last : {X : Type 0} (p : X → Bool) (xs : List X) (y d : X) → p y ≡ true
    → position p (xs ++ y ∷ []) ≡ Some (unwrap_or (position p xs) (length xs))
passes_last p xs y d passes = by (position p xs) refl
  where
    by : (o : Option ℕ) → position p xs ≡ o
        → position p (xs ++ y ∷ []) ≡ Some (unwrap_or o (length xs))
    by (Some i) found = found_longer p xs y d i found
    by None none = last_passes p xs y d none passes
