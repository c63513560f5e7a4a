-- Records that make a state, and more of them.
use Rattle.std.proofs.Common.{◌≡◌, ℕ, ◌+◌, List, [], ◌∷◌, ◌++◌, length, Option, Some, None, Result}
use Rattle.std.proofs.Common.{Ok, Err, ap, ◌∙◌, arith}
use Rattle.byte_formats.specs.Readings.{◌>>=◌, some_or}
use Rattle.byte_formats.proofs.Steps.{bind_ok, ok_is}
use Rattle.journal_core.specs.Folds.{Fold, taken_from, state_after}

taken_more : {S E : Type 0} (fold : Fold S E) (k : ℕ) (s : S) (list rest : List (List ℕ)) (t : S)
    → taken_from fold k s list ≡ Ok t
    → taken_from fold k s (list ++ rest) ≡ taken_from fold (k + length list) t rest
unfolding taken_from
taken_more {S} {E} fold k s [] rest t is =
    let same : s ≡ t = ok_is ℕ s t is in
    let here : k ≡ k + 0 = omega arith in
    ap (λ (u : S). taken_from fold k u rest) same ∙ ap (λ (n : ℕ). taken_from fold n t rest) here
taken_more {S} {E} fold k s (body ∷ list) rest t is =
    let step = bind_ok (some_or k (fold.takes s body)) (λ (u : S). taken_from fold (k + 1) u list) t
    is in
    let first : taken_from fold k s (body ∷ (list ++ rest))
    ≡ taken_from fold (k + 1) step.0 (list ++ rest)
    = ap (λ (r : Result S ℕ). r >>= λ (u : S). taken_from fold (k + 1) u (list ++ rest)) step.1 in
    let far : k + 1 + length list ≡ k + length (body ∷ list) = omega arith in
    first ∙ taken_more fold (k + 1) step.0 list rest t step.2
    ∙ ap (λ (n : ℕ). taken_from fold n t rest) far

pub state_more : {S E : Type 0} (fold : Fold S E) (list rest : List (List ℕ)) (s : S)
    → state_after fold list ≡ Ok s
    → state_after fold (list ++ rest) ≡ taken_from fold (length list) s rest
unfolding state_after
state_more fold [] rest s is = cc
state_more {S} {E} fold (first ∷ list) rest s is =
    let step = bind_ok (some_or 0 (fold.begins first)) (λ (u : S). taken_from fold 1 u list) s is in
    let begins : state_after fold (first ∷ (list ++ rest))
    ≡ taken_from fold 1 step.0 (list ++ rest)
    = ap (λ (r : Result S ℕ). r >>= λ (u : S). taken_from fold 1 u (list ++ rest)) step.1 in
    let far : 1 + length list ≡ length (first ∷ list) = omega arith in
    begins ∙ taken_more fold 1 step.0 list rest s step.2
    ∙ ap (λ (n : ℕ). taken_from fold n s rest) far

-- the next record is taken
pub state_next : {S E : Type 0} (fold : Fold S E) (list : List (List ℕ)) (s : S)
    (body : List ℕ) (t : S)
    → state_after fold list ≡ Ok s → fold.takes s body ≡ Some t
    → state_after fold (list ++ body ∷ []) ≡ Ok t
unfolding taken_from
state_next {S} {E} fold list s body t is next =
    state_more fold list (body ∷ []) s is
    ∙ ap (λ (o : Option S). some_or (length list) o >>= λ (u : S). taken_from fold
    (length list + 1) u []) next

-- the next record breaks the rules
pub state_stops : {S E : Type 0} (fold : Fold S E) (list : List (List ℕ)) (s : S) (body : List ℕ)
    (rest : List (List ℕ))
    → state_after fold list ≡ Ok s → fold.takes s body ≡ None
    → state_after fold (list ++ body ∷ rest) ≡ Err (length list)
unfolding taken_from
state_stops {S} {E} fold list s body rest is next =
    state_more fold list (body ∷ rest) s is
    ∙ ap (λ (o : Option S). some_or (length list) o >>= λ (u : S). taken_from fold
    (length list + 1) u rest) next

-- the first record is taken, or breaks the rules
pub state_begins : {S E : Type 0} (fold : Fold S E) (body : List ℕ) (s : S)
    → fold.begins body ≡ Some s
    → state_after fold (body ∷ []) ≡ Ok s
unfolding state_after taken_from
state_begins {S} {E} fold body s is =
    ap (λ (o : Option S). some_or 0 o >>= λ (u : S). taken_from fold 1 u []) is

pub state_begins_not : {S E : Type 0} (fold : Fold S E) (body : List ℕ) (rest : List (List ℕ))
    → fold.begins body ≡ None
    → state_after fold (body ∷ rest) ≡ Err 0
unfolding state_after
state_begins_not {S} {E} fold body rest is =
    ap (λ (o : Option S). some_or 0 o >>= λ (u : S). taken_from fold 1 u rest) is
