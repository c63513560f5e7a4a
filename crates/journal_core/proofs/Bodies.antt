-- A list of bodies with one more at its end, from an offset on.
use Rattle.std.proofs.Common.{◌≡◌, ℕ, ◌+◌, ◌<◌, ◌≤◌, List, [], ◌∷◌, ◌++◌, length, drop, get_or}
use Rattle.std.proofs.Common.{ap, sym, ◌∙◌, add-one, drop-cons}
use Rattle.std.proofs.lemmas.List.{drop_all}

-- at an offset within them
pub rest_at : (bodies : List (List ℕ)) (i : ℕ) (x body : List ℕ) → i < length bodies
    → x ≡ get_or bodies i x
    → drop i bodies ++ body ∷ [] ≡ x ∷ (drop (i + 1) bodies ++ body ∷ [])
rest_at bodies i x body there is =
    let cut : drop i bodies ≡ get_or bodies i x ∷ drop (i + 1) bodies
    = drop-cons bodies i x there ∙ ap (λ (n : ℕ). get_or bodies i x ∷ drop n bodies)
    (sym (add-one i)) in
    ap (λ (l : List (List ℕ)). l ++ body ∷ []) cut
    ∙ ap (λ (y : List ℕ). y ∷ (drop (i + 1) bodies ++ body ∷ [])) (sym is)

-- after them
pub none_left : (bodies : List (List ℕ)) (i : ℕ) (body : List ℕ) → length bodies ≤ i
    → drop i bodies ++ body ∷ [] ≡ body ∷ []
none_left bodies i body past = ap (λ (l : List (List ℕ)). l ++ body ∷ []) (drop_all i bodies past)
