-- Reading the sizes one after another.
use Rattle.std.proofs.Common.{◌≡◌, ℕ, suc, ◌+◌, ◌-◌, List, [], ◌∷◌, ◌++◌, Result, Ok, Err}
use Rattle.std.proofs.Common.{refl, ap, ◌∙◌, sym, append-nil, append_assoc}
use Rattle.byte_formats.specs.Types.{Text}
use Rattle.byte_formats.specs.Readings.{◌>>=◌}
use Rattle.landmarks.specs.Texts.{size_line, size_lines}
use Rattle.landmarks.specs.declared.error.ListError.{ListError}

-- the sizes so far and those that are read from here on
abbrev pub with_more : List ℕ → Result (List ℕ × Text) ListError → Result (List ℕ × Text) ListError
with_more done more = more >>= λ xs. Ok (done ++ xs.0, xs.1)

pub walk_from : (all : Result (List ℕ × Text) ListError) (done : List ℕ) → done ≡ []
    → with_more done all ≡ all
walk_from (Ok all) done none = ap (λ xs. Ok (xs ++ all.0, all.1)) none
walk_from (Err e) done none = refl

with_one : (done : List ℕ) (size : ℕ) (more : Result (List ℕ × Text) ListError)
    → with_more done (more >>= λ xs. Ok (size ∷ xs.0, xs.1)) ≡ with_more (done ++ size ∷ []) more
with_one done size (Ok xs) = ap (λ sizes. Ok (sizes, xs.1)) (sym (append_assoc done (size ∷ [])
    xs.0))
with_one done size (Err e) = refl

-- one more
pub walk_more : (count left n number before : ℕ) (text : Text) (size : ℕ) (rest : Text)
    (done : List ℕ) → left ≡ suc count → size_line n number before text ≡ Ok (size, rest)
    → with_more done (size_lines left n number before text)
    ≡ with_more (done ++ size ∷ []) (size_lines count (n + 1) (number - 1) size rest)
unfolding size_lines
walk_more count left n number before text size rest done more e =
    ap (λ k. with_more done (size_lines k n number before text)) more
    ∙ ap (λ (r : Result (ℕ × Text) ListError). with_more done (r >>= λ s. size_lines count (n + 1)
    (number - 1) s.0 s.1 >>= λ xs. Ok (s.0 ∷ xs.0, xs.1))) e
    ∙ with_one done size (size_lines count (n + 1) (number - 1) size rest)

-- a fault
pub walk_fails : (count left n number before : ℕ) (text : Text) (done : List ℕ) (e : ListError)
    → left ≡ suc count → size_line n number before text ≡ Err e
    → with_more done (size_lines left n number before text) ≡ Err e
unfolding size_lines
walk_fails count left n number before text done fault more e =
    ap (λ k. with_more done (size_lines k n number before text)) more
    ∙ ap (λ (r : Result (ℕ × Text) ListError). with_more done (r >>= λ s. size_lines count (n + 1)
    (number - 1) s.0 s.1 >>= λ xs. Ok (s.0 ∷ xs.0, xs.1))) e

-- the end
pub walk_ends : (left n number before : ℕ) (text : Text) (done : List ℕ) → left ≡ 0
    → with_more done (size_lines left n number before text) ≡ Ok (done, text)
unfolding size_lines
walk_ends left n number before text done none =
    ap (λ k. with_more done (size_lines k n number before text)) none
    ∙ ap (λ xs. Ok (xs, text)) (append-nil done)
