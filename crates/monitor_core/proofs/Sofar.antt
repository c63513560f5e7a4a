-- What holds of each item so far.
use Rattle.std.proofs.Common.{◌≡◌, ℕ, zero, suc, ◌+◌, ◌<◌, ◌≤◌, List, [], ◌∷◌, length, take, get_or}
use Rattle.std.proofs.Common.{subst, arith}
use Rattle.std.specs.List.{AllByRecursion}
use Rattle.std.proofs.lemmas.List.{take_all}

next_too : {X : Type 0} (P : X → Type 0) (i : ℕ) (xs : List X) (x d : X) → i < length xs
    → x ≡ get_or xs i d → P x → AllByRecursion P (take i xs) → AllByRecursion P (take (suc i) xs)
next_too P i [] x d within is here all = absurd (omega arith)
next_too P zero (y ∷ ys) x d within is here all = (subst P is here, tt)
next_too P (suc i) (y ∷ ys) x d within is here all =
    (all.0, next_too P i ys x d (omega arith) is here all.1)

-- one more
pub all_more : {X : Type 0} (P : X → Type 0) (i : ℕ) (xs : List X) (x d : X) → i < length xs
    → x ≡ get_or xs i d → P x → AllByRecursion P (take i xs) → AllByRecursion P (take (i + 1) xs)
all_more P i xs x d within is here all =
    let one : suc i ≡ i + 1 = omega arith in
    subst (λ n. AllByRecursion P (take n xs)) one (next_too P i xs x d within is here all)

-- all of them
pub all_of : {X : Type 0} (P : X → Type 0) (i : ℕ) (xs : List X) → length xs ≤ i
    → AllByRecursion P (take i xs) → AllByRecursion P xs
all_of P i xs many all = subst (AllByRecursion P) (take_all i xs many) all
