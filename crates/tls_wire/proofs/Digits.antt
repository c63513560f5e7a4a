-- Numbers as their digits in a base, the highest first.
use Rattle.std.proofs.Common.{◌≡◌, ℕ, ◌+◌, ◌*◌, ◌<◌, ◌≤◌, List, [], ◌∷◌, ◌++◌, length, get_or}
use Rattle.std.proofs.Common.{sym, ap, ◌∙◌, refl, append-nil, append_assoc, arith}
use Rattle.std.specs.Int.Digits.{digits_of, number_from_digits_after, AllBelowBase}
use Rattle.std.proofs.lemmas.Nat.{div-mul-add, mod-mul-add}
use Rattle.std.proofs.lemmas.Int.Digits.{digits_of_step, number_after_ge}

-- Digits after those of n, where no zero leads, are the last ones of the number that they make.
pub digits_grow : (b n : ℕ) (ds : List ℕ) → 2 ≤ b → (0 < length ds → 0 < n * b + get_or ds 0 0)
    → AllBelowBase b ds → digits_of b (number_from_digits_after b n ds) ≡ digits_of b n ++ ds
digits_grow b n [] two some below = sym (append-nil (digits_of b n))
digits_grow b n (d ∷ ds) two some below =
    let pos : 0 < n * b + d = some (omega arith) in
    let least = number_after_ge b (n * b + d) (get_or ds 0 0 ∷ []) (omega arith) in
    let more : 0 < length ds → 0 < (n * b + d) * b + get_or ds 0 0 = λ long. omega arith in
    let one : digits_of b (n * b + d) ≡ digits_of b n ++ (d ∷ []) =
    digits_of_step b (n * b + d) two pos
    ∙ rw (div-mul-add n b d below.0, mod-mul-add n b d below.0) refl in
    digits_grow b (n * b + d) ds two more below.1
    ∙ (ap (λ (t : List ℕ). t ++ ds) one ∙ append_assoc (digits_of b n) (d ∷ []) ds)
