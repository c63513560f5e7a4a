-- The pairs of a row: their number, those of a longer row, and those of its parts.
use Rattle.std.proofs.Common.{◌≡◌, ℕ, zero, suc, ◌+◌, ◌*◌, ◌-◌, ◌/◌, ◌%◌, ◌<◌, List, [], ◌∷◌}
use Rattle.std.proofs.Common.{◌++◌, length, get_or, take, drop, sym, ◌∙◌, ap, refl, arith}
use Rattle.tree_cache.specs.Rows.{paired}
use Rattle.tree_core.specs.Path.{part_of}
use Rattle.tree_core.specs.Tree.{pair_hash}

pub length-paired : (h : List ℕ → List ℕ) (xs : List (List ℕ))
    → length (paired h xs) ≡ length xs / 2
unfolding paired
length-paired h [] = refl
length-paired h (x ∷ []) = refl
length-paired h (x ∷ y ∷ rest) = let more = length-paired h rest in omega arith

-- one hash more has no sibling yet, or is the sibling of the last one
pub paired-alone : (h : List ℕ → List ℕ) (xs : List (List ℕ)) (z : List ℕ) → length xs % 2 ≡ 0
    → paired h (xs ++ z ∷ []) ≡ paired h xs
unfolding paired
paired-alone h [] z even = refl
paired-alone h (x ∷ []) z even = let none : ⊥ = omega arith in absurd none
paired-alone h (x ∷ y ∷ rest) z even =
    ap (λ row. pair_hash h x y ∷ row) (paired-alone h rest z (omega arith))

pub paired-joined : (h : List ℕ → List ℕ) (xs : List (List ℕ)) (z : List ℕ) (last : ℕ)
    → length xs % 2 ≡ 1 → last + 1 ≡ length xs
    → paired h (xs ++ z ∷ []) ≡ paired h xs ++ pair_hash h (get_or xs last []) z ∷ []
unfolding paired
paired-joined h [] z last odd is = let none : ⊥ = omega arith in absurd none
paired-joined h (x ∷ []) z zero odd is = refl
paired-joined h (x ∷ []) z (suc last) odd is = let none : ⊥ = omega arith in absurd none
paired-joined h (x ∷ y ∷ rest) z zero odd is = let none : ⊥ = omega arith in absurd none
paired-joined h (x ∷ y ∷ rest) z (suc zero) odd is = let none : ⊥ = omega arith in absurd none
paired-joined h (x ∷ y ∷ rest) z (suc (suc last)) odd is =
    ap (λ row. pair_hash h x y ∷ row)
    (paired-joined h rest z last (omega arith) (omega arith))

-- a pair is that of the hashes at its two indices
pub paired-at : (h : List ℕ → List ℕ) (xs : List (List ℕ)) (k : ℕ) → 2 * k + 1 < length xs
    → get_or (paired h xs) k [] ≡ pair_hash h (get_or xs (2 * k) []) (get_or xs (2 * k + 1) [])
unfolding paired
paired-at h [] k inside = let none : ⊥ = omega arith in absurd none
paired-at h (x ∷ []) k inside = let none : ⊥ = omega arith in absurd none
paired-at h (x ∷ y ∷ rest) zero inside = refl
paired-at h (x ∷ y ∷ rest) (suc k) inside =
    let left : suc (suc (2 * k)) ≡ 2 * suc k = omega arith in
    let right : suc (suc (2 * k + 1)) ≡ 2 * suc k + 1 = omega arith in
    paired-at h rest k (omega arith)
    ∙ ap (λ i. pair_hash h (get_or (x ∷ y ∷ rest) i []) (get_or rest (2 * k + 1) [])) left
    ∙ ap (λ i. pair_hash h (get_or (x ∷ y ∷ rest) (2 * suc k) [])
    (get_or (x ∷ y ∷ rest) i [])) right

-- the pairs of a part of even indices
twice : ℕ → ℕ
twice zero = zero
twice (suc k) = suc (suc (twice k))

twice-is : (k : ℕ) → twice k ≡ 2 * k
unfolding twice
twice-is zero = refl
twice-is (suc k) = let before = twice-is k in omega arith

take-twice : (h : List ℕ → List ℕ) (k : ℕ) (xs : List (List ℕ))
    → paired h (take (twice k) xs) ≡ take k (paired h xs)
unfolding paired twice
take-twice h zero xs = refl
take-twice h (suc k) [] = refl
take-twice h (suc k) (x ∷ []) = refl
take-twice h (suc k) (x ∷ y ∷ rest) = ap (λ row. pair_hash h x y ∷ row) (take-twice h k rest)

drop-twice : (h : List ℕ → List ℕ) (k : ℕ) (xs : List (List ℕ))
    → paired h (drop (twice k) xs) ≡ drop k (paired h xs)
unfolding paired twice
drop-twice h zero xs = refl
drop-twice h (suc k) [] = refl
drop-twice h (suc k) (x ∷ []) = refl
drop-twice h (suc k) (x ∷ y ∷ rest) = drop-twice h k rest

pub take-paired : (h : List ℕ → List ℕ) (k n : ℕ) (xs : List (List ℕ)) → n ≡ 2 * k
    → paired h (take n xs) ≡ take k (paired h xs)
take-paired h k n xs is =
    ap (λ m. paired h (take m xs)) (is ∙ sym (twice-is k)) ∙ take-twice h k xs

pub drop-paired : (h : List ℕ → List ℕ) (k n : ℕ) (xs : List (List ℕ)) → n ≡ 2 * k
    → paired h (drop n xs) ≡ drop k (paired h xs)
drop-paired h k n xs is =
    ap (λ m. paired h (drop m xs)) (is ∙ sym (twice-is k)) ∙ drop-twice h k xs

pub part-paired : (h : List ℕ → List ℕ) (xs : List (List ℕ)) (a b c d : ℕ) → c ≡ 2 * a
    → d ≡ 2 * b
    → paired h (part_of xs c d) ≡ part_of (paired h xs) a b
part-paired h xs a b c d from to =
    take-paired h (b - a) (d - c) (drop c xs) (omega arith)
    ∙ ap (take (b - a)) (drop-paired h a c xs from)
