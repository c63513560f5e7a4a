-- Lists of which each two at one index belong together.
use Rattle.std.proofs.Common.{◌≡◌, ◌∙◌, ◌+◌, ◌<◌, ℕ, zero, suc, List, [], ◌∷◌, ◌++◌, length, take}
use Rattle.std.proofs.Common.{drop}
use Rattle.std.proofs.Common.{get_or, refl, sym, ap, subst, arith, append_assoc, add-one}
use Rattle.std.proofs.Math.Seq.{drop-cons, take-suc}
use Rattle.std.specs.List.{AllByRecursion, remove}
use Rattle.drill_parties.specs.Cosigners.{Paired}

-- ---- two lists

module _ {A B : Type 0} (R : A → B → Type 0) where
  -- one pair more
  pub paired_push : (xs : List A) (ys : List B) (x : A) (y : B) → Paired R xs ys → R x y
      → Paired R (xs ++ x ∷ []) (ys ++ y ∷ [])
  paired_push [] [] x y are here = (here, tt)
  paired_push [] (v ∷ vs) x y are here = absurd are
  paired_push (u ∷ us) [] x y are here = absurd are
  paired_push (u ∷ us) (v ∷ vs) x y are here = (are.0, paired_push us vs x y are.1 here)

  pub paired_length : (xs : List A) (ys : List B) → Paired R xs ys → length xs ≡ length ys
  paired_length [] [] are = refl
  paired_length [] (v ∷ vs) are = absurd are
  paired_length (u ∷ us) [] are = absurd are
  paired_length (u ∷ us) (v ∷ vs) are =
      let rest = paired_length us vs are.1 in omega (arith, rest)

-- what follows of each pair
pub paired_map : {A B : Type 0} (R S : A → B → Type 0) → ((x : A) (y : B) → R x y → S x y)
    → (xs : List A) (ys : List B) → Paired R xs ys → Paired S xs ys
paired_map R S to [] [] are = tt
paired_map R S to [] (y ∷ ys) are = absurd are
paired_map R S to (x ∷ xs) [] are = absurd are
paired_map R S to (x ∷ xs) (y ∷ ys) are = (to x y are.0, paired_map R S to xs ys are.1)

-- pairs, with what is so of each first
pub paired_with : {A B : Type 0} (P : A → Type 0) (R : A → B → Type 0) (xs : List A) (ys : List B)
    → AllByRecursion P xs → Paired R xs ys → Paired (λ x y. P x × R x y) xs ys
paired_with P R [] [] all are = tt
paired_with P R [] (y ∷ ys) all are = absurd are
paired_with P R (x ∷ xs) [] all are = absurd are
paired_with P R (x ∷ xs) (y ∷ ys) all are =
    ((all.0, are.0), paired_with P R xs ys all.1 are.1)

-- what follows of each two pairs that meet
pub paired_join : {A B C : Type 0} (R : A → B → Type 0) (S : B → C → Type 0) (T : A → C → Type 0)
    → ((x : A) (y : B) (z : C) → R x y → S y z → T x z)
    → (xs : List A) (ys : List B) (zs : List C) → Paired R xs ys → Paired S ys zs → Paired T xs zs
paired_join R S T to [] [] [] first second = tt
paired_join R S T to [] [] (z ∷ zs) first second = absurd second
paired_join R S T to [] (y ∷ ys) zs first second = absurd first
paired_join R S T to (x ∷ xs) [] zs first second = absurd first
paired_join R S T to (x ∷ xs) (y ∷ ys) [] first second = absurd second
paired_join R S T to (x ∷ xs) (y ∷ ys) (z ∷ zs) first second = (
  to x y z first.0 second.0,
  paired_join R S T to xs ys zs first.1 second.1,
)

-- ---- a list whose first items go to its end, one by one

module _ {A : Type 0} where
  pub all_at : (P : A → Type 0) (xs : List A) (i : ℕ) (x : A) → AllByRecursion P xs
      → i < length xs → get_or xs i x ≡ x → P x
  all_at P [] i x all below at = absurd (omega (arith, below))
  all_at P (y ∷ ys) zero x all below at = subst (λ (z : A). P z) at all.0
  all_at P (y ∷ ys) (suc i) x all below at = all_at P ys i x all.1 (omega (arith, below)) at

  -- what is first in a list that went round so far
  pub prefix_is : (old done items : List A) (i : ℕ) (x : A) → i < length old
      → items ≡ drop i old ++ done → x ≡ get_or items 0 x → get_or old i x ≡ x
  prefix_is old done items i x below are at =
      ap (λ (xs : List A). get_or (xs ++ done) 0 x) (sym (drop-cons old i x below))
      ∙ ap (λ (xs : List A). get_or xs 0 x) (sym are) ∙ sym at

  -- the list after one more
  pub gone_on : (old done items : List A) (i : ℕ) (x y : A) → i < length old
      → items ≡ drop i old ++ done
      → remove items 0 ++ y ∷ [] ≡ drop (i + 1) old ++ (done ++ y ∷ [])
  gone_on old done items i x y below are =
      rw (add-one i) (ap (λ (xs : List A). drop 1 xs ++ y ∷ [])
      (are ∙ ap (λ (xs : List A). xs ++ done) (drop-cons old i x below))
      ∙ append_assoc (drop (suc i) old) done (y ∷ []))

  -- the prefix that went round, with one more
  pub prefix_more : (old : List A) (i : ℕ) (x : A) → i < length old → get_or old i x ≡ x
      → take (i + 1) old ≡ take i old ++ x ∷ []
  prefix_more old i x below at =
      rw (add-one i) (take-suc old i x below ∙ ap (λ (z : A). take i old ++ z ∷ []) at)
