-- The hashes of an inclusion path have 32 bytes, and there are as many as the tree is high at most.
-- It should stand in tree_core.
use Rattle.std.proofs.Common.{◌≡◌, ℕ, zero, suc, ◌-◌, ◌^◌, ◌≤◌, nat_lt, nat_le, List, []}
use Rattle.std.proofs.Common.{◌∷◌, ◌++◌, length, take, drop, arith, if◌then◌else◌}
use Rattle.std.specs.Prelude.{map}
use Rattle.std.specs.List.{AllByRecursion}
use Rattle.std.proofs.lemmas.Bool.{cond_both, leb-false}
use Rattle.std.proofs.lemmas.List.{length-append, length-drop, length-take}
use Rattle.byte_formats.specs.Types.{Hash, HashFunction, Text}
use Rattle.tls_wire.specs.Encoding.{AreHashes}
use Rattle.tree_core.specs.Path.{path_of, path_within}
use Rattle.tree_core.specs.Split.{split_of}
use Rattle.tree_core.specs.Tree.{leaf_hash, root_of, root_within}
use Rattle.tree_core.proofs.Powers.{half_within, split_bounds}

-- ---- lists

pub all_take : {A : Type 0} (P : A → Type 0) (n : ℕ) (xs : List A) → AllByRecursion P xs
    → AllByRecursion P (take n xs)
all_take P zero xs all = tt
all_take P (suc n) [] all = tt
all_take P (suc n) (x ∷ xs) all = (all.0, all_take P n xs all.1)

pub all_drop : {A : Type 0} (P : A → Type 0) (n : ℕ) (xs : List A) → AllByRecursion P xs
    → AllByRecursion P (drop n xs)
all_drop P zero xs all = all
all_drop P (suc n) [] all = tt
all_drop P (suc n) (x ∷ xs) all = all_drop P n xs all.1

all_push : {A : Type 0} (P : A → Type 0) (xs : List A) (x : A) → AllByRecursion P xs → P x
    → AllByRecursion P (xs ++ x ∷ [])
all_push P [] x all one = (one, tt)
all_push P (y ∷ ys) x all one = (all.0, all_push P ys x all.1 one)

-- ---- hashes

abbrev IsHash : Hash → Type 0
IsHash hash = length hash ≡ 32

module _ (h : HashFunction) (sized : (bytes : Text) → length (h bytes) ≡ 32) where
  pub leaves_are : (entries : List Text) → AllByRecursion IsHash (map (leaf_hash h) entries)
  leaves_are [] = tt
  leaves_are (entry ∷ entries) = (sized (0 ∷ entry), leaves_are entries)

  root_is : (depth : ℕ) (leaves : List Hash) → AllByRecursion IsHash leaves
      → IsHash (root_within depth h leaves)
  unfolding root_within
  root_is zero leaves all = sized []
  root_is (suc depth) [] all = sized []
  root_is (suc depth) (x ∷ []) all = all.0
  root_is (suc depth) (x ∷ y ∷ rest) all = sized _

  root_of_is : (leaves : List Hash) → AllByRecursion IsHash leaves → IsHash (root_of h leaves)
  unfolding root_of
  root_of_is leaves all = root_is (length leaves) leaves all

  -- such hashes, and no more than this
  abbrev AreFew : ℕ → List Hash → Type 0
  AreFew most path = AllByRecursion IsHash path × (length path ≤ most)

  one_more : (most : ℕ) (path : List Hash) (hash : Hash) → 1 ≤ most → AreFew (most - 1) path
      → IsHash hash → AreFew most (path ++ hash ∷ [])
  one_more most path hash some few is = (
    all_push IsHash path hash few.0 is,
    omega (arith, length-append path (hash ∷ []), few.1, some),
  )

  path_is : (depth e m : ℕ) (leaves : List Hash) → length leaves ≤ 2 ^ e
      → AllByRecursion IsHash leaves → AreFew e (path_within depth h m leaves)
  unfolding path_within
  path_is zero e m leaves few all = (tt, omega arith)
  path_is (suc depth) e m leaves few all =
      let k : ℕ = split_of (length leaves) in
      cond_both (nat_le (length leaves) 1) [] (if nat_lt m k
      then path_within depth h m (take k leaves) ++ root_of h (drop k leaves) ∷ []
      else path_within depth h (m - k) (drop k leaves) ++ root_of h (take k leaves) ∷ [])
      (AreFew e) (λ one. (tt, omega arith))
      (λ more.
      let several = leb-false (length leaves) 1 more in
      let half = half_within (length leaves) e several few in
      let bounds = split_bounds (length leaves) in
      let prefix : length (take k leaves) ≤ 2 ^ (e - 1) =
      omega (arith, length-take k leaves, half.half) in
      let back : length (drop k leaves) ≤ 2 ^ (e - 1) =
      omega (arith, length-drop k leaves, half.half, bounds.half) in
      cond_both (nat_lt m k)
      (path_within depth h m (take k leaves) ++ root_of h (drop k leaves) ∷ [])
      (path_within depth h (m - k) (drop k leaves) ++ root_of h (take k leaves) ∷ [])
      (AreFew e)
      (λ left. one_more e (path_within depth h m (take k leaves)) (root_of h (drop k leaves))
      half.some (path_is depth (e - 1) m (take k leaves) prefix (all_take IsHash k leaves all))
      (root_of_is (drop k leaves) (all_drop IsHash k leaves all)))
      (λ right. one_more e (path_within depth h (m - k) (drop k leaves))
      (root_of h (take k leaves)) half.some
      (path_is depth (e - 1) (m - k) (drop k leaves) back (all_drop IsHash k leaves all))
      (root_of_is (take k leaves) (all_take IsHash k leaves all))))

  pub path_hashes : (m : ℕ) (leaves : List Hash) → length leaves ≤ 2 ^ 24
      → AllByRecursion IsHash leaves → AreHashes (path_of h m leaves)
  unfolding path_of
  path_hashes m leaves few all =
      let is = path_is (length leaves) 24 m leaves few all in
      (is.0, omega (arith, is.1))
