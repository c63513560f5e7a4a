-- The hashes of a consistency proof have 32 bytes, and there is at most one more than the tree is
-- high.
use Rattle.std.proofs.Common.{◌≡◌, ℕ, zero, suc, ◌+◌, ◌-◌, ◌^◌, ◌<◌, ◌≤◌, ◌==◌, ◌&&◌, Bool, true}
use Rattle.std.proofs.Common.{false}
use Rattle.std.proofs.Common.{List, [], ◌∷◌, ◌++◌, length, take, drop, arith}
use Rattle.std.specs.Prelude.{map, nat_le, if◌then◌else◌}
use Rattle.std.specs.List.{AllByRecursion}
use Rattle.std.proofs.lemmas.Bool.{cond_both, leb-false, leb-true}
use Rattle.std.proofs.lemmas.Grind.{common_steps}
use Rattle.std.proofs.lemmas.List.{length-append, length-drop, length-map, length-take}
use Rattle.byte_formats.specs.Types.{Hash, HashFunction, Text}
use Rattle.tls_wire.specs.Encoding.{AreHashes}
use Rattle.tree_core.specs.Split.{split_of}
use Rattle.tree_core.specs.Tree.{leaf_hash, root_of, root_within}
use Rattle.tree_core.proofs.Powers.{half_within, split_bounds}
use Rattle.tree_proofs.specs.Proof.{consistency_proof, proof_of, proof_within}
use Rattle.mirror_cosigner.proofs.Agreeing.{all_push}

all_first : {A : Type 0} (P : A → Type 0) (n : ℕ) (xs : List A) → AllByRecursion P xs
    → AllByRecursion P (take n xs)
all_first P zero xs all = tt
all_first P (suc n) [] all = tt
all_first P (suc n) (x ∷ xs) all = (all.0, all_first P n xs all.1)

all_after : {A : Type 0} (P : A → Type 0) (n : ℕ) (xs : List A) → AllByRecursion P xs
    → AllByRecursion P (drop n xs)
all_after P zero xs all = all
all_after P (suc n) [] all = tt
all_after P (suc n) (x ∷ xs) all = all_after P n xs all.1

abbrev IsHash : Hash → Type 0
IsHash hash = length hash ≡ 32

-- such hashes, and no more than this
abbrev AreFew : ℕ → List Hash → Type 0
AreFew most hashes = AllByRecursion IsHash hashes × (length hashes ≤ most)

-- a part that is not the whole is one of several
several : (start end count : ℕ) → ((start == 0) && (end == count)) ≡ false → start < end
    → end ≤ count → 1 < count
several start end count is order within = grind (arith, common_steps)

module _ (h : HashFunction) (sized : (bytes : Text) → length (h bytes) ≡ 32) where
  leaves_are : (entries : List Text) → AllByRecursion IsHash (map (leaf_hash h) entries)
  leaves_are [] = tt
  leaves_are (entry ∷ entries) = (sized (0 ∷ entry), leaves_are entries)

  root_is : (depth : ℕ) (leaves : List Hash) → AllByRecursion IsHash leaves
      → IsHash (root_within depth h leaves)
  unfolding root_within
  root_is zero leaves all = sized []
  root_is (suc depth) [] all = sized []
  root_is (suc depth) (x ∷ []) all = all.0
  root_is (suc depth) (x ∷ y ∷ rest) all = sized _

  root_of_is : (leaves : List Hash) → AllByRecursion IsHash leaves → IsHash (root_of h leaves)
  unfolding root_of
  root_of_is leaves all = root_is (length leaves) leaves all

  one_more : (e : ℕ) (proof : List Hash) (hash : Hash) → 1 ≤ e → AreFew (e - 1 + 1) proof
      → IsHash hash → AreFew (e + 1) (proof ++ hash ∷ [])
  one_more e proof hash some few is = (
    all_push IsHash proof hash few.0 is,
    omega (arith, length-append proof (hash ∷ []), few.1, some),
  )

  made_is : (depth e start end : ℕ) (known : Bool) (leaves : List Hash) → length leaves ≤ 2 ^ e
      → start < end → end ≤ length leaves → AllByRecursion IsHash leaves
      → AreFew (e + 1) (proof_within depth h start end known leaves)
  unfolding proof_within
  made_is zero e start end known leaves few order within all = (tt, omega arith)
  made_is (suc depth) e start end known leaves few order within all =
      let n : ℕ = length leaves in
      let k : ℕ = split_of n in
      let left : List Hash =
      proof_within depth h start end known (take k leaves) ++ root_of h (drop k leaves) ∷ [] in
      let right : List Hash =
      proof_within depth h (start - k) (end - k) known (drop k leaves)
      ++ root_of h (take k leaves) ∷ [] in
      let over : List Hash =
      proof_within depth h 0 (end - k) false (drop k leaves) ++ root_of h (take k leaves) ∷ [] in
      cond_both ((start == 0) && (end == n)) (if known then [] else root_of h leaves ∷ [])
      (if nat_le end k then left else (if nat_le k start then right else over)) (AreFew (e + 1))
      (λ whole. cond_both known [] (root_of h leaves ∷ []) (AreFew (e + 1))
      (λ is. (tt, omega arith)) (λ is. ((root_of_is leaves all, tt), omega arith)))
      (λ part.
      let more = several start end n part order within in
      let half = half_within n e more few in
      let bounds = split_bounds n in
      let some = half.some in
      let short = half.half in
      let half_below = bounds.half in
      let below = bounds.below in
      let prefix : length (take k leaves) ≤ 2 ^ (e - 1) =
      omega (arith, length-take k leaves, short) in
      let back : length (drop k leaves) ≤ 2 ^ (e - 1) =
      omega (arith, length-drop k leaves, short, half_below) in
      let firsts = all_first IsHash k leaves all in
      let rest = all_after IsHash k leaves all in
      cond_both (nat_le end k) left (if nat_le k start then right else over) (AreFew (e + 1))
      (λ is.
      let inside = leb-true end k is in
      one_more e (proof_within depth h start end known (take k leaves)) (root_of h (drop k leaves))
      some (made_is depth (e - 1) start end known (take k leaves) prefix order
      (omega (arith, length-take k leaves, inside, within)) firsts)
      (root_of_is (drop k leaves) rest))
      (λ is.
      let past = leb-false end k is in
      cond_both (nat_le k start) right over (AreFew (e + 1))
      (λ from.
      let after = leb-true k start from in
      one_more e (proof_within depth h (start - k) (end - k) known (drop k leaves))
      (root_of h (take k leaves)) some (made_is depth (e - 1) (start - k) (end - k) known
      (drop k leaves) back (omega (arith, after, order))
      (omega (arith, length-drop k leaves, within))
      rest) (root_of_is (take k leaves) firsts))
      (λ from. one_more e (proof_within depth h 0 (end - k) false (drop k leaves))
      (root_of h (take k leaves)) some (made_is depth (e - 1) 0 (end - k) false (drop k leaves) back
      (omega (arith, past)) (omega (arith, length-drop k leaves, within)) rest)
      (root_of_is (take k leaves) firsts))))

  -- The consistency proof of a part of fewer than 2^64 entries.
  pub proof_hashes : (start end : ℕ) (entries : List Text) → length entries < 2 ^ 64 → start < end
      → end ≤ length entries → AreHashes (consistency_proof h start end true entries)
  unfolding proof_of
  proof_hashes start end entries few order within =
      let leaves = map (leaf_hash h) entries in
      let count : length leaves ≡ length entries = length-map entries (leaf_hash h) in
      let is = made_is (length leaves) 64 start end true leaves (omega (arith, count, few)) order
      (omega (arith, count, within)) (leaves_are entries) in
      (is.0, omega (arith, is.1))
