-- The tree hash (RFC 9162, section 2.1.1) and subtrees (the draft on Merkle Tree Certificates) in
-- the standards' own words, with powers of two as such and numbers without a bound.
use Rattle.std.specs.Prelude.{◌≡◌, ℕ, ◌-◌, ◌%◌, ◌<◌, ◌≤◌, ◌↔◌, List, [], ◌∷◌, ◌++◌, length, take}
use Rattle.std.specs.Prelude.{drop, IsTrue}
use Rattle.std.specs.Int.{IsPowerOfTwo}
use Rattle.byte_formats.specs.Types.{HashFunction, Text}
use Rattle.tree_core.specs.Split.{split_of}
use Rattle.tree_core.specs.Subtree.{is_subtree}
use Rattle.tree_core.specs.Tree.{tree_hash}

-- k is the largest power of two below n.
pub record IsLargestPowerBelow (n k : ℕ) : Type 0 where
  pub power : IsPowerOfTwo k
  pub below : k < n
  pub largest : (p : ℕ) → IsPowerOfTwo p → p < n → p ≤ k

-- The tree hash of no entries is the hash of no bytes; of one, of 0 and the entry; of more, of 1
-- and the tree hashes of the first k and of the rest, for k the largest power of two below their
-- number.
pub record IsTreeHash (h : HashFunction) : Type 0 where
  pub none : tree_hash h [] ≡ h []
  pub one : (entry : Text) → tree_hash h (entry ∷ []) ≡ h (0 ∷ entry)
  pub more : (entries : List Text) (k : ℕ) → IsLargestPowerBelow (length entries) k
      → tree_hash h entries ≡ h (1 ∷ tree_hash h (take k entries) ++ tree_hash h (drop k entries))

-- Each number above 1 has a largest power of two below it, which is where its list is split.
abbrev pub SplitsAtLargestPower : Type 0
SplitsAtLargestPower = (n : ℕ) → 1 < n → IsLargestPowerBelow n (split_of n)

-- p is the least power of two that is not below n.
pub record IsLeastPowerFrom (n p : ℕ) : Type 0 where
  pub power : IsPowerOfTwo p
  pub from : n ≤ p
  pub least : (q : ℕ) → IsPowerOfTwo q → n ≤ q → p ≤ q

-- [start, end) has entries, and start is a multiple of the least power of two that is not below
-- their number.
pub record IsSubtree (start end : ℕ) : Type 0 where
  pub inhabited : start < end
  pub aligned : (power : ℕ) × (IsLeastPowerFrom (end - start) power × (start % power ≡ 0))

-- The test and the words agree.
abbrev pub SubtreesByPower : Type 0
SubtreesByPower = (start end : ℕ) → IsTrue (is_subtree start end) ↔ IsSubtree start end
