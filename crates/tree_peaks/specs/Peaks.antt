-- The peaks of a list of leaf hashes: the roots of the full trees of which its tree (RFC 9162,
-- section 2.1.1) is made, the largest first.
use Rattle.std.specs.Prelude.{◌≡◌, ℕ, zero, suc, ◌+◌, ◌/◌, ◌%◌, ◌==◌, if◌then◌else◌, List, [], ◌∷◌}
use Rattle.std.specs.Prelude.{length, take, drop, reverse}
use Rattle.byte_formats.specs.Types.{Hash, HashFunction}
use Rattle.tree_core.specs.Split.{split_of}
use Rattle.tree_core.specs.Tree.{pair_hash, root_of}

-- ---- of a list

-- The largest power of two that is not above n, for n above 0.
abbrev pub top_of : ℕ → ℕ
top_of n = split_of (n + 1)

-- Of no leaves there are none. Of more they are the root of the first top_of of them, and then the
-- peaks of the rest. The first number bounds the depth.
unfoldable pub peaks_within : ℕ → HashFunction → List Hash → List Hash
peaks_within zero h leaves = []
peaks_within (suc depth) h [] = []
peaks_within (suc depth) h (x ∷ rest) =
    let leaves = x ∷ rest in
    let k = top_of (length leaves) in
    root_of h (take k leaves) ∷ peaks_within depth h (drop k leaves)

-- The peaks of a list with these leaf hashes.
unfoldable pub peaks_of : HashFunction → List Hash → List Hash
peaks_of h leaves = peaks_within (length leaves) h leaves

-- The root by the peaks: of none it is the hash of no bytes, and else they are paired from the last
-- to the first.
unfoldable pub root_of_peaks : HashFunction → List Hash → Hash
root_of_peaks h [] = h []
root_of_peaks h (x ∷ []) = x
root_of_peaks h (x ∷ y ∷ rest) = pair_hash h x (root_of_peaks h (y ∷ rest))

-- ---- as a list grows

-- The peaks of n nodes of one level, the smallest first, and one node of that level after them: it
-- is paired with each peak of its size, and then stands before the others.
unfoldable pub carried : HashFunction → ℕ → Hash → List Hash → List Hash
carried h n node [] = node ∷ []
carried h n node (p ∷ ps) =
    if n % 2 == 0 then node ∷ p ∷ ps else carried h (n / 2) (pair_hash h p node) ps

-- How many leaves a list has, and its peaks.
pub record PeaksState : Type 0 where
  pub size : ℕ
  pub peaks : List Hash

-- The same with one more leaf.
abbrev pub with_leaf : HashFunction → PeaksState → Hash → PeaksState
with_leaf h s leaf = record {
  size = s.size + 1;
  peaks = reverse (carried h s.size leaf (reverse s.peaks));
}

-- The same with more leaves, one after another.
abbrev pub with_leaves : HashFunction → PeaksState → List Hash → PeaksState
with_leaves h s [] = s
with_leaves h s (leaf ∷ leaves) = with_leaves h (with_leaf h s leaf) leaves

-- A list with these leaf hashes has this size and these peaks.
pub record ArePeaksOf (h : HashFunction) (leaves : List Hash) (state : PeaksState) : Type 0 where
  pub size : state.size ≡ length leaves
  pub peaks : state.peaks ≡ peaks_of h leaves
