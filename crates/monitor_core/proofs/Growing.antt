-- Pushing leaves one after another.
use Rattle.std.proofs.Common.{◌≡◌, ◌+◌, List, [], ◌∷◌, ◌++◌, length, refl, arith}
use Rattle.byte_formats.specs.Types.{Hash, HashFunction}
use Rattle.tree_peaks.specs.Peaks.{PeaksState, with_leaf, with_leaves}

-- how many leaves there are then
pub with_leaves-size : (h : HashFunction) (s : PeaksState) (leaves : List Hash)
    → (with_leaves h s leaves).size ≡ s.size + length leaves
with_leaves-size h s [] = omega arith
with_leaves-size h s (leaf ∷ leaves) =
    let more = with_leaves-size h (with_leaf h s leaf) leaves in
    omega arith

-- one leaf more
pub with_leaves-last : (h : HashFunction) (s : PeaksState) (leaves : List Hash) (last : Hash)
    → with_leaves h s (leaves ++ last ∷ []) ≡ with_leaf h (with_leaves h s leaves) last
with_leaves-last h s [] last = refl
with_leaves-last h s (leaf ∷ leaves) last = with_leaves-last h (with_leaf h s leaf) leaves last
