-- The tree hash of a list of entries (RFC 9162, section 2.1.1). The hash function is h. Nothing is
-- asked of it: that a hash has 32 bytes is a law of `TreeHash`.
use Rattle.std.specs.Prelude.{ℕ, zero, suc, List, [], ◌∷◌, ◌++◌, length, take, drop, map}
use Rattle.byte_formats.specs.Types.{Hash, HashFunction, Text}
use Rattle.tree_core.specs.Split.{split_of}

-- The hash of an entry as a leaf.
abbrev pub leaf_hash : HashFunction → Text → Hash
leaf_hash h entry = h (0 ∷ entry)

-- The hash of the node above two nodes.
abbrev pub pair_hash : HashFunction → Hash → Hash → Hash
pair_hash h left right = h (1 ∷ left ++ right)

-- The root over leaf hashes: of none it is the hash of no bytes, of one that leaf hash, and of more
-- the pair of the roots of the first split_of of them and of the rest. The first number bounds the
-- depth.
unfoldable pub root_within : ℕ → HashFunction → List Hash → Hash
root_within zero h leaves = h []
root_within (suc depth) h [] = h []
root_within (suc depth) h (x ∷ []) = x
root_within (suc depth) h (x ∷ y ∷ rest) =
    let leaves = x ∷ y ∷ rest in
    let k = split_of (length leaves) in
    pair_hash h (root_within depth h (take k leaves)) (root_within depth h (drop k leaves))

-- The root over leaf hashes.
unfoldable pub root_of : HashFunction → List Hash → Hash
root_of h leaves = root_within (length leaves) h leaves

-- The tree hash of a list of entries, MTH of the standard.
abbrev pub tree_hash : HashFunction → List Text → Hash
tree_hash h entries = root_of h (map (leaf_hash h) entries)
