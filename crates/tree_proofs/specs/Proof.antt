-- The consistency proof of a subtree (the draft on Merkle Tree Certificates, where it makes subtree
-- consistency proofs).
use Rattle.std.specs.Prelude.{ℕ, zero, suc, ◌-◌, ◌&&◌, ◌==◌, Bool, false, nat_le, if◌then◌else◌}
use Rattle.std.specs.Prelude.{List, [], ◌∷◌, ◌++◌, length, take, drop, map}
use Rattle.byte_formats.specs.Types.{Hash, HashFunction, Text}
use Rattle.tree_core.specs.Split.{split_of}
use Rattle.tree_core.specs.Tree.{leaf_hash, root_of}

-- The nodes beside the subtree [start, end) of these leaf hashes, from the lowest level up. For the
-- whole list there are none if the reader knows its root, and else that root. For more: where the
-- subtree lies within the first split_of of them, the proof there and then the root of the rest;
-- where it lies within the rest, the proof there and then the root of the first; where it holds the
-- split it starts at 0, and its part in the rest is proved there, as one whose hash the reader does
-- not know, and then comes the root of the first. The first number bounds the depth.
unfoldable pub proof_within : ℕ → HashFunction → ℕ → ℕ → Bool → List Hash → List Hash
proof_within zero h start end known leaves = []
proof_within (suc depth) h start end known leaves =
    let k = split_of (length leaves) in
    if (start == 0) && (end == length leaves) then (if known then [] else root_of h leaves ∷ [])
    else (if nat_le end k
    then proof_within depth h start end known (take k leaves) ++ root_of h (drop k leaves) ∷ []
    else (if nat_le k start
    then proof_within depth h (start - k) (end - k) known (drop k leaves)
    ++ root_of h (take k leaves) ∷ []
    else proof_within depth h 0 (end - k) false (drop k leaves) ++ root_of h (take k leaves) ∷ []))

-- The consistency proof of the subtree [start, end) in a list with these leaf hashes.
unfoldable pub proof_of : HashFunction → ℕ → ℕ → Bool → List Hash → List Hash
proof_of h start end known leaves = proof_within (length leaves) h start end known leaves

-- The consistency proof of the part [start, end) of a list, P of the standard.
abbrev pub consistency_proof : HashFunction → ℕ → ℕ → Bool → List Text → List Hash
consistency_proof h start end known entries = proof_of h start end known (map (leaf_hash h) entries)
