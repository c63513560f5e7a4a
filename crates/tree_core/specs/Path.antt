-- The inclusion path of an entry (RFC 9162, section 2.1.3.1), over parts of a list as the standard
-- writes them (section 2.1.1).
use Rattle.std.specs.Prelude.{ℕ, zero, suc, ◌-◌, nat_lt, nat_le, if◌then◌else◌, List, [], ◌∷◌, ◌++◌}
use Rattle.std.specs.Prelude.{length, take, drop, map}
use Rattle.byte_formats.specs.Types.{Hash, HashFunction, Text}
use Rattle.tree_core.specs.Split.{split_of}
use Rattle.tree_core.specs.Tree.{leaf_hash, root_of}

-- The siblings of the nodes from leaf m up: none for one leaf; of more, for m left of the split,
-- the path within the first split_of of them and then the root of the rest, and else the path
-- within the rest and then the root of the first. The first number bounds the depth.
unfoldable pub path_within : ℕ → HashFunction → ℕ → List Hash → List Hash
path_within zero h m leaves = []
path_within (suc depth) h m leaves =
    let k = split_of (length leaves) in
    if nat_le (length leaves) 1 then []
    else (if nat_lt m k
    then path_within depth h m (take k leaves) ++ root_of h (drop k leaves) ∷ []
    else path_within depth h (m - k) (drop k leaves) ++ root_of h (take k leaves) ∷ [])

-- The inclusion path of leaf m over leaf hashes.
unfoldable pub path_of : HashFunction → ℕ → List Hash → List Hash
path_of h m leaves = path_within (length leaves) h m leaves

-- The inclusion path of entry m of a list, PATH of the standard.
abbrev pub inclusion_path : HashFunction → ℕ → List Text → List Hash
inclusion_path h m entries = path_of h m (map (leaf_hash h) entries)

-- The part of a list from start up to end, without end.
abbrev pub part_of : List Text → ℕ → ℕ → List Text
part_of list start end = take (end - start) (drop start list)
