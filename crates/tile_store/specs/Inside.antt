-- The nodes inside a tile (RFC 9162, section 2.1.1, of their hashes): its 256 hashes, the 128 above
-- them, and so on up to the one above all.
use Rattle.std.specs.Prelude.{◌≡◌, ℕ, ◌+◌, ◌*◌, ◌^◌, ◌<◌, ◌≤◌, List, [], length, slice_index_or}
use Rattle.byte_formats.specs.Types.{Hash, HashFunction, Text}
use Rattle.tile_store.specs.Contents.{hash_in}
use Rattle.tree_core.specs.Path.{part_of}
use Rattle.tree_core.specs.Tree.{pair_hash, root_of}

-- The node stands over so many hashes of a tile, from one of them on: where these are the hashes of
-- full subtrees of a list, it is that of all of them.
abbrev pub IsNodeIn : HashFunction → Text → ℕ → ℕ → Hash → Type 0
IsNodeIn h tile first count node = (leaves : List Hash) (base from : ℕ)
    → ((i : ℕ) → i < count → hash_in (first + i) tile ≡ root_of h
    (part_of leaves ((from + i) * 2 ^ base) ((from + i + 1) * 2 ^ base)))
    → (from + count) * 2 ^ base ≤ length leaves
    → node ≡ root_of h (part_of leaves (from * 2 ^ base) ((from + count) * 2 ^ base))

-- The first 256 nodes are the hashes of the tile.
abbrev pub HasTileHashes : Text → List Hash → Type 0
HasTileHashes tile nodes = (i : ℕ) → i < 256 → slice_index_or nodes i [] ≡ hash_in i tile

-- Of the nodes after the first 256, the first so many are each over the next two from the first on.
abbrev pub ArePaired : HashFunction → ℕ → List Hash → Type 0
ArePaired h count nodes = (k : ℕ) → k < count → slice_index_or nodes (256 + k) []
    ≡ pair_hash h (slice_index_or nodes (2 * k) []) (slice_index_or nodes (2 * k + 1) [])
