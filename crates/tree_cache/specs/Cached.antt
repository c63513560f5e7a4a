-- What a cache of nodes is to a caller (RFC 9162, section 2.1.1, of their hashes).
use Rattle.std.specs.Prelude.{◌≡◌, ℕ, ◌+◌, ◌*◌, ◌/◌, ◌^◌, ◌<◌, List, [], length, slice_index_or}
use Rattle.byte_formats.specs.Types.{Hash, HashFunction}
use Rattle.tree_core.specs.Path.{part_of}
use Rattle.tree_core.specs.Tree.{root_of}

-- The leaf hashes, and how many more need no memory.
pub record CachedLeaves : Type 0 where
  pub leaves : List Hash
  pub spare : ℕ

-- The hashes of all full subtrees of 2^level leaves, in their order: each is the root over its part
-- of the leaves.
pub record AreFulls (h : HashFunction) (level : ℕ) (leaves hashes : List Hash) : Type 0 where
  pub all : length hashes ≡ length leaves / 2 ^ level
  pub each : (place : ℕ) → place < length hashes → slice_index_or hashes place []
      ≡ root_of h (part_of leaves (place * 2 ^ level) ((place + 1) * 2 ^ level))
