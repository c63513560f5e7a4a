-- What a tree keeps of its nodes.
use Rattle.std.specs.Prelude.{◌≡◌, ℕ, ◌-◌, ◌*◌, ◌^◌, ◌<◌, ◌≤◌, List, [], length, slice_index_or}
use Rattle.byte_formats.specs.Types.{Hash}
use Rattle.lms_core.specs.declared.private_key.PrivateKey.{PrivateKey}
use Rattle.lms_core.specs.Heights.{IsSigningHeight, height}
use Rattle.lms_core.specs.Trees.{tree_value}

-- From index p on the list has the values of the tree's nodes: those d levels above the leaves are
-- the indices from 2^(h - d) on, as many as that.
abbrev pub HoldsFrom : PrivateKey → ℕ → List Hash → Type 0
HoldsFrom key p nodes = (d k : ℕ) → d ≤ height key.lms → 2 ^ (height key.lms - d) ≤ k
    → k < 2 * 2 ^ (height key.lms - d) → p ≤ k → slice_index_or nodes k [] ≡ tree_value key d k

-- The list has the values of all nodes of a tree of height 5 or 10; nothing is said of its index 0.
pub record HoldsNodes (key : PrivateKey) (nodes : List Hash) : Type 0 where
  pub low : IsSigningHeight key.lms
  pub id : length key.id ≡ 16
  pub count : length nodes ≡ 2 * 2 ^ height key.lms
  pub each : HoldsFrom key 1 nodes
