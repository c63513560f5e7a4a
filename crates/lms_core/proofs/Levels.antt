-- The nodes that a tree keeps, filled from the leaves to the root.
use Rattle.std.proofs.Common.{◌≡◌, inl, inr, ℕ, zero, suc, ◌+◌, ◌-◌, ◌*◌, ◌/◌, ◌^◌, ◌<◌, ◌≤◌, List}
use Rattle.std.proofs.Common.{[], length, refl, arith}
use Rattle.std.proofs.Math.Nat.{sub-zero}
use Rattle.std.proofs.lemmas.Nat.{pow_pos}
use Rattle.std.proofs.lemmas.List.{get_or-set_other, get_or-set_same}
use Rattle.std.proofs.lemmas.Bool.{cases_eq}
use Rattle.std.specs.Prelude.{slice_index_or, slice_set}
use Rattle.byte_formats.specs.Types.{Hash, Text}
use Rattle.sha2.proofs.Facts256.{length-sha256}
use Rattle.lms_core.specs.declared.private_key.PrivateKey.{PrivateKey}
use Rattle.lms_core.specs.Heights.{height}
use Rattle.lms_core.specs.Trees.{inner_node, leaf_node, path_node, sibling, tree_value}
use Rattle.lms_core.specs.Held.{HoldsNodes, HoldsFrom}
use Rattle.lms_core.proofs.Indices.{pow_half, pow_most, sibling_within}

-- every node has 32 bytes
pub length-tree_value : (k : PrivateKey) (d r : ℕ) → length (tree_value k d r) ≡ 32
unfolding tree_value leaf_node inner_node
length-tree_value k zero r = length-sha256 _
length-tree_value k (suc d) r = length-sha256 _

-- where the leaves are there, all nodes from the first leaf on are
pub HoldsFrom-leaves : (key : PrivateKey) (nodes : List Hash)
    → ((k : ℕ) → 2 ^ height key.lms ≤ k → k < 2 * 2 ^ height key.lms
    → slice_index_or nodes k [] ≡ tree_value key 0 k)
    → HoldsFrom key (2 ^ height key.lms) nodes
HoldsFrom-leaves key nodes each zero k within from to beyond =
    let below : k < 2 * 2 ^ height key.lms = rw sub-zero at to in each k beyond below
HoldsFrom-leaves key nodes each (suc d) k within from to beyond =
    let same : height key.lms - suc d ≡ height key.lms - (d + 1) = omega arith in
    let most = pow_most (height key.lms) d (omega arith) in
    let below : k < 2 * 2 ^ (height key.lms - (d + 1)) = rw (← same) to in
    absurd (omega (arith, most, below))

-- an inner node is there once it is hashed over the two below it
node_here : (key : PrivateKey) (nodes : List Hash) (p d : ℕ) → d ≤ height key.lms
    → 2 ^ (height key.lms - d) ≤ p → p < 2 * 2 ^ (height key.lms - d) → 0 < p
    → p < 2 ^ height key.lms
    → HoldsFrom key (p + 1) nodes
    → inner_node key.id p (slice_index_or nodes (2 * p) []) (slice_index_or nodes (2 * p + 1) [])
    ≡ tree_value key d p
unfolding tree_value
node_here key nodes p zero within from to some low held =
    let beyond : 2 ^ height key.lms ≤ p = rw sub-zero at from in absurd (omega arith)
node_here key nodes p (suc d) within from to some low held =
    let same : height key.lms - suc d ≡ height key.lms - (d + 1) = omega arith in
    let half : 2 * 2 ^ (height key.lms - suc d) ≡ 2 ^ (height key.lms - d) =
    rw same (pow_half (height key.lms) d (omega arith)) in
    let left = held d (2 * p) (omega arith) (omega (arith, half)) (omega (arith, half))
    (omega arith) in
    let right = held d (2 * p + 1) (omega arith) (omega (arith, half)) (omega (arith, half))
    (omega arith) in
    rw (left, right) refl

-- and then all from its index on are
pub HoldsFrom-more : (key : PrivateKey) (nodes : List Hash) (value : Text) (p : ℕ) → 0 < p
    → p < 2 ^ height key.lms → length nodes ≡ 2 * 2 ^ height key.lms → HoldsFrom key (p + 1) nodes
    → value ≡ inner_node key.id p (slice_index_or nodes (2 * p) [])
    (slice_index_or nodes (2 * p + 1) [])
    → HoldsFrom key p (slice_set nodes p value)
HoldsFrom-more key nodes value p some low count held made d k within from to beyond =
    elim (cases_eq k p) [
      | inl here ↦
          let low_end : 2 ^ (height key.lms - d) ≤ p = rw (← here) from in
          let high_end : p < 2 * 2 ^ (height key.lms - d) = rw (← here) to in
          rw (here, get_or-set_same nodes p value [] (omega (arith, count)), made)
          (node_here key nodes p d within low_end high_end some low held)
      | inr elsewhere ↦
          rw (get_or-set_other nodes p k value [] elsewhere) (held d k within from to (omega arith))
    ]

-- what a path has of a level is the sibling there
pub path_node-held : (key : PrivateKey) (nodes : List Hash) (q i place : ℕ) → HoldsNodes key nodes
    → i < height key.lms → place ≡ (2 ^ height key.lms + q) / 2 ^ i
    → 2 ^ (height key.lms - i) ≤ place → place < 2 * 2 ^ (height key.lms - i)
    → slice_index_or nodes (sibling place) [] ≡ path_node key q i
path_node-held key nodes q i place held below is from to =
    let half = pow_half (height key.lms) i below in
    let from_half : 2 * 2 ^ (height key.lms - (i + 1)) ≤ place = rw half from in
    let to_half : place < 2 * (2 * 2 ^ (height key.lms - (i + 1))) = rw half to in
    let beside = sibling_within (2 ^ (height key.lms - (i + 1))) place from_half to_half in
    let low : 2 ^ (height key.lms - i) ≤ sibling place = rw half at beside.0 in
    let high : sibling place < 2 * 2 ^ (height key.lms - i) = rw half at beside.1 in
    rw (← is) (held.each i (sibling place) (omega arith) low high (omega (
      arith,
      low,
      pow_pos (height key.lms - i),
    )))
