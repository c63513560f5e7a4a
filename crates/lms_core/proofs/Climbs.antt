-- The way up from a leaf of a tree along its own path ends at the tree's root.
use Rattle.std.proofs.Common.{◌≡◌, inl, inr, ℕ, zero, suc, ◌+◌, ◌-◌, ◌*◌, ◌/◌, ◌%◌, ◌^◌, ◌<◌, ◌≤◌}
use Rattle.std.proofs.Common.{refl, arith, add-one}
use Rattle.std.proofs.Math.Nat.{mul-add-div_right, div-eq_of_lt}
use Rattle.std.proofs.lemmas.Nat.{pow_pos}
use Rattle.std.proofs.lemmas.Bool.{cases_eq}
use Rattle.byte_formats.specs.Types.{Text}
use Rattle.lmots_core.specs.Strings.{value_at}
use Rattle.lms_core.specs.declared.private_key.PrivateKey.{PrivateKey}
use Rattle.lms_core.specs.Trees.{climbed, parent, sibling, tree_value}
use Rattle.lms_core.proofs.Indices.{div_pow}

-- a node and its sibling give their parent
pub parent-tree_value : (k : PrivateKey) (d n : ℕ)
    → parent k.id n (tree_value k d n) (tree_value k d (sibling n)) ≡ tree_value k (suc d) (n / 2)
unfolding tree_value
parent-tree_value k d n =
    elim (cases_eq (n % 2) 0) [
      | inl even ↦
          let whole : 2 * (n / 2) ≡ n = omega arith in
          rw (even, whole) refl
      | inr odd ↦
          let one : n % 2 ≡ 1 = omega arith in
          let left : 2 * (n / 2) ≡ n - 1 = omega arith in
          let right : n - 1 + 1 ≡ n = omega arith in
          rw (one, left, right) refl
    ]

-- some levels up along the path stands the node there
pub climbed-tree_value : (k : PrivateKey) (r : ℕ) (path : Text) (h i : ℕ)
    → ((j : ℕ) → j < h → value_at path (32 * j) ≡ tree_value k j (sibling (r / 2 ^ j))) → i ≤ h
    → climbed k.id r path (tree_value k 0 r) i ≡ tree_value k i (r / 2 ^ i)
unfolding climbed
climbed-tree_value k r path h zero beside within =
    let one : r / 1 ≡ r = omega arith in rw one refl
climbed-tree_value k r path h (suc i) beside within =
    let before = climbed-tree_value k r path h i beside (omega arith) in
    let up : r / 2 ^ suc i ≡ r / 2 ^ i / 2 = rw (← add-one i) (div_pow r i) in
    rw (before, beside i (omega arith), up) (parent-tree_value k i (r / 2 ^ i))

-- the root stands above each leaf
pub top : (h q : ℕ) → q < 2 ^ h → (2 ^ h + q) / 2 ^ h ≡ 1
top h q below =
    let split = mul-add-div_right (pow_pos h) 1 q in
    let once : 1 * 2 ^ h ≡ 2 ^ h = omega arith in
    rw (once, div-eq_of_lt below) at split
