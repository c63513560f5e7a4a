-- A node over the hashes of its leaves.
use Rattle.std.proofs.Common.{◌≡◌, ℕ, suc, ◌+◌, ◌-◌, ◌*◌, ◌^◌, ◌<◌, ◌≤◌, List, length, take}
use Rattle.std.proofs.Common.{drop}
use Rattle.std.proofs.Common.{sym, ◌∙◌, ap, arith}
use Rattle.std.proofs.Math.Nat.{mul-le-mul_right, pow-succ'}
use Rattle.std.proofs.lemmas.List.{take_all}
use Rattle.std.proofs.lemmas.Nat.{pow-add, pow_pos}
use Rattle.byte_formats.specs.Types.{Hash, HashFunction, Text}
use Rattle.tile_store.proofs.Bytes.{hash-left, hash-right}
use Rattle.tile_store.specs.Contents.{hash_in}
use Rattle.tree_core.proofs.Powers.{split_unique}
use Rattle.tree_core.specs.Path.{part_of}
use Rattle.tree_core.specs.Split.{split_of}
use Rattle.tree_core.specs.Tree.{pair_hash, root_of}
use Rattle.tree_proofs.proofs.Parts.{part-root}

-- so many hashes are those of the full subtrees of a level, from an index on
abbrev pub AreRoots : HashFunction → List Hash → ℕ → ℕ → ℕ → Text → Type 0
AreRoots h leaves base from count hashes = (i : ℕ) → i < count → hash_in i hashes
    ≡ root_of h (part_of leaves ((from + i) * 2 ^ base) ((from + i + 1) * 2 ^ base))

-- the node above them
abbrev pub IsNodeOver : HashFunction → ℕ → Text → Hash → Type 0
IsNodeOver h count hashes node = (leaves : List Hash) (base from : ℕ)
    → AreRoots h leaves base from count hashes → (from + count) * 2 ^ base ≤ length leaves
    → node ≡ root_of h (part_of leaves (from * 2 ^ base) ((from + count) * 2 ^ base))

pub node-one : (h : List ℕ → List ℕ) (level : ℕ) (hashes : List ℕ) → level ≡ 0
    → length hashes ≡ 32 * 2 ^ level → IsNodeOver h (2 ^ level) hashes hashes
node-one h level hashes none size leaves base from are within =
    let one : 2 ^ level ≡ 1 = ap (λ l. 2 ^ l) none in
    let start : from + 0 ≡ from = omega arith in
    let end : from + 0 + 1 ≡ from + 2 ^ level = omega arith in
    sym (take_all 32 hashes (omega arith)) ∙ are 0 (omega arith)
    ∙ ap (λ a. root_of h (part_of leaves (a * 2 ^ base) ((from + 0 + 1) * 2 ^ base))) start
    ∙ ap (λ b. root_of h (part_of leaves (from * 2 ^ base) (b * 2 ^ base))) end

-- a full part is split in its middle
pub middle-is : (base from half count : ℕ) (lower : ℕ) → half ≡ 2 ^ lower → count ≡ 2 * half
    → (from + half) * 2 ^ base
    ≡ from * 2 ^ base + split_of ((from + count) * 2 ^ base - from * 2 ^ base)
middle-is base from half count lower is double =
    let power : 2 ^ (lower + base) ≡ half * 2 ^ base =
    pow-add 2 lower base ∙ ap (λ p. p * 2 ^ base) (sym is) in
    let positive = pow_pos (lower + base) in
    let whole : count * 2 ^ base ≡ 2 * (half * 2 ^ base) =
    ap (λ c. c * 2 ^ base) double ∙ omega arith in
    let size : (from + count) * 2 ^ base - from * 2 ^ base ≡ 2 * 2 ^ (lower + base) =
    omega arith in
    let split : split_of ((from + count) * 2 ^ base - from * 2 ^ base) ≡ 2 ^ (lower + base) =
    split_unique ((from + count) * 2 ^ base - from * 2 ^ base) (lower + base) (omega arith)
    (omega arith) in
    omega arith

pub node-pair : (h : List ℕ → List ℕ) (count half lower : ℕ) (hashes a b : List ℕ)
    → half ≡ 2 ^ lower → count ≡ 2 * half
    → IsNodeOver h half (take (32 * half) hashes) a → IsNodeOver h half (drop (32 * half) hashes) b
    → IsNodeOver h count hashes (pair_hash h a b)
node-pair h count half lower hashes a b is double left right leaves base from are within =
    let positive = pow_pos lower in
    let power = pow_pos base in
    let whole : (from + count) * 2 ^ base ≡ (from + half + half) * 2 ^ base =
    ap (λ c. c * 2 ^ base) (omega arith) in
    let some : 1 * 2 ^ base ≤ half * 2 ^ base =
    mul-le-mul_right {m = 1} {n = half} (2 ^ base) (omega arith) in
    let first : a ≡ root_of h (part_of leaves (from * 2 ^ base) ((from + half) * 2 ^ base)) =
    left leaves base from
    (λ i inside. hash-left i half hashes (omega arith) ∙ are i (omega arith)) (omega arith) in
    let second : b ≡ root_of h
    (part_of leaves ((from + half) * 2 ^ base) ((from + half + half) * 2 ^ base)) =
    right leaves base (from + half)
    (λ i inside.
    let sum : from + (half + i) ≡ from + half + i = omega arith in
    hash-right i half hashes ∙ are (half + i) (omega arith)
    ∙ ap (λ n. root_of h (part_of leaves (n * 2 ^ base) ((n + 1) * 2 ^ base))) sum)
    (omega arith) in
    ap (λ l. pair_hash h l b) first
    ∙ ap (pair_hash h (root_of h (part_of leaves (from * 2 ^ base) ((from + half) * 2 ^ base))))
    (second
    ∙ ap (λ e. root_of h (part_of leaves ((from + half) * 2 ^ base) e)) (sym whole))
    ∙ sym (part-root h leaves (from * 2 ^ base) ((from + half) * 2 ^ base)
    ((from + count) * 2 ^ base) within (omega arith)
    (middle-is base from half count lower is double))

pub half-power : (level : ℕ) → (level ≡ 0 → ⊥) → 2 ^ level ≡ 2 * 2 ^ (level - 1)
half-power level some =
    let one : level ≡ suc (level - 1) = omega arith in
    ap (λ n. 2 ^ n) one ∙ pow-succ' 2 (level - 1)
