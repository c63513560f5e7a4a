-- The nodes inside a tile, one after the other.
use Rattle.std.proofs.Common.{◌≡◌, ℕ, zero, suc, ◌+◌, ◌-◌, ◌*◌, ◌^◌, ◌<◌, ◌≤◌, List, []}
use Rattle.std.proofs.Common.{get_or, refl, sym, ◌∙◌, ap, subst, arith}
use Rattle.std.proofs.Math.Nat.{mul-le-mul_right, pow-le-pow_right, pow-succ'}
use Rattle.std.proofs.lemmas.Nat.{pow_pos}
use Rattle.tile_store.proofs.Halves.{middle-is}
use Rattle.tile_store.specs.Contents.{hash_in}
use Rattle.tile_store.specs.Inside.{ArePaired, HasTileHashes, IsNodeIn}
use Rattle.tree_core.specs.Path.{part_of}
use Rattle.tree_core.specs.Tree.{pair_hash, root_of}
use Rattle.tree_proofs.proofs.Parts.{part-root}

-- the node over two that stand side by side
pub pair-in : (h : List ℕ → List ℕ) (tile : List ℕ) (first count half lower : ℕ) (a b : List ℕ)
    → half ≡ 2 ^ lower → count ≡ 2 * half → IsNodeIn h tile first half a
    → IsNodeIn h tile (first + half) half b → IsNodeIn h tile first count (pair_hash h a b)
pair-in h tile first count half lower a b is double left right leaves base from are within =
    let positive = pow_pos lower in
    let power = pow_pos base in
    let whole : (from + count) * 2 ^ base ≡ (from + half + half) * 2 ^ base =
    ap (λ c. c * 2 ^ base) (omega arith) in
    let some : 1 * 2 ^ base ≤ half * 2 ^ base =
    mul-le-mul_right {m = 1} {n = half} (2 ^ base) (omega arith) in
    let one : a ≡ root_of h (part_of leaves (from * 2 ^ base) ((from + half) * 2 ^ base)) =
    left leaves base from (λ i inside. are i (omega arith)) (omega arith) in
    let other : b ≡ root_of h
    (part_of leaves ((from + half) * 2 ^ base) ((from + half + half) * 2 ^ base)) =
    right leaves base (from + half)
    (λ i inside.
    let place : first + half + i ≡ first + (half + i) = omega arith in
    let sum : from + (half + i) ≡ from + half + i = omega arith in
    ap (λ n. hash_in n tile) place ∙ are (half + i) (omega arith)
    ∙ ap (λ n. root_of h (part_of leaves (n * 2 ^ base) ((n + 1) * 2 ^ base))) sum)
    (omega arith) in
    ap (λ l. pair_hash h l b) one
    ∙ ap (pair_hash h (root_of h (part_of leaves (from * 2 ^ base) ((from + half) * 2 ^ base))))
    (other
    ∙ ap (λ e. root_of h (part_of leaves ((from + half) * 2 ^ base) e)) (sym whole))
    ∙ sym (part-root h leaves (from * 2 ^ base) ((from + half) * 2 ^ base)
    ((from + count) * 2 ^ base) within (omega arith)
    (middle-is base from half count lower is double))

-- a hash of the tile
hash-alone : (h : List ℕ → List ℕ) (tile node : List ℕ) (index : ℕ) → node ≡ hash_in index tile
    → IsNodeIn h tile (index * 1) 1 node
hash-alone h tile node index is leaves base from are within =
    let place : index ≡ index * 1 + 0 = omega arith in
    let start : from + 0 ≡ from = omega arith in
    is ∙ ap (λ n. hash_in n tile) place ∙ are 0 (omega arith)
    ∙ ap (λ n. root_of h (part_of leaves (n * 2 ^ base) ((n + 1) * 2 ^ base))) start

-- the nodes of all levels
pub node-in : (h : List ℕ → List ℕ) (nodes : List (List ℕ)) (tile : List ℕ)
    → ArePaired h 255 nodes → HasTileHashes tile nodes → (level index : ℕ) → level ≤ 8
    → index < 2 ^ (8 - level)
    → IsNodeIn h tile (index * 2 ^ level) (2 ^ level)
    (get_or nodes (512 - 2 ^ (9 - level) + index) [])
node-in h nodes tile paired hashes zero index low inside =
    let same : 0 + index ≡ index = omega arith in
    hash-alone h tile (get_or nodes (0 + index) []) index
    (ap (λ n. get_or nodes n []) same ∙ hashes index inside)
node-in h nodes tile paired hashes (suc level) index low inside =
    let double : 2 ^ suc level ≡ 2 * 2 ^ level = pow-succ' 2 level in
    let wide : 2 ^ (9 - level) ≡ 2 * 2 ^ (8 - level) =
    let one : 9 - level ≡ suc (8 - level) = omega arith in
    ap (λ n. 2 ^ n) one ∙ pow-succ' 2 (8 - level) in
    let here : 2 ^ (9 - suc level) ≡ 2 ^ (8 - level) =
    let same : 9 - suc level ≡ 8 - level = omega arith in
    ap (λ n. 2 ^ n) same in
    let narrow : 2 ^ (8 - level) ≡ 2 * 2 ^ (8 - suc level) =
    let one : 8 - level ≡ suc (8 - suc level) = omega arith in
    ap (λ n. 2 ^ n) one ∙ pow-succ' 2 (8 - suc level) in
    let few : 8 - level ≤ 8 = omega arith in
    let most : 2 ^ (8 - level) ≤ 2 ^ 8 = pow-le-pow_right {n = 2} (omega arith) few in
    let some = pow_pos (8 - suc level) in
    let place : 512 - 2 ^ (9 - suc level) + index ≡ 256 + (256 - 2 ^ (8 - level) + index) =
    omega arith in
    let left : 2 * (256 - 2 ^ (8 - level) + index) ≡ 512 - 2 ^ (9 - level) + 2 * index =
    omega arith in
    let right : 2 * (256 - 2 ^ (8 - level) + index) + 1
    ≡ 512 - 2 ^ (9 - level) + (2 * index + 1) = omega arith in
    let parent : get_or nodes (512 - 2 ^ (9 - suc level) + index) []
    ≡ pair_hash h (get_or nodes (512 - 2 ^ (9 - level) + 2 * index) [])
    (get_or nodes (512 - 2 ^ (9 - level) + (2 * index + 1)) []) =
    ap (λ n. get_or nodes n []) place ∙ paired (256 - 2 ^ (8 - level) + index) (omega arith)
    ∙ ap (λ n. pair_hash h (get_or nodes n [])
    (get_or nodes (2 * (256 - 2 ^ (8 - level) + index) + 1) [])) left
    ∙ ap (λ n. pair_hash h (get_or nodes (512 - 2 ^ (9 - level) + 2 * index) [])
    (get_or nodes n [])) right in
    let up = ap (λ p. index * p) double in
    let first : 2 * index * 2 ^ level ≡ index * 2 ^ suc level = omega arith in
    let second : (2 * index + 1) * 2 ^ level ≡ index * 2 ^ suc level + 2 ^ level = omega arith in
    subst (IsNodeIn h tile (index * 2 ^ suc level) (2 ^ suc level)) (sym parent)
    (pair-in h tile (index * 2 ^ suc level) (2 ^ suc level) (2 ^ level) level
    (get_or nodes (512 - 2 ^ (9 - level) + 2 * index) [])
    (get_or nodes (512 - 2 ^ (9 - level) + (2 * index + 1)) []) refl double
    (subst (λ f. IsNodeIn h tile f (2 ^ level)
    (get_or nodes (512 - 2 ^ (9 - level) + 2 * index) [])) first
    (node-in h nodes tile paired hashes level (2 * index) (omega arith) (omega arith)))
    (subst (λ f. IsNodeIn h tile f (2 ^ level)
    (get_or nodes (512 - 2 ^ (9 - level) + (2 * index + 1)) [])) second
    (node-in h nodes tile paired hashes level (2 * index + 1) (omega arith) (omega arith))))

-- each of them is one of the 511
pub node-within : (level index : ℕ) → level < 8 → index < 2 ^ (8 - level)
    → 512 - 2 ^ (9 - level) + index < 511
node-within level index low inside =
    let wide : 2 ^ (9 - level) ≡ 2 * 2 ^ (8 - level) =
    let one : 9 - level ≡ suc (8 - level) = omega arith in
    ap (λ n. 2 ^ n) one ∙ pow-succ' 2 (8 - level) in
    let narrow : 2 ^ (8 - level) ≡ 2 * 2 ^ (8 - suc level) =
    let one : 8 - level ≡ suc (8 - suc level) = omega arith in
    ap (λ n. 2 ^ n) one ∙ pow-succ' 2 (8 - suc level) in
    let few : 8 - level ≤ 8 = omega arith in
    let most : 2 ^ (8 - level) ≤ 2 ^ 8 = pow-le-pow_right {n = 2} (omega arith) few in
    let some = pow_pos (8 - suc level) in
    omega arith
