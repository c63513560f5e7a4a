-- The indices of a tree's nodes: numbers that double and halve from level to level.
use Rattle.std.proofs.Common.{◌≡◌, ℕ, suc, ◌+◌, ◌-◌, ◌*◌, ◌/◌, ◌^◌, ◌<◌, ◌≤◌, refl, arith, add-one}
use Rattle.std.proofs.Common.{mul_comm, pow-suc}
use Rattle.std.proofs.Math.Nat.{div-div-eq-div-mul, pow-le-pow_right}
use Rattle.std.proofs.lemmas.Bool.Decides.{nat_tests}
use Rattle.lms_core.specs.Trees.{sibling}

-- one level up halves the index
pub div_pow : (r i : ℕ) → r / 2 ^ (i + 1) ≡ r / 2 ^ i / 2
div_pow r i = rw (add-one, pow-suc 2 i, div-div-eq-div-mul r (2 ^ i) 2) refl

-- a level has twice as many nodes as the one above
pub pow_half : (h d : ℕ) → d < h → 2 * 2 ^ (h - (d + 1)) ≡ 2 ^ (h - d)
pow_half h d below =
    let one_more : h - d ≡ suc (h - (d + 1)) = omega arith in
    rw (one_more, pow-suc 2 (h - (d + 1))) (mul_comm 2 (2 ^ (h - (d + 1))))

-- what stands above the leaves stands before them
pub pow_most : (h d : ℕ) → d < h → 2 * 2 ^ (h - (d + 1)) ≤ 2 ^ h
pow_most h d below = rw (pow_half h d below) (pow-le-pow_right (omega arith) (omega arith))

-- a sibling stands on the same level
pub sibling_within : (a k : ℕ) → 2 * a ≤ k → k < 2 * (2 * a) → (2 * a ≤ sibling k)
    × (sibling k < 2 * (2 * a))
sibling_within a k from to = grind (arith, nat_tests)
