-- Numbers that are compared and added up.
use Rattle.std.proofs.Common.{◌≡◌, ◌+◌, ◌^◌, ◌≤◌, ℕ, Fits, arith}
use Rattle.std.specs.Int.{w64}

pub no_more : (a b : ℕ) → a ≡ b → a ≤ b
no_more a b same = omega (arith, same)

pub within_by : (n a b : ℕ) → n ≤ a → a ≡ b → n ≤ b
within_by n a b few same = omega (arith, few, same)

pub second_few : (a b most : ℕ) → a + b ≤ most → b ≤ most
second_few a b most few = omega (arith, few)

pub sum_fits : (a b x y : ℕ) → a + b ≤ 2 ^ 32 → x ≡ a → y ≡ b → Fits w64 (x + y)
sum_fits a b x y few first second = omega (arith, few, first, second)

pub sum_is : (a b x y : ℕ) → x ≡ a → y ≡ b → x + y ≡ a + b
sum_is a b x y first second = omega (arith, first, second)
