-- Indices that a set can't have.
use Rattle.std.proofs.Common.{◌≡◌, ℕ, ◌<◌, ◌≤◌, ◌^◌, ◌==◌, false, nat_lt, refl, arith}
use Rattle.std.proofs.lemmas.Bool.Decides.{nat_tests}
use Rattle.std.proofs.lemmas.Nat.Bits.{bit_at_above}
use Rattle.std.specs.Int.{bit_at}

pub none_above : (set place : ℕ) → set < 2 ^ 64 → 64 ≤ place
    → nat_lt place 64 ≡ (bit_at set place == 1)
none_above set place below far =
    let none : bit_at set place ≡ 0 = bit_at_above set 64 place below far in
    let no : nat_lt place 64 ≡ false = grind (arith, nat_tests, far) in
    rw (no, none) refl
