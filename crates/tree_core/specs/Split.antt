-- Where a list of entries is split, and the powers of two around a number (RFC 9162, section 2.1.1;
-- the draft on Merkle Tree Certificates, where it defines subtrees).
use Rattle.std.specs.Prelude.{ℕ, zero, suc, ◌*◌, nat_lt, nat_le, if◌then◌else◌}

-- The largest power of two below n, for n above 1 (RFC 9162, section 2.1.1); 1 for 0 and 1.
unfoldable pub split_of : ℕ → ℕ
split_of zero = 1
split_of (suc n) = if nat_lt (2 * split_of n) (suc n) then 2 * split_of n else split_of n

-- The least power of two that is not below n.
unfoldable pub power_over : ℕ → ℕ
power_over n = if nat_le n 1 then 1 else 2 * split_of n
