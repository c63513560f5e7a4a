-- Which intervals of a list of entries are subtrees (the draft on Merkle Tree Certificates, where
-- it defines subtrees).
use Rattle.std.specs.Prelude.{ℕ, ◌-◌, ◌%◌, ◌&&◌, ◌==◌, Bool, nat_lt}
use Rattle.tree_core.specs.Split.{power_over}

-- [start, end) is a subtree: it has entries, and start is a multiple of the least power of two that
-- is not below their number. Numbers have no bound, and the power may be 2^64.
unfoldable pub is_subtree : ℕ → ℕ → Bool
is_subtree start end = nat_lt start end && (start % power_over (end - start) == 0)
