use Rattle.std.proofs.Common.{◌≡◌, length}
use Rattle.tree_cache.specs.Rows.{HaveNone}
use Rattle.tree_cache.proofs.rows.empty_rows.Given as goal

abbrev pub invariant-loop-level : goal.invariant-loop-level
invariant-loop-level l = (length l.rows.items ≡ l._level) × HaveNone l.rows.items
