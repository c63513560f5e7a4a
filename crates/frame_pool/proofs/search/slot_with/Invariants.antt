use Rattle.std.proofs.Common.{◌≡◌, ℕ, ◌<◌, get_or, Some, None}
use Rattle.frame_pool.proofs.search.slot_with.Given as goal

abbrev pub invariant-loop-slot : goal.invariant-loop-slot
invariant-loop-slot l = (k : ℕ) → k < l.slot → get_or l.keys k None ≡ Some l.key → ⊥
