use Rattle.std.proofs.Common.{◌≡◌, ℕ, ◌+◌, ◌<◌, ◌≤◌, []}
use Rattle.std.specs.Prelude.{slice_index_or}
use Rattle.lms_core.specs.Trees.{tree_value}
use Rattle.lms_core.proofs.growing.fill_leaves.Given as goal

abbrev pub invariant-loop-q : goal.invariant-loop-q
invariant-loop-q l =
    (k : ℕ) → l.leaves ≤ k → k < l.leaves + l.q → slice_index_or l.nodes k [] ≡ tree_value l.key 0 k
