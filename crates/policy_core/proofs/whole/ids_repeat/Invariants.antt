use Rattle.std.proofs.Common.{◌≡◌, length}
use Rattle.policy_core.specs.Stores.{has_repeat, has_same_id}
use Rattle.policy_core.proofs.whole.ids_repeat.Given as goal

-- None of the ids so far occurs again after itself.
abbrev pub invariant-loop-rest : goal.invariant-loop-rest
invariant-loop-rest l = has_repeat has_same_id l.rest ≡ has_repeat has_same_id l.fn.known

abbrev pub decreases-loop-rest : goal.decreases-loop-rest
decreases-loop-rest l = length l.rest
