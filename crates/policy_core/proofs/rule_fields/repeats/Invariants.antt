use Rattle.std.proofs.Common.{◌≡◌, length}
use Rattle.policy_core.specs.Stores.{has_repeat, is_same_index}
use Rattle.policy_core.proofs.rule_fields.repeats.Given as goal

-- None of the indices so far occurs again after itself.
abbrev pub invariant-loop-rest : goal.invariant-loop-rest
invariant-loop-rest l = has_repeat is_same_index l.rest ≡ has_repeat is_same_index l.fn.indices

abbrev pub decreases-loop-rest : goal.decreases-loop-rest
decreases-loop-rest l = length l.rest
