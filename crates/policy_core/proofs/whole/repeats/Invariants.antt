use Rattle.std.proofs.Common.{◌≡◌, take, drop}
use Rattle.policy_core.specs.Stores.{has_repeat, has_same_interval}
use Rattle.policy_core.proofs.Repeats.{Holds, repeats_after}
use Rattle.policy_core.proofs.whole.repeats.Given as goal

-- the set has the intervals so far, and what is left repeats one of these or of its own where the
-- whole does
abbrev pub invariant-loop-one : goal.invariant-loop-one
invariant-loop-one l = record {
  seen : Holds l.seen (take l.one-index l.subtrees);
  whole : repeats_after (take l.one-index l.subtrees) (drop l.one-index l.subtrees)
      ≡ has_repeat has_same_interval l.subtrees;
}
