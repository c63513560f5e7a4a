use Rattle.std.proofs.Common.{◌≡◌, drop}
use Rattle.std.specs.List.{find}
use Rattle.policy_core.specs.Judgement.{is_of}
use Rattle.relying_party.proofs.trust.trusted.Given as goal

-- None of the subtrees so far has the interval.
abbrev pub invariant-loop-subtree : goal.invariant-loop-subtree
invariant-loop-subtree l = find (is_of l.start l.end) (drop l.subtree-index l.subtrees)
    ≡ find (is_of l.start l.end) l.subtrees
