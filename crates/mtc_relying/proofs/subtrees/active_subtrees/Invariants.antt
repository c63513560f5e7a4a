use Rattle.mtc_relying.proofs.Trusted.{AreSoFar}
use Rattle.mtc_relying.proofs.subtrees.active_subtrees.Given as goal

-- the subtrees of the landmarks so far
abbrev pub invariant-loop-number : goal.invariant-loop-number
invariant-loop-number l = AreSoFar l.fn.landmarks l.number l.spans.items
