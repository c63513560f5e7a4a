use Rattle.std.proofs.Common.{arith}
use Rattle.lms_core.proofs.Levels.{HoldsFrom-leaves}
use Rattle.lms_core.proofs.growing.fill_leaves.Goals as goal

pub returns : goal.returns
returns c = rw c.requires.leaves (HoldsFrom-leaves _ _ (λ k from to.
    c.loop-q.invariant k (omega arith) (omega arith)))
