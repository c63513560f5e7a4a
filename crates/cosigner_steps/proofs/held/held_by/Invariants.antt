use Rattle.std.proofs.Common.{◌≡◌, ◌≤◌, length}
use Rattle.cosigner_steps.specs.Steps.{held_by_first, held_by}
use Rattle.cosigner_steps.proofs.held.held_by.Given as goal

-- after the steps from here on nothing else is held
pub record Invariant (g : goal.Over) (l : goal.Live-loop-place g) : Type 0 where
  pub within : l.place ≤ length l.steps
  pub same : held_by_first g.H.TreeHash.hash l.steps l.place ≡ held_by g.H.TreeHash.hash l.steps

abbrev pub invariant-loop-place : goal.invariant-loop-place
invariant-loop-place g l = Invariant g l

abbrev pub decreases-loop-place : goal.decreases-loop-place
decreases-loop-place g l = l.place
