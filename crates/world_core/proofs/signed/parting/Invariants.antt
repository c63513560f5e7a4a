use Rattle.std.proofs.Common.{◌<◌, ◌≤◌, ◌-◌, length}
use Rattle.cosigner_steps.specs.Steps.{HasPrefix, held_by_first}
use Rattle.world_core.proofs.signed.parting.Given as goal

pub record Invariant (g : goal.Over) (l : goal.Live-loop-high g) : Type 0 where
  pub order : l.low < l.high
  pub within : l.high ≤ length l.steps
  pub apart : HasPrefix g.H.TreeHash.hash l.entries
      (held_by_first g.H.TreeHash.hash l.steps l.low) → ⊥
  pub next : HasPrefix g.H.TreeHash.hash l.entries
      (held_by_first g.H.TreeHash.hash l.steps l.high)

abbrev pub invariant-loop-high : goal.invariant-loop-high
invariant-loop-high g l = Invariant g l

abbrev pub decreases-loop-high : goal.decreases-loop-high
decreases-loop-high g l = l.high - l.low
