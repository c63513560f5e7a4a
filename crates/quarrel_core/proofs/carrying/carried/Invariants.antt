use Rattle.std.proofs.Common.{◌≡◌}
use Rattle.cosigner_steps.specs.Steps.{held_by_first, proof_inputs}
use Rattle.quarrel_core.specs.Carrying.{IsCarried}
use Rattle.quarrel_core.proofs.carrying.carried.Given as goal

-- the proof is carried up to here
pub record Invariant (g : goal.Over) (l : goal.Live-loop-place g) : Type 0 where
  pub held : l.held ≡ held_by_first g.H.TreeHash.hash l.steps l.place
  pub carried : IsCarried g.H.TreeHash.hash l.start l.end l.node l.held
      (proof_inputs g.H.TreeHash.hash l.steps) l.proof

abbrev pub invariant-loop-place : goal.invariant-loop-place
invariant-loop-place g l = Invariant g l
