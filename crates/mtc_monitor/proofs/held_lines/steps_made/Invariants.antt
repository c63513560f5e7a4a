use Rattle.cosigner_core.specs.Progress.{first_progress}
use Rattle.mtc_monitor.proofs.StepsLeft.{Reaches}
use Rattle.mtc_monitor.proofs.held_lines.steps_made.Given as goal

-- The steps that are left bring the cosigner to where all steps bring it.
abbrev pub invariant-loop-step : goal.invariant-loop-step
invariant-loop-step g l =
    Reaches (first_progress g.H.TreeHash.hash) l.steps l.step-index l.held l.signs l.children
    l.low
