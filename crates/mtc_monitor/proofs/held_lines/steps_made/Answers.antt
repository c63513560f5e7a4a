use Rattle.cosigner_core.specs.Progress.{first_progress}
use Rattle.mtc_monitor.proofs.StepsLeft.{reaches_all, reaches_more}
use Rattle.mtc_monitor.proofs.held_lines.steps_made.Goals as goal
use Rattle.mtc_monitor.proofs.held_lines.steps_made.Goals.{in-Advance, in-Child, in-Sign}

pub loop-step-preserved : goal.loop-step-preserved
loop-step-preserved g c = elim c.match-step.branch [
  | in-Advance w ↦ reaches_more (first_progress g.H.TreeHash.hash) c.args.steps.now
      c.loop-step.step-index c.loop-step.held c.match-step.held c.loop-step.signs
      c.match-step.signs c.loop-step.children c.match-step.children c.loop-step.low
      c.match-step.low c.step-item.result _ c.loop-step.invariant c.loop-step-test.true
      c.step-item.is w.in-Advance.is w.held-is w.signs-is w.children-is w.low-is
  | in-Sign w ↦ reaches_more (first_progress g.H.TreeHash.hash) c.args.steps.now
      c.loop-step.step-index c.loop-step.held c.match-step.held c.loop-step.signs
      c.match-step.signs c.loop-step.children c.match-step.children c.loop-step.low
      c.match-step.low c.step-item.result _ c.loop-step.invariant c.loop-step-test.true
      c.step-item.is w.in-Sign.is w.held-is w.signs-is w.children-is w.low-is
  | in-Child w ↦ reaches_more (first_progress g.H.TreeHash.hash) c.args.steps.now
      c.loop-step.step-index c.loop-step.held c.match-step.held c.loop-step.signs
      c.match-step.signs c.loop-step.children c.match-step.children c.loop-step.low
      c.match-step.low c.step-item.result _ c.loop-step.invariant c.loop-step-test.true
      c.step-item.is w.in-Child.is w.held-is w.signs-is w.children-is w.low-is
]

pub returns : goal.returns
returns g c = reaches_all (first_progress g.H.TreeHash.hash) c.args.steps.now
    c.loop-step.step-index c.loop-step.held c.loop-step.signs c.loop-step.children
    c.loop-step.low c.loop-step.invariant c.loop-step-test.false
