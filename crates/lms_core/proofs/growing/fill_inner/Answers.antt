use Rattle.std.proofs.Common.{◌≡◌, ◌+◌, ◌-◌, arith}
use Rattle.lms_core.specs.Held.{HoldsFrom}
use Rattle.lms_core.proofs.Levels.{HoldsFrom-more}
use Rattle.lms_core.proofs.growing.fill_inner.Goals as goal

pub loop-step-preserved : goal.loop-step-preserved
loop-step-preserved c =
    let now : c.args.leaves + 1 - (c.loop-step.step + 1) ≡ c.args.leaves - c.loop-step.step =
    omega arith in
    let before : c.args.leaves + 1 - c.loop-step.step ≡ c.args.leaves - c.loop-step.step + 1 =
    omega arith in
    let held : HoldsFrom c.args.key.now (c.args.leaves - c.loop-step.step + 1) c.loop-step.nodes =
    rw (← before) c.loop-step.invariant in
    rw now (HoldsFrom-more _ _ _ _ (omega arith) (omega arith)
    (omega arith) held c.inner_node.ensures)
