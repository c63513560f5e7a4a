use Rattle.std.proofs.Common.{arith}
use Rattle.party_history.specs.Histories.{states_after}
use Rattle.party_history.specs.Rules.{may_follow}
use Rattle.party_history.proofs.Replays.{all_taken, no_step, one_step, was_none, was_taken}
use Rattle.party_history.proofs.replay.history.Goals as goal

pub loop-step-preserved : goal.loop-step-preserved
loop-step-preserved g c =
    let valid = may_follow g.H.TreeHash.hash in
    let states = c.loop-step.states.items in (
      omega (arith, c.loop-step.invariant.0),
      one_step valid _ c.loop-step.number states c.args.steps.now c.loop-step.step-index
          c.loop-step.invariant.1 c.step-item.result c.loop-step-test.true c.step-item.is
          c.take_next.new.states.items (was_taken (states_after valid states c.step-item.result)
          c.take_next.new.states.items c.in_ok-take_next.field-0 c.in_ok-take_next.ensures
          c.if-not-branch.false),
    )

pub returns-then-not-branch : goal.returns-then-not-branch
returns-then-not-branch g c =
    let valid = may_follow g.H.TreeHash.hash in
    let states = c.loop-step.states.items in
    no_step valid _ c.loop-step.number states c.args.steps.now c.loop-step.step-index
    c.loop-step.invariant.1 c.step-item.result c.loop-step-test.true c.step-item.is
    (was_none (states_after valid states c.step-item.result) c.take_next.new.states.items
    c.in_ok-take_next.field-0 c.in_ok-take_next.ensures c.if-not-branch.true)

pub returns : goal.returns
returns g c =
    all_taken (may_follow g.H.TreeHash.hash) _ c.loop-step.number c.loop-step.states.items
    c.args.steps.now c.loop-step.step-index c.loop-step.invariant.1 c.loop-step-test.false
