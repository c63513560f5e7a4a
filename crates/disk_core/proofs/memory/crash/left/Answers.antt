use Rattle.std.proofs.Common.{◌≡◌, arith, sym, subst}
use Rattle.disk_core.specs.Replay.{State, IsCrashState}
use Rattle.disk_core.proofs.Calls.{state_in, state_in_all, state_in_more}
use Rattle.disk_core.proofs.memory.crash.left.Goals as goal

pub loop-change-preserved : goal.loop-change-preserved
loop-change-preserved c =
    let was = c.loop-change.invariant in
    subst (λ (s : State). (c.replay.new.seen.items ≡ s.seen)
    × IsCrashState s c.replay.new.crash_state.items)
    (sym (state_in_more c.args.first.now c.args.changes.now c.loop-change.change-index
    c.change-item.result c.loop-change-test.true c.change-item.is))
    (c.in_ok-replay.ensures (state_in c.args.first.now c.args.changes.now
    c.loop-change.change-index) was.0 was.1)

pub returns : goal.returns
returns c = λ only_reads.
    subst (λ (s : State). IsCrashState s c.loop-change.crash_state.items)
    (state_in_all c.args.first.now c.args.changes.now c.loop-change.change-index only_reads
    (omega arith)) c.loop-change.invariant.1
