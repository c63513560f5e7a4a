use Rattle.drill_core.proofs.OnlyRead.{called_stands, seen_called}
use Rattle.drill_core.proofs.log_party.LogParty.done.Goals as goal

pub invariant_of-result : goal.invariant_of-result
invariant_of-result g c = record {
  sound = (c.in_ok-call_log.ensures.grown c.if-branch.true).sound;
  stands = called_stands g.H.TreeHash.hash c.args.call.now c.args.self.log c.call_log.new.log _
      c.if-branch.true c.in_ok-call_log.ensures;
}

pub returns-then-branch-clause-state : goal.returns-then-branch-clause-state
returns-then-branch-clause-state g c =
    seen_called g.H.TreeHash.hash c.args.call.now c.args.self.log c.call_log.new.log _
    c.if-branch.true c.in_ok-call_log.ensures
