use Rattle.std.proofs.Common.{arith, ap, ◌∙◌}
use Rattle.std.proofs.Math.Seq.{take-length}
use Rattle.cosigner_steps.specs.Steps.{held_by}
use Rattle.cosigner_steps.proofs.Holding.{back_advance, back_none, back_same, found_at}
use Rattle.cosigner_steps.proofs.Holding.{not_advance}
use Rattle.cosigner_steps.proofs.held.held_by.Goals as goal

pub loop-place-init : goal.loop-place-init
loop-place-init g c = record {
  within = omega arith;
  same = ap (held_by g.H.TreeHash.hash) (take-length c.args.steps.now);
}

pub loop-place-preserved : goal.loop-place-preserved
loop-place-preserved g c = record {
  within = omega arith;
  same =
      back_same g.H.TreeHash.hash c.args.steps.now c.loop-place.place c.index-steps-place.result
      (not_advance c.index-steps-place.result c.in_default.not-Advance) c.loop-place-test.true
      c.loop-place.invariant.within c.index-steps-place.is c.loop-place.invariant.same;
}

pub returns-in-Advance : goal.returns-in-Advance
returns-in-Advance g c =
    back_advance g.H.TreeHash.hash c.args.steps.now c.loop-place.place _ _ c.in-Advance.proof
    c.loop-place-test.true c.loop-place.invariant.within
    (found_at c.args.steps.now _ _ _ c.index-steps-place.is c.in-Advance.is)
    c.loop-place.invariant.same

pub returns : goal.returns
returns g c =
    c.empty.ensures ∙ back_none g.H.TreeHash.hash c.args.steps.now c.loop-place.place
    c.loop-place-test.false c.loop-place.invariant.same
