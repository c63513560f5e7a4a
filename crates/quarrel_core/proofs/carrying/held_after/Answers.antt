use Rattle.std.proofs.Common.{sym, ◌∙◌}
use Rattle.cosigner_steps.proofs.Holding.{either_keeps, found_at}
use Rattle.cosigner_steps.proofs.Steps.{held_advance, held_same}
use Rattle.quarrel_core.proofs.carrying.held_after.Goals as goal

pub returns-in-Advance : goal.returns-in-Advance
returns-in-Advance g c =
    sym (held_advance g.H.TreeHash.hash c.args.steps.now c.args.place _ _ c.in-Advance.proof
    c.requires.within
    (found_at c.args.steps.now _ _ _ c.index-steps-place.is c.in-Advance.is))

pub returns-in-Sign : goal.returns-in-Sign
returns-in-Sign g c =
    c.requires.held ∙ sym (held_same g.H.TreeHash.hash c.args.steps.now c.args.place
    c.index-steps-place.result (either_keeps c.index-steps-place.result c.in-Sign.is)
    c.requires.within c.index-steps-place.is)
