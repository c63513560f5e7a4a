use Rattle.std.proofs.lemmas.Result.{IfOk-weaker}
use Rattle.cosigner_steps.proofs.Holding.{either_keeps, found_at}
use Rattle.tree_proofs.proofs.Fulls.{some_in}
use Rattle.quarrel_core.proofs.Carries.{advance_carries, advance_grows, same_carries}
use Rattle.quarrel_core.proofs.carrying.onward.Goals as goal

pub returns-in-Sign : goal.returns-in-Sign
returns-in-Sign g c =
    same_carries g.H.TreeHash.hash c.args.steps.now c.args.place c.args.start c.args.end
    c.args.node.now c.args.held.now c.args.proof c.index-steps-place.result
    (either_keeps c.index-steps-place.result c.in-Sign.is) c.requires.within c.index-steps-place.is
    c.requires.held c.requires.carried

pub join-requires-clause-order : goal.join-requires-clause-order
join-requires-clause-order g c = some_in c.args.start c.args.end c.requires.carried.checks.valid

pub join-requires-clause-within : goal.join-requires-clause-within
join-requires-clause-within g c = c.requires.carried.checks.within

pub join-requires-clause-grows : goal.join-requires-clause-grows
join-requires-clause-grows g c =
    advance_grows g.H.TreeHash.hash c.args.steps.now c.args.place c.args.start c.args.end _
    c.args.node.now _ c.args.held.now c.args.proof _ c.requires.allowed c.requires.within
    (found_at c.args.steps.now _ _ _ c.index-steps-place.is c.in-Advance.is)
    c.requires.held c.requires.carried

pub returns-in-Advance : goal.returns-in-Advance
returns-in-Advance g c =
    IfOk-weaker c.join.result _ _
    (λ joined is. advance_carries g.H.TreeHash.hash g.met.H.TreeHash.sized c.args.steps.now
    c.args.place c.args.start c.args.end _ c.args.node.now _ c.args.held.now c.args.proof _ _ _
    joined c.requires.allowed c.requires.within
    (found_at c.args.steps.now _ _ _ c.index-steps-place.is c.in-Advance.is)
    c.requires.held c.requires.carried
    c.as_slice-first.ensures c.as_slice-second.ensures c.law_are_whole.ensures is)
    c.join.ensures.exact
