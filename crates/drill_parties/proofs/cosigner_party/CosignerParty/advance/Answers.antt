use Rattle.std.proofs.Common.{[], ◌∷◌, arith}
use Rattle.std.proofs.lemmas.Result.{IfOk-weaker}
use Rattle.drill_parties.specs.CosignerViews.{cosigner_shown, records_shown}
use Rattle.drill_parties.specs.declared.cosigner_calls.CosignerCall.TheVariants.{Advance}
use Rattle.drill_parties.proofs.CosignerStops.{more_twice, reopened_more}
use Rattle.drill_parties.proofs.MadeStops.{none_stopped}
use Rattle.drill_parties.proofs.cosigner_party.CosignerParty.advance.Goals as goal

pub returns-in_default-clause-state : goal.returns-in_default-clause-state
returns-in_default-clause-state g c = c.done.ensures.state

pub returns-in_default-clause-grows : goal.returns-in_default-clause-grows
returns-in_default-clause-grows g c =
    IfOk-weaker c.done.result _ _ (λ it done. (_ ∷ [], done)) c.done.ensures.records

pub returns-in_default-clause-stops : goal.returns-in_default-clause-stops
returns-in_default-clause-stops g c =
    let none = none_stopped c.args.turn c.in_default.not-Some in
    IfOk-weaker c.done.result _ _ (λ it done. omega (arith, done, none)) c.done.ensures.stops

pub returns-else-before-held-clause-grows : goal.returns-else-before-held-clause-grows
returns-else-before-held-clause-grows g c =
    IfOk-weaker c.done-else-before-held.result _ _ (λ it done.
    more_twice (records_shown c.args.self) (records_shown c.in_ok-party.party) (records_shown it)
    (reopened_more (Advance c.args.request.now) (cosigner_shown c.args.self)
    (cosigner_shown c.in_ok-party.party) (records_shown c.args.self)
    (records_shown c.in_ok-party.party) _ c.in_ok-party.field-0-1 c.in_ok-party.ensures.state)
    (_ ∷ [], done)) c.done-else-before-held.ensures.records
