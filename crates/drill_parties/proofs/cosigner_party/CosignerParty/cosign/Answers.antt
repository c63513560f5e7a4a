use Rattle.std.proofs.Common.{[], ◌∷◌, arith}
use Rattle.drill_parties.specs.CosignerViews.{cosigner_shown, records_shown}
use Rattle.drill_parties.specs.declared.cosigner_calls.CosignerCall.TheVariants.{Cosign}
use Rattle.drill_parties.proofs.CosignerStops.{more_twice, recorded_last, reopened_more}
use Rattle.drill_parties.proofs.CosignerStops.{signed_again, signed_once}
use Rattle.drill_parties.proofs.MadeStops.{none_stopped, one_stopped}
use Rattle.drill_parties.proofs.cosigner_party.CosignerParty.cosign.Goals as goal

pub returns-in_default-clause-state : goal.returns-in_default-clause-state
returns-in_default-clause-state g c =
    signed_once _ _ _ _ _ c.in_ok-signed.ensures.state c.in_ok-signed.ensures.signed

pub returns-then-done-clause-state : goal.returns-then-done-clause-state
returns-then-done-clause-state g c =
    signed_once _ _ _ _ _ (c.in_ok-party.ensures.state.all c.if-done.true).0
    (c.in_ok-party.ensures.state.signed c.if-done.true)

pub returns-in_ok-again-clause-state : goal.returns-in_ok-again-clause-state
returns-in_ok-again-clause-state g c =
    signed_again _ _ c.in-Some.stop _ (cosigner_shown c.in_ok-party.party) _
    (records_shown c.args.self) (records_shown c.in_ok-party.party) _ _ c.in_ok-party.done
    c.in-Some.is
    c.in_ok-party.ensures.state c.in_ok-again.ensures.state c.in_ok-again.ensures.signed

pub returns-in_default-clause-grows : goal.returns-in_default-clause-grows
returns-in_default-clause-grows g c = (_ ∷ [], c.in_ok-signed.ensures.records)

pub returns-in_default-clause-recorded : goal.returns-in_default-clause-recorded
returns-in_default-clause-recorded g c =
    recorded_last g.H.TreeHash.hash c.args.request.now (cosigner_shown c.args.self)
    (records_shown c.args.self) (records_shown c.in_ok-signed.signed) c.args.self.stands.valid
    c.in_ok-signed.ensures.numbered c.in_ok-signed.ensures.records

pub returns-then-done-clause-grows : goal.returns-then-done-clause-grows
returns-then-done-clause-grows g c =
    reopened_more (Cosign c.args.request.now) (cosigner_shown c.args.self)
    (cosigner_shown c.in_ok-party.party) (records_shown c.args.self)
    (records_shown c.in_ok-party.party) _ c.in_ok-party.done c.in_ok-party.ensures.state

pub returns-then-done-clause-recorded : goal.returns-then-done-clause-recorded
returns-then-done-clause-recorded g c =
    recorded_last g.H.TreeHash.hash c.args.request.now (cosigner_shown c.args.self)
    (records_shown c.args.self) (records_shown c.in_ok-party.party) c.args.self.stands.valid
    (c.in_ok-party.ensures.state.numbered c.if-done.true)
    (c.in_ok-party.ensures.state.all c.if-done.true).1

pub returns-in_ok-again-clause-grows : goal.returns-in_ok-again-clause-grows
returns-in_ok-again-clause-grows g c =
    more_twice (records_shown c.args.self) (records_shown c.in_ok-party.party)
    (records_shown c.in_ok-again.again)
    (reopened_more (Cosign c.args.request.now) (cosigner_shown c.args.self)
    (cosigner_shown c.in_ok-party.party) (records_shown c.args.self)
    (records_shown c.in_ok-party.party) _ c.in_ok-party.done c.in_ok-party.ensures.state)
    (_ ∷ [], c.in_ok-again.ensures.records)

pub returns-in_ok-again-clause-recorded : goal.returns-in_ok-again-clause-recorded
returns-in_ok-again-clause-recorded g c =
    recorded_last g.H.TreeHash.hash c.args.request.now (cosigner_shown c.in_ok-party.party)
    (records_shown c.in_ok-party.party) (records_shown c.in_ok-again.again)
    c.in_ok-party.party.stands.valid c.in_ok-again.ensures.numbered c.in_ok-again.ensures.records

pub returns-in_default-clause-stops : goal.returns-in_default-clause-stops
returns-in_default-clause-stops g c =
    let done = c.in_ok-signed.ensures.stops in
    let none = none_stopped c.args.turn c.in_default.not-Some in
    omega (arith, done, none)

pub returns-then-done-clause-stops : goal.returns-then-done-clause-stops
returns-then-done-clause-stops g c =
    let stopped = c.in_ok-party.ensures.stops in
    let one = one_stopped c.args.turn c.in-Some.stop c.in-Some.is in
    omega (arith, stopped, one)

pub returns-in_ok-again-clause-stops : goal.returns-in_ok-again-clause-stops
returns-in_ok-again-clause-stops g c =
    let stopped = c.in_ok-party.ensures.stops in
    let again = c.in_ok-again.ensures.stops in
    let one = one_stopped c.args.turn c.in-Some.stop c.in-Some.is in
    omega (arith, stopped, again, one)
