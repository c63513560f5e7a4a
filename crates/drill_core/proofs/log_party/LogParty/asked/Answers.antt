use Rattle.std.proofs.Common.{◌≡◌, ◌∙◌, ◌≤◌, length, arith, ap}
use Rattle.std.proofs.lemmas.Result.{IfOk-weaker}
use Rattle.issuance_log.specs.Folds.{LogState}
use Rattle.drill_core.specs.Calls.{count_in, log_called}
use Rattle.drill_core.specs.LogParties.{log_shown}
use Rattle.drill_parties.proofs.MadeStops.{none_stopped, one_stopped}
use Rattle.drill_core.proofs.Stops.{not_recovered}
use Rattle.drill_core.proofs.log_party.LogParty.asked.Goals as goal

pub returns-in_default-clause-state : goal.returns-in_default-clause-state
returns-in_default-clause-state g c = c.done.ensures.state

pub returns-in_default-clause-stops : goal.returns-in_default-clause-stops
returns-in_default-clause-stops g c =
    let none = none_stopped c.args.turn c.in_default.not-Some in
    IfOk-weaker c.done.result _ _ (λ _ done. omega (arith, done, none)) c.done.ensures.stops

pub returns-then-before-count-clause-stops : goal.returns-then-before-count-clause-stops
returns-then-before-count-clause-stops g c =
    let stopped = c.in_ok-party.ensures.stops in
    let one = one_stopped c.args.turn c.in-Some.stop c.in-Some.is in
    let same : length c.recover.new.self.made.items ≡ length c.in_ok-party.party.stops.made.items =
    ap (λ v. length v.items) c.recover.ensures.made in
    omega (arith, stopped, one, same)

pub returns-else-before-count-clause-state : goal.returns-else-before-count-clause-state
returns-else-before-count-clause-state g c =
    let few : count_in (log_shown c.in_ok-party.party) c.args.call.now
    ≤ count_in (log_shown c.args.self) c.args.call.now =
    omega (arith, c.if-before-count.false, c.count.ensures, c.count-before.ensures) in
    let same : log_shown c.in_ok-party.party ≡ log_shown c.args.self =
    not_recovered g.H.TreeHash.hash c.args.call.now (log_shown c.args.self)
    (log_shown c.in_ok-party.party) c.in_ok-party.ensures.state few in
    IfOk-weaker c.done-else-before-count.result _ _ (λ _ again. again
    ∙ ap (λ (s : LogState). log_called g.H.TreeHash.hash s c.args.call.now) same)
    c.done-else-before-count.ensures.state

pub returns-else-before-count-clause-stops : goal.returns-else-before-count-clause-stops
returns-else-before-count-clause-stops g c =
    let stopped = c.in_ok-party.ensures.stops in
    let one = one_stopped c.args.turn c.in-Some.stop c.in-Some.is in
    IfOk-weaker c.done-else-before-count.result _ _ (λ _ again. omega (arith, stopped, again, one))
    c.done-else-before-count.ensures.stops
