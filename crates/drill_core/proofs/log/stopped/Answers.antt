use Rattle.std.proofs.Common.{arith}
use Rattle.std.proofs.lemmas.List.{length-append}
use Rattle.std.proofs.lemmas.Result.{IfOk-weaker}
use Rattle.disk_core.specs.Memory.{bytes_of, crash_states_of}
use Rattle.drill_core.specs.LogParties.{log_shown}
use Rattle.drill_core.proofs.Stops.{reopened}
use Rattle.drill_core.proofs.log.stopped.Goals as goal

pub returns-clause-state : goal.returns-clause-state
returns-clause-state g c = IfOk-weaker c.opened.result _ _
    (λ it is. reopened g.H.TreeHash.hash c.args.call.now (log_shown c.args.party) (log_shown it)
    (crash_states_of c.in_ok-left.left) (bytes_of c.in_ok-crash_state.crash_state)
    (c.in_ok-left.ensures (log_shown c.args.party) c.in_ok-log.ensures.state)
    c.in_ok-crash_state.ensures.crash_state is) c.opened.ensures.state

pub returns-clause-stops : goal.returns-clause-stops
returns-clause-stops g c =
    let made = c.in_ok-add.ensures.made in
    let before = c.in_ok-log.ensures.stops in
    IfOk-weaker c.opened.result _ _ (λ _ all. grind (arith, length-append, all, made, before))
    c.opened.ensures.stops
