use Rattle.std.proofs.Common.{arith}
use Rattle.std.proofs.lemmas.List.{length-append}
use Rattle.disk_core.specs.Memory.{bytes_of, crash_states_of}
use Rattle.drill_parties.specs.CosignerViews.{cosigner_shown, records_shown}
use Rattle.drill_parties.proofs.CosignerStops.{reopened_by}
use Rattle.drill_parties.proofs.cosigner.stopped.Goals as goal

pub returns-clause-state : goal.returns-clause-state
returns-clause-state g c =
    reopened_by g.H.TreeHash.hash c.args.call.now (cosigner_shown c.args.party)
    (cosigner_shown c.in_ok-again.again) (records_shown c.args.party)
    (records_shown c.in_ok-again.again) (crash_states_of c.in_ok-left.left)
    (bytes_of c.in_ok-crash_state.crash_state) c.halted.new.out c.in_ok-left.done
    (c.in_ok-left.ensures (cosigner_shown c.args.party) (records_shown c.args.party)
    c.in_ok-cosigner.ensures.state)
    c.in_ok-crash_state.ensures.crash_state c.in_ok-again.ensures.state

pub returns-clause-stops : goal.returns-clause-stops
returns-clause-stops g c =
    let made = c.in_ok-add.ensures.made in
    let before = c.in_ok-cosigner.ensures.stops in
    let all = c.in_ok-again.ensures.stops in
    grind (arith, length-append, made, before, all)
