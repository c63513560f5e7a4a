use Rattle.std.proofs.Common.{◌≡◌, ◌+◌, [], ◌∷◌, List, Option, None, add-one, arith, get_or}
use Rattle.std.proofs.Common.{subst, suc, take}
use Rattle.drill_core.specs.LogParties.{log_shown}
use Rattle.drill_parties.specs.Rounds.{stops_in}
use Rattle.drill_parties.specs.declared.turns.Stop.{Stop}
use Rattle.drill_core.proofs.EntryCounts.{issued_next}
use Rattle.drill_parties.proofs.MadeStops.{next_stopped}
use Rattle.drill_core.proofs.log_party.LogParty.issue_all.Goals as goal

pub loop-turn-preserved : goal.loop-turn-preserved
loop-turn-preserved g c =
    let turns : List (Option Stop) = c.args.turns.now in
    let items : List (Option Stop) = c.as_slice-turn-items.result.now in
    let i = c.loop-turn.turn-index in
    let issued = c.in_ok-party.ensures.stops in
    let next : stops_in (take (suc i) turns)
    ≡ stops_in (take i turns) + stops_in (get_or items i None ∷ []) =
    subst (λ (list : List (Option Stop)). stops_in (take (suc i) list)
    ≡ stops_in (take i list) + stops_in (get_or items i None ∷ []))
    c.as_slice-turn-items.ensures (next_stopped items i c.loop-turn-test.true) in
    let before = c.loop-turn.invariant.stops in
    record {
      state = issued_next g.H.TreeHash.hash i (log_shown c.args.self)
          (log_shown c.loop-turn.party) (log_shown c.in_ok-party.party) c.loop-turn.invariant.state
          c.in_ok-party.ensures.state;
      stops = rw (add-one i) (omega (arith, issued, next, before));
    }
