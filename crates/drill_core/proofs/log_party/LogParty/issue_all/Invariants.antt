use Rattle.std.proofs.Common.{◌≡◌, ◌+◌, take}
use Rattle.drill_core.specs.LogParties.{log_shown, log_stops}
use Rattle.drill_core.specs.Played.{issued_to}
use Rattle.drill_parties.specs.Rounds.{stops_in}
use Rattle.drill_core.proofs.log_party.LogParty.issue_all.Given as goal

abbrev pub invariant-loop-turn : goal.invariant-loop-turn
invariant-loop-turn g l = record {
  state : log_shown l.party ≡ issued_to g.H.TreeHash.hash l.turn-index (log_shown l.fn.self);
  stops : log_stops l.party ≡ log_stops l.fn.self + stops_in (take l.turn-index l.turns);
}
