use Rattle.std.proofs.Common.{◌≡◌, ◌+◌, take}
use Rattle.drill_parties.specs.Cosigners.{IsAdvanced, stops_by}
use Rattle.drill_parties.specs.Rounds.{stops_in}
use Rattle.drill_parties.proofs.Going.{HaveGone}
use Rattle.drill_parties.proofs.cosigners.Cosigners.advance.Given as goal

abbrev pub invariant-loop-turn : goal.invariant-loop-turn
invariant-loop-turn g l = record {
  gone : HaveGone (IsAdvanced l.size l.root) l.turn-index l.fn.self.parties.items
      l.self.parties.items;
  stops : stops_by l.self.parties.items ≡ stops_by l.fn.self.parties.items
      + stops_in (take l.turn-index l.turns);
}
