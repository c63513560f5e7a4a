use Rattle.std.proofs.Common.{◌≡◌, ◌≤◌, ◌+◌, take}
use Rattle.drill_parties.specs.Cosigners.{HaveSigned, IsSigned, keys_used, stops_by}
use Rattle.drill_parties.specs.Rounds.{stops_in}
use Rattle.drill_parties.proofs.Going.{HaveGone}
use Rattle.drill_parties.proofs.cosigners.Cosigners.cosign.Given as goal

abbrev pub invariant-loop-turn : goal.invariant-loop-turn
invariant-loop-turn g l = record {
  gone : HaveGone (IsSigned l.size l.hash) l.turn-index l.fn.self.parties.items
      l.self.parties.items;
  put : HaveSigned l.size l.hash (take l.turn-index l.fn.self.parties.items) l.fn.signatures
      l.signatures;
  keys : keys_used l.self.parties.items ≤ keys_used l.fn.self.parties.items + l.turn-index
      + stops_in (take l.turn-index l.turns);
  stops : stops_by l.self.parties.items ≡ stops_by l.fn.self.parties.items
      + stops_in (take l.turn-index l.turns);
}
