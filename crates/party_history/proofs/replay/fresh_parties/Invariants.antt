use Rattle.std.proofs.Common.{◌≡◌, map, take}
use Rattle.party_history.specs.Parties.{fresh_party}
use Rattle.party_history.proofs.replay.fresh_parties.Given as goal

abbrev pub invariant-loop-start : goal.invariant-loop-start
invariant-loop-start l = l.states.items ≡ map fresh_party (take l.start-index l.starts)
