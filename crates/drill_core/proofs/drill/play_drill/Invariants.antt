use Rattle.drill_core.specs.Played.{IsStanding}
use Rattle.drill_core.proofs.drill.play_drill.Given as goal

abbrev pub invariant-loop-round : goal.invariant-loop-round
invariant-loop-round g l = IsStanding g.H.TreeHash.hash l.fn.number l._round l.dice.number l.parties
