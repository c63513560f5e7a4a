use Rattle.std.proofs.Common.{arith}
use Rattle.drill_core.proofs.parties.DrillParties.grow.Goals as goal

pub grown-requires-clause-some : goal.grown-requires-clause-some
grown-requires-clause-some g c = let three = c.requires.ready.three in omega (arith, three)

pub grown-requires-clause-turns : goal.grown-requires-clause-turns
grown-requires-clause-turns g c =
    let three = c.requires.ready.three in
    let turns = c.requires.turns in
    omega (arith, three, turns)

pub returns-clause-stops : goal.returns-clause-stops
returns-clause-stops g c = let stops = c.in_ok-log.ensures.stops in omega (arith, stops)
