use Rattle.std.proofs.Common.{arith}
use Rattle.drill_core.proofs.parties.DrillParties.mark.Goals as goal

pub returns-clause-stops : goal.returns-clause-stops
returns-clause-stops g c = let stops = c.in_ok-log.ensures.stops in omega (arith, stops)

pub returns-clause-light : goal.returns-clause-light
returns-clause-light g c = λ due. let one = c.in_ok-log.ensures.accepted due in omega (arith, one)
