use Rattle.std.proofs.Common.{◌≡◌, length}
use Rattle.drill_parties.specs.Draws.{turns}
use Rattle.drill_parties.proofs.dice.Dice.turns.Given as goal

abbrev pub invariant-loop-made : goal.invariant-loop-made
invariant-loop-made l =
    ((l.turns, l.self.number) ≡ turns l._made l.fn.self.number) × (length l.turns ≡ l._made)
