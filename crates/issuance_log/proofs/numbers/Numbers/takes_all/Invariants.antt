use Rattle.std.proofs.Common.{length}
use Rattle.issuance_log.proofs.TakenItems.{AreTested}
use Rattle.issuance_log.proofs.numbers.Numbers.takes_all.Given as goal

-- what is left decides, after those that are taken
abbrev pub invariant-items : goal.invariant-items
invariant-items g l = AreTested g.H.TreeHash.hash l.self.view l.items l.size l.rest

abbrev pub decreases-items : goal.decreases-items
decreases-items g l = length l.rest
