use Rattle.std.proofs.Common.{length}
use Rattle.mirror_core.proofs.Taking.{AreTested}
use Rattle.mirror_core.proofs.numbers.Numbers.takes_all.Given as goal

-- what is left decides, after those that are of a mirror
abbrev pub invariant-items : goal.invariant-items
invariant-items g l = AreTested g.H.TreeHash.hash l.items l.rest

abbrev pub decreases-items : goal.decreases-items
decreases-items g l = length l.rest
