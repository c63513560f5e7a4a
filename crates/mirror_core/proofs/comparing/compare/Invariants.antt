use Rattle.std.proofs.Common.{length}
use Rattle.mirror_core.specs.Refusals.{pairs_of}
use Rattle.mirror_core.proofs.Differing.{IsCompared}
use Rattle.mirror_core.proofs.comparing.compare.Given as goal

-- what is left decides
abbrev pub invariant-items : goal.invariant-items
invariant-items g l =
    IsCompared l.list l.rest l.from l.number (length l.items.entries) (pairs_of l.items)

abbrev pub decreases-items : goal.decreases-items
decreases-items g l = length l.rest
