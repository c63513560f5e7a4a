use Rattle.std.proofs.Common.{length}
use Rattle.mirror_core.proofs.Listed.{IsPassed}
use Rattle.mirror_core.proofs.listing.first_items.Given as goal

-- what is left begins with the items after those that were passed
abbrev pub invariant-items : goal.invariant-items
invariant-items l = IsPassed l.list l.rest l.count l.left

abbrev pub decreases-items : goal.decreases-items
decreases-items l = length l.rest
