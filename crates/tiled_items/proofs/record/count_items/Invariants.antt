use Rattle.std.proofs.Common.{length}
use Rattle.issuance_log.proofs.Leading.{IsCounted}
use Rattle.tiled_items.proofs.record.count_items.Given as goal

-- the items before what is left are counted
abbrev pub invariant-items : goal.invariant-items
invariant-items l = IsCounted l.bytes l.rest l.count

abbrev pub decreases-items : goal.decreases-items
decreases-items l = length l.rest
