use Rattle.std.proofs.Common.{length}
use Rattle.issuance_log.proofs.Pushing.{ArePushed}
use Rattle.issuance_log.proofs.items.Items.push_all.Given as goal

-- what is left follows what was pushed
abbrev pub invariant-items : goal.invariant-items
invariant-items g l =
    ArePushed g.H.TreeHash.hash l.fn.self l.fn.place l.list l.self l.place l.rest

abbrev pub decreases-items : goal.decreases-items
decreases-items g l = length l.rest
