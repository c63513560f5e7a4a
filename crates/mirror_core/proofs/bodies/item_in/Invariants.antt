use Rattle.std.proofs.Common.{length}
use Rattle.mirror_core.proofs.ReadBodies.{IsLeft}
use Rattle.mirror_core.proofs.bodies.item_in.Given as goal

-- the item is one of those that are left
abbrev pub invariant-items : goal.invariant-items
invariant-items l = IsLeft l.items l.rest l.number l.left

abbrev pub decreases-items : goal.decreases-items
decreases-items l = length l.rest
