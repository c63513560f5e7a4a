use Rattle.std.proofs.Common.{length}
use Rattle.collide.proofs.lists.+compare_lists.Given as goal

abbrev pub decreases-compare_lists : goal.decreases-compare_lists
decreases-compare_lists g l = length (g.L.EntryList.texts l.first.now)
