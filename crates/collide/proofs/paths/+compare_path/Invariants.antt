use Rattle.std.proofs.Common.{length}
use Rattle.collide.proofs.paths.+compare_path.Given as goal

abbrev pub decreases-compare_path : goal.decreases-compare_path
decreases-compare_path g l = length (g.L.EntryList.texts l.items.now)
