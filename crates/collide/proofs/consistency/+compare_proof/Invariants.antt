use Rattle.std.proofs.Common.{length}
use Rattle.collide.proofs.consistency.+compare_proof.Given as goal

abbrev pub decreases-compare_proof : goal.decreases-compare_proof
decreases-compare_proof g l = length (g.L.EntryList.texts l.items.now)
