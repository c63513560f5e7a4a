use Rattle.std.proofs.Common.{length}
use Rattle.tree_proofs.proofs.tree.+list_hash.Given as goal

abbrev pub decreases-list_hash : goal.decreases-list_hash
decreases-list_hash g l = length (g.L.EntryList.texts l.entries.now)
