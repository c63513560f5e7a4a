use Rattle.tile_store.proofs.reading.+node_over.Given as goal

abbrev pub decreases-node_over : goal.decreases-node_over
decreases-node_over g l = l.level
