use Rattle.tree_cache.specs.Rows.{ArePairsFilled}
use Rattle.tree_cache.proofs.rows.fill_above.Given as goal

abbrev pub invariant-loop-number : goal.invariant-loop-number
invariant-loop-number g l =
    ArePairsFilled g.H.TreeHash.hash l.row l.fn.from l.number l.initial.above l.above
