use Rattle.tree_cache.proofs.Filled.{all-none}
use Rattle.tree_cache.proofs.Grows.{rows-none, whole-none}
use Rattle.tree_cache.proofs.cache.Cache.new.Goals as goal

pub invariant_of-result : goal.invariant_of-result
invariant_of-result g c =
    let h = g.H.TreeHash.hash in
    all-none h c.new.result (rows-none h c.new.result c.new.ensures.first c.new.ensures.above)
    (whole-none c.new.result c.new.ensures.first c.new.ensures.above) c.new.ensures.first.kept
