use Rattle.tile_store.proofs.Compared.{HaveFound}
use Rattle.tile_store.proofs.checking.compare.Given as goal

abbrev pub invariant-loop-number : goal.invariant-loop-number
invariant-loop-number g l =
    HaveFound g.T.Disk g.H.TreeHash.hash l.rows l.fn.from l.number l.fn.disk l.disk l.fn.pool
    l.pool
