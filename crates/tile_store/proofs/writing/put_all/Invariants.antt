use Rattle.tile_store.proofs.Steps.{HavePut}
use Rattle.tile_store.proofs.writing.put_all.Given as goal

abbrev pub invariant-loop-number : goal.invariant-loop-number
invariant-loop-number g l =
    HavePut g.T.Disk g.H.TreeHash.hash l.rows l.fn.from l.to l.number l.fn.disk l.disk
