use Rattle.frame_pool.proofs.Sounds.{unpinned-some}
use Rattle.frame_pool.proofs.pool.Pool.unpinned.Goals as goal

pub returns-clause-some : goal.returns-clause-some
returns-clause-some c = unpinned-some _ c.args.self.now c.self.invariant c.self.view_is
