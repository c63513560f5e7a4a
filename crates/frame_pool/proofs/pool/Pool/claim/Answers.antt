use Rattle.std.proofs.Common.{sym, subst}
use Rattle.frame_pool.proofs.Sounds.{holds-claimed}
use Rattle.frame_pool.specs.Frames.{HoldsKey}
use Rattle.frame_pool.proofs.pool.Pool.claim.Goals as goal

pub returns-clause-held : goal.returns-clause-held
returns-clause-held c =
    subst (λ p. HoldsKey p c.next-slot.result c.args.key) (sym c.put.ensures)
    (holds-claimed c.args.self.now c.next-slot.result c.args.key c.next-slot.ensures.there)
