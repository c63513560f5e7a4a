use Rattle.std.proofs.Common.{arith}
use Rattle.tls_wire.proofs.ArcForm.{number_large}
use Rattle.tls_wire.proofs.arcs.base_128.Goals as goal

pub returns-then-n : goal.returns-then-n
returns-then-n c = number_large c.loop-rest.n c.loop-rest.rest.now _ (omega arith) (omega arith)
    c.loop-rest.invariant
