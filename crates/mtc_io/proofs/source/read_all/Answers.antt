use Rattle.std.proofs.KnownBytes.{Consumes-trans}
use Rattle.mtc_io.proofs.source.read_all.Goals as goal

pub returns-then-count-limit-clause-rest : goal.returns-then-count-limit-clause-rest
returns-then-count-limit-clause-rest g c =
    (_, Consumes-trans _ _ _ _ _ c.loop-bytes.invariant.gave c.in_ok-count.ensures.bytes.0)

pub returns-in_err-append-clause-rest : goal.returns-in_err-append-clause-rest
returns-in_err-append-clause-rest g c =
    (_, Consumes-trans _ _ _ _ _ c.loop-bytes.invariant.gave c.in_ok-count.ensures.bytes.0)
