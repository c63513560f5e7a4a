use Rattle.std.proofs.Common.{sym, le_of_eq}
use Rattle.disk_core.proofs.Times.{one_read}
use Rattle.disk_core.proofs.steps.read_part.Goals as goal

pub returns-clause-only_reads : goal.returns-clause-only_reads
returns-clause-only_reads g c =
    one_read g.D.Disk _ _ c.read_at.ensures.contents c.read_at.ensures.crash c.read_at.ensures.time
    (le_of_eq (sym c.read_at.ensures.known)) c.read_at.ensures.cause.later
    (g.met.D.Disk.only_now _)
