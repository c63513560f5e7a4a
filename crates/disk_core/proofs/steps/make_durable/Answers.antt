use Rattle.std.proofs.Common.{sym, le_of_eq}
use Rattle.disk_core.proofs.Times.{one_read}
use Rattle.disk_core.proofs.steps.make_durable.Goals as goal

pub returns-clause-only_reads : goal.returns-clause-only_reads
returns-clause-only_reads g c =
    one_read g.D.Disk _ _ c.sync.ensures.contents c.sync.ensures.crash c.sync.ensures.time
    (le_of_eq (sym c.sync.ensures.known)) c.sync.ensures.cause.later
    (g.met.D.Disk.only_now _)
