use Rattle.disk_core.proofs.Times.{nothing_read}
use Rattle.journal_core.proofs.held.hold.Goals as goal

pub returns-then-place-count-clause-only_reads : goal.returns-then-place-count-clause-only_reads
returns-then-place-count-clause-only_reads g c = nothing_read g.D.Disk _ (g.met.D.Disk.only_now _)
