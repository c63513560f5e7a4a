use Rattle.disk_core.proofs.Times.{only_read_on, nothing_read}
use Rattle.journal_core.proofs.record.read_record.Goals as goal

pub returns-then-place-size-clause-only_reads : goal.returns-then-place-size-clause-only_reads
returns-then-place-size-clause-only_reads g c = nothing_read g.D.Disk _ (g.met.D.Disk.only_now _)

pub returns-in_err-body-clause-only_reads : goal.returns-in_err-body-clause-only_reads
returns-in_err-body-clause-only_reads g c =
    only_read_on g.D.Disk _ _ _ c.read_commit_byte.ensures.only_reads c.read_body.ensures.only_reads

pub returns-clause-only_reads : goal.returns-clause-only_reads
returns-clause-only_reads g c =
    only_read_on g.D.Disk _ _ _ c.read_commit_byte.ensures.only_reads c.read_body.ensures.only_reads
