use Rattle.disk_core.specs.Writes.{torn_none}
use Rattle.disk_core.proofs.Times.{started, continues}
use Rattle.disk_core.proofs.steps.write_synced.Goals as goal

pub returns-in_err-write_at-clause-any_time : goal.returns-in_err-write_at-clause-any_time
returns-in_err-write_at-clause-any_time g c =
    continues g.D.Disk _ _ _ _
    (started g.D.Disk _ _ (g.met.D.Disk.only_now _) (λ i is. (i, is, torn_none _ _ i)))
    c.write_at.ensures.time c.write_at.ensures.crash

pub returns-clause-any_time : goal.returns-clause-any_time
returns-clause-any_time g c =
    continues g.D.Disk _ _ _ _
    (continues g.D.Disk _ _ _ _
    (started g.D.Disk _ _ (g.met.D.Disk.only_now _) (λ i is. (i, is, torn_none _ _ i)))
    c.write_at.ensures.time c.write_at.ensures.crash)
    c.sync.ensures.time (λ i left. c.write_at.ensures.crash i (c.sync.ensures.crash i left))
