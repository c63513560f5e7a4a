use Rattle.std.proofs.Common.{List, ℕ, IfSome, sym, ◌∙◌}
use Rattle.disk_core.specs.Disk.{Only}
use Rattle.disk_core.specs.Times.{OnlyReads}
use Rattle.disk_core.specs.declared.disk.Disk.{Ghosts}
use Rattle.disk_core.proofs.Times.{only_read_on}
use Rattle.journal_core.proofs.Modelled.{if_modelled, at_contents}
use Rattle.journal_core.proofs.opening.measure.Goals as goal

-- what a crash leaves after a sync and a read
durable_on : {D : Type 0} (g : Ghosts D) (old new : D) → OnlyReads g old new
    → IfSome (g.contents old) (λ b. Only b (g.may_leave old))
    → IfSome (g.contents new) (λ b. Only b (g.may_leave new))
durable_on g old new only_reads durable =
    if_modelled (λ (b : List ℕ). Only b (g.may_leave new)) (g.contents new)
    (λ b is. λ crash_state left. at_contents (λ (b : List ℕ). Only b (g.may_leave old))
    (g.contents old) b
    (sym only_reads.contents ∙ is) durable crash_state (only_reads.crash crash_state left))

pub returns-in_err-size-clause-only_reads : goal.returns-in_err-size-clause-only_reads
returns-in_err-size-clause-only_reads g c =
    only_read_on g.D.Disk _ _ _ c.make_durable.ensures.only_reads c.read_len.ensures.only_reads

pub returns-then-size-lt16-clause-only_reads : goal.returns-then-size-lt16-clause-only_reads
returns-then-size-lt16-clause-only_reads g c =
    only_read_on g.D.Disk _ _ _ c.make_durable.ensures.only_reads c.read_len.ensures.only_reads

pub returns-in_err-is_journal-clause-only_reads : goal.returns-in_err-is_journal-clause-only_reads
returns-in_err-is_journal-clause-only_reads g c =
    only_read_on g.D.Disk _ _ _ (only_read_on g.D.Disk _ _ _ c.make_durable.ensures.only_reads
    c.read_len.ensures.only_reads) c.read_header.ensures.only_reads

pub returns-then-is_journal-clause-only_reads : goal.returns-then-is_journal-clause-only_reads
returns-then-is_journal-clause-only_reads g c =
    only_read_on g.D.Disk _ _ _ (only_read_on g.D.Disk _ _ _ c.make_durable.ensures.only_reads
    c.read_len.ensures.only_reads) c.read_header.ensures.only_reads

pub returns-then-is_journal-clause-durable : goal.returns-then-is_journal-clause-durable
returns-then-is_journal-clause-durable g c =
    durable_on g.D.Disk _ _ (only_read_on g.D.Disk _ _ _ c.read_len.ensures.only_reads
    c.read_header.ensures.only_reads) c.in_ok-make_durable.ensures.durable

pub returns-else-is_journal-clause-only_reads : goal.returns-else-is_journal-clause-only_reads
returns-else-is_journal-clause-only_reads g c =
    only_read_on g.D.Disk _ _ _ (only_read_on g.D.Disk _ _ _ c.make_durable.ensures.only_reads
    c.read_len.ensures.only_reads) c.read_header.ensures.only_reads

pub returns-else-is_journal-clause-durable : goal.returns-else-is_journal-clause-durable
returns-else-is_journal-clause-durable g c =
    durable_on g.D.Disk _ _ (only_read_on g.D.Disk _ _ _ c.read_len.ensures.only_reads
    c.read_header.ensures.only_reads) c.in_ok-make_durable.ensures.durable
