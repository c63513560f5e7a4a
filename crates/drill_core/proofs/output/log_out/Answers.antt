use Rattle.std.proofs.Common.{◌∙◌, sym, subst, ap, length}
use Rattle.disk_core.specs.declared.memory.mem_disk.MemDisk.{MemDisk}
use Rattle.drill_core.specs.LogParties.{log_shown}
use Rattle.drill_core.specs.Parties.{IsLogDisk}
use Rattle.drill_core.proofs.output.log_out.Goals as goal

pub returns-clause-disk : goal.returns-clause-disk
returns-clause-disk g c =
    subst (λ (d : MemDisk). IsLogDisk g.H.TreeHash.hash (log_shown c.args.party) d)
    (sym (c.in_ok-disk.ensures.same ∙ c.into_disks-journal.ensures.journal)) c.args.party.stands

pub returns-clause-entries : goal.returns-clause-entries
returns-clause-entries g c = c.size_of-entries.ensures.value

pub returns-clause-landmarks : goal.returns-clause-landmarks
returns-clause-landmarks g c = ap length c.marks.ensures.value
