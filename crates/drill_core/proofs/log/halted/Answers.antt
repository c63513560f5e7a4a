use Rattle.std.proofs.Common.{◌∙◌, ap, subst}
use Rattle.disk_core.specs.Fuse.{inner_of}
use Rattle.disk_core.specs.Memory.{crash_states_of}
use Rattle.disk_core.specs.declared.memory.mem_disk.MemDisk.{MemDisk}
use Rattle.drill_core.proofs.LeftAfter.{log_left}
use Rattle.drill_core.proofs.log.halted.Goals as goal

pub returns : goal.returns
returns g c = λ s is. log_left g.H.TreeHash.hash (crash_states_of c.into_inner-left.result)
    c.args.call.now c.args.log c.call_log.new.log _ s
    (λ x there. subst (λ (m : MemDisk). crash_states_of m x)
    (c.into_inner-left.ensures ∙ ap inner_of c.into_disks-fuse.ensures.journal) there) is
    c.in_ok-done.ensures
