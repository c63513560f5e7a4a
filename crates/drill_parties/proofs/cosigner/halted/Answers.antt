use Rattle.std.proofs.Common.{◌∙◌, ap, subst}
use Rattle.disk_core.specs.Fuse.{inner_of}
use Rattle.disk_core.specs.Memory.{crash_states_of}
use Rattle.disk_core.specs.declared.memory.mem_disk.MemDisk.{MemDisk}
use Rattle.drill_parties.proofs.LeftAfter.{cosigner_left}
use Rattle.drill_parties.proofs.cosigner.halted.Goals as goal

pub returns : goal.returns
returns g c =
    λ s list is. cosigner_left g.H.TreeHash.hash (crash_states_of c.into_inner-left.result)
    c.args.call.now c.args.cosigner c.call_cosigner.new.cosigner c.call_cosigner.new.out
    c.in_ok-done.done s list
    (λ x there. subst (λ (m : MemDisk). crash_states_of m x)
    (c.into_inner-left.ensures ∙ ap inner_of c.into_disk.ensures) there) is c.in_ok-done.ensures
