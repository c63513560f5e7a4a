use Rattle.std.proofs.Common.{◌≡◌, ◌∙◌, Some, sym, subst, ap}
use Rattle.disk_core.specs.declared.memory.mem_disk.MemDisk.{MemDisk}
use Rattle.cosigner_core.specs.Words.{cosigner_disk}
use Rattle.drill_parties.specs.CosignerParties.{IsCosignerDisk}
use Rattle.drill_parties.specs.CosignerViews.{cosigner_shown}
use Rattle.drill_parties.specs.Disks.{records_on}
use Rattle.drill_parties.proofs.cosigner.fused.Goals as goal

pub returns-clause-state : goal.returns-clause-state
returns-clause-state g c =
    let same : c.new-fuse.result.disk ≡ cosigner_disk c.args.party.cosigner =
    c.new-fuse.ensures.disk ∙ c.into_disk-disk.ensures.disk in
    let stands : IsCosignerDisk g.H.TreeHash.hash (cosigner_shown c.args.party)
    c.new-fuse.result.disk =
    subst (λ (d : MemDisk). IsCosignerDisk g.H.TreeHash.hash (cosigner_shown c.args.party) d)
    (sym same) c.args.party.stands in
    let found = c.in_ok-cosigner.ensures.found (records_on c.new-fuse.result.disk)
    (cosigner_shown c.args.party) stands.holds stands.valid in
    record {
      sound = c.in_ok-cosigner.ensures.sound;
      state = found.1;
      records = found.0 ∙ ap (λ (d : MemDisk). Some (records_on d)) same;
      valid = c.args.party.stands.valid;
    }
