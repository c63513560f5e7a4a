-- The device of a cosigner that was read goes to the caller.
use Rattle.std.proofs.Common.{◌≡◌, ◌∙◌, sym, subst, ap}
use Rattle.byte_formats.specs.Types.{HashFunction}
use Rattle.disk_core.specs.declared.memory.mem_disk.MemDisk.{MemDisk}
use Rattle.tree_core.specs.declared.hashing.TreeHash.{Ghosts as Hashes}
use Rattle.cosigner_core.specs.Folds.{CosignerState}
use Rattle.cosigner_core.specs.Words.{cosigner_disk}
use Rattle.drill_parties.specs.CosignerParties.{IsCosignerDisk}
use Rattle.drill_parties.specs.CosignerViews.{IsDiskOf, IsStill, cosigner_shown}
use Rattle.drill_parties.specs.Disks.{FailsNone, records_on}
use Rattle.drill_parties.specs.declared.cosigner_party.CosignerParty.{CosignerParty}

pub output : {H : Type 0} {hashes : Hashes H} (h : HashFunction) (old new : CosignerParty H hashes)
    (disk : MemDisk) → IsCosignerDisk h (cosigner_shown new) (cosigner_disk new.cosigner)
    → IsStill old new → disk ≡ cosigner_disk new.cosigner → FailsNone disk
    → IsDiskOf h old disk
output h old new disk stands still same none = record {
  stands = subst (λ (s : CosignerState). IsCosignerDisk h s disk) still.state
      (subst (λ (d : MemDisk). IsCosignerDisk h (cosigner_shown new) d) (sym same) stands);
  records = ap records_on same ∙ still.records;
  fails_none = none;
}
