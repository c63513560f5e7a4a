-- The disk of a cosigner that has grown by a record.
use Rattle.std.proofs.Common.{◌≡◌, List, Ok, sym, subst}
use Rattle.byte_formats.specs.Types.{Text, HashFunction}
use Rattle.disk_core.specs.Memory.{bytes_of, crash_states_of}
use Rattle.disk_core.specs.declared.memory.mem_disk.MemDisk.{MemDisk}
use Rattle.journal_core.specs.Format.{Represents}
use Rattle.journal_core.proofs.Records.{records_of-stands}
use Rattle.cosigner_core.specs.Folds.{CosignerState, cosigner_of}
use Rattle.drill_parties.specs.CosignerParties.{IsCosignerDisk}
use Rattle.drill_parties.specs.Disks.{records_on}

-- the records of a disk whose crash states represent these
pub records_grown : (disk : MemDisk) (list : List Text) → crash_states_of disk (bytes_of disk)
    → ((c : Text) → crash_states_of disk c → Represents c list) → records_on disk ≡ list
records_grown disk list reads crash_states =
    records_of-stands (bytes_of disk) list (crash_states (bytes_of disk) reads)

-- a disk whose crash states represent records that make this cosigner
pub is_disk : (h : HashFunction) (s : CosignerState) (disk : MemDisk) (list : List Text)
    → crash_states_of disk (bytes_of disk)
    → ((c : Text) → crash_states_of disk c → Represents c list)
    → cosigner_of h list ≡ Ok s → IsCosignerDisk h s disk
is_disk h s disk list reads crash_states valid =
    let same : list ≡ records_on disk = sym (records_grown disk list reads crash_states) in
    record {
      holds = subst (λ (l : List Text). Represents (bytes_of disk) l) same
          (crash_states (bytes_of disk) reads);
      crash_states = λ c is. subst (λ (l : List Text). Represents c l) same (crash_states c is);
      valid = subst (λ (l : List Text). cosigner_of h l ≡ Ok s) same valid;
    }
