-- A cosigner of a drill as its state, the records on its disk, and the stops in its calls.
use Rattle.std.specs.Prelude.{◌≡◌, ℕ, List, length, drop, Ok, Some}
use Rattle.byte_formats.specs.Types.{HashFunction, Text}
use Rattle.disk_core.specs.declared.memory.mem_disk.MemDisk.{MemDisk}
use Rattle.tree_core.specs.declared.hashing.TreeHash.{Ghosts as Hashes}
use Rattle.cosigner_core.specs.Folds.{CosignerState}
use Rattle.cosigner_core.specs.ExportReading.{export_in, export_of}
use Rattle.cosigner_core.specs.Progress.{steps_in}
use Rattle.cosigner_core.specs.Words.{cosigner_disk, cosigner_state}
use Rattle.cosigner_core.specs.declared.step.Step.{Step}
use Rattle.drill_parties.specs.CosignerParties.{IsCosignerDisk}
use Rattle.drill_parties.specs.Disks.{FailsNone, records_on}
use Rattle.drill_parties.specs.declared.cosigner_party.CosignerParty.{CosignerParty}

-- what a cosigner of a drill shows
abbrev pub cosigner_shown : {H : Type 0} {hashes : Hashes H} → CosignerParty H hashes
    → CosignerState
cosigner_shown party = cosigner_state party.cosigner

-- the records of its journal
abbrev pub records_shown : {H : Type 0} {hashes : Hashes H} → CosignerParty H hashes → List Text
records_shown party = records_on (cosigner_disk party.cosigner)

-- how many stops were made in its calls
abbrev pub cosigner_stops : {H : Type 0} {hashes : Hashes H} → CosignerParty H hashes → ℕ
cosigner_stops party = length party.stops.made.items

-- The cosigner shows what it showed, with the same records, and no stop was made.
pub record IsStill {H : Type 0} {hashes : Hashes H} (old new : CosignerParty H hashes) :
    Type 0 where
  pub state : cosigner_shown new ≡ cosigner_shown old
  pub records : records_shown new ≡ records_shown old
  pub stops : cosigner_stops new ≡ cosigner_stops old

-- The bytes are read as what the cosigner shows and the steps that its records say.
abbrev pub IsExportOf : {H : Type 0} {hashes : Hashes H} → HashFunction → CosignerParty H hashes
    → Text → Type 0
IsExportOf h party text = (steps : List Step) → steps_in (drop 1 (records_shown party)) ≡ Some steps
    → export_in h text ≡ Ok (Some (export_of (cosigner_shown party) steps))

-- The disk of a cosigner that the caller gets. It holds the records of the party.
pub record IsDiskOf {H : Type 0} {hashes : Hashes H} (h : HashFunction)
    (party : CosignerParty H hashes) (disk : MemDisk) : Type 0 where
  pub stands : IsCosignerDisk h (cosigner_shown party) disk
  pub records : records_on disk ≡ records_shown party
  pub fails_none : FailsNone disk
