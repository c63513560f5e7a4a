-- A cosigner of a drill that was only read.
use Rattle.std.proofs.Common.{◌≡◌, ◌∙◌, List, Some, Ok, sym, ap, subst, refl, drop}
use Rattle.std.proofs.lemmas.Option.{same_Some}
use Rattle.byte_formats.specs.Offsets.{IsBytes}
use Rattle.byte_formats.specs.Types.{Text, HashFunction}
use Rattle.disk_core.specs.Memory.{bytes_of, calls_of, crash_states_of}
use Rattle.disk_core.specs.ReplayLaws.{contents_are}
use Rattle.disk_core.specs.declared.memory.mem_disk.MemDisk.{MemDisk}
use Rattle.journal_core.specs.Format.{Represents, records_of}
use Rattle.cosigner_core.specs.ExportReading.{export_in, export_of}
use Rattle.cosigner_core.specs.Exports.{export_text}
use Rattle.cosigner_core.specs.Folds.{CosignerState, cosigner_of}
use Rattle.cosigner_core.specs.Progress.{steps_in}
use Rattle.cosigner_core.specs.declared.step.Step.{Step}
use Rattle.cosigner_core.proofs.ExportAgain.{export_again}
use Rattle.drill_parties.specs.CosignerParties.{IsCosignerDisk}
use Rattle.drill_parties.specs.Disks.{records_on}

-- a disk with the same bytes, which may leave nothing new
pub only_read_on : (h : HashFunction) (s t : CosignerState) (old new : MemDisk)
    → bytes_of new ≡ bytes_of old → ((c : Text) → crash_states_of new c → crash_states_of old c)
    → t ≡ s
    → IsCosignerDisk h s old → IsCosignerDisk h t new
only_read_on h s t old new bytes crash_states state is =
    let same : records_on new ≡ records_on old = ap records_of bytes in
    record {
      holds = subst (λ (b : Text). Represents b (records_of b)) (sym bytes) is.holds;
      crash_states = λ c there. subst (λ (list : List Text). Represents c list) (sym same)
          (is.crash_states c (crash_states c there));
      valid = ap (cosigner_of h) same ∙ is.valid ∙ ap Ok (sym state);
    }

module _ (h : HashFunction) (s : CosignerState) (disk : MemDisk) (is : IsCosignerDisk h s disk)
  where
    again : (steps : List Step) × (steps_in (drop 1 (records_on disk)) ≡ Some steps)
        × (export_in h (export_text s (records_on disk)) ≡ Ok (Some (export_of s steps)))
    again =
        let are : IsBytes (bytes_of disk) =
        contents_are disk.past.first (calls_of disk) (bytes_of disk) disk.past.are_bytes refl in
        let all = export_again h (bytes_of disk) (records_on disk) s are is.holds is.valid in
        (all.0, all.1, all.2)

    -- the records say steps
    pub steps_again : (steps : List Step) × (steps_in (drop 1 (records_on disk)) ≡ Some steps)
    steps_again = (again.0, again.1)

    -- what is exported is read as these
    pub reads_again : (steps : List Step) → steps_in (drop 1 (records_on disk)) ≡ Some steps
        → export_in h (export_text s (records_on disk)) ≡ Ok (Some (export_of s steps))
    reads_again steps said =
        let same : again.0 ≡ steps = same_Some again.0 steps (sym again.1 ∙ said) in
        again.2 ∙ ap (λ (x : List Step). Ok (Some (export_of s x))) same
