-- The durable records of a cosigner's journal make it.
use Rattle.std.proofs.Common.{◌≡◌, Option, Some, None, IfSome, option_map, Ok, refl}
use Rattle.byte_formats.specs.Types.{HashFunction, Text}
use Rattle.disk_core.specs.declared.disk.Disk.{Ghosts}
use Rattle.journal_core.specs.Ends.{durable_of, durable_records}
use Rattle.journal_core.specs.Words.{disk_of, end_of}
use Rattle.journal_core.specs.declared.journal.Journal.{Journal}
use Rattle.cosigner_core.specs.Folds.{CosignerState, cosigner_of}
use Rattle.cosigner_core.specs.DurableRecords.{IsDurableAs}

pub made_of : {D : Type 0} {g : Ghosts D} (h : HashFunction) (s : CosignerState)
    (journal : Journal D g) → ((bytes : Text) → g.contents (disk_of journal) ≡ Some bytes
    → IsDurableAs h s (end_of journal) bytes)
    → IfSome (durable_records journal) (λ list. cosigner_of h list ≡ Ok s)
made_of {D} {g} h s journal keeps = go (g.contents (disk_of journal)) keeps
  where
    go : (contents : Option Text) → ((bytes : Text) → contents ≡ Some bytes
        → IsDurableAs h s (end_of journal) bytes)
        → IfSome (option_map (durable_of (end_of journal)) contents)
        (λ list. cosigner_of h list ≡ Ok s)
    go None kept = tt
    go (Some bytes) kept = (kept bytes refl).made
