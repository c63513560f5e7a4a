-- The disks of a drill.
use Rattle.std.specs.Prelude.{◌≡◌, ℕ, Bool, true, false, List, [], length}
use Rattle.byte_formats.specs.Types.{Text}
use Rattle.disk_core.specs.Memory.{bytes_of, failing_of, failed_allocations_of}
use Rattle.disk_core.specs.declared.memory.mem_disk.MemDisk.{MemDisk}
use Rattle.journal_core.specs.Format.{records_of}
use Rattle.cosigner_core.specs.Counts.{indices_of}
use Rattle.cosigner_core.specs.declared.step.Step.{Step}
use Rattle.cosigner_core.specs.declared.step.Step.TheVariants.{Advance, Child, Sign}

-- the records of a disk in memory
abbrev pub records_on : MemDisk → List Text
records_on disk = records_of (bytes_of disk)

-- The disk lists no call that fails, and each call has found memory.
pub record FailsNone (disk : MemDisk) : Type 0 where
  pub none_listed : failing_of disk ≡ []
  pub no_failed_allocations : failed_allocations_of disk ≡ 0

-- the step is a Sign
abbrev pub is_sign : Step → Bool
is_sign (Advance size root proof) = false
is_sign (Sign index start end hash proof) = true
is_sign (Child child low) = false

-- how many records on the disk of a cosigner are Signs
abbrev pub signs_on : MemDisk → ℕ
signs_on disk = length (indices_of (records_on disk))
