-- Records of a journal that are copied.
use Rattle.std.specs.Prelude.{◌≡◌, ℕ, ◌++◌, List, length, Option, Result, Ok, Err}
use Rattle.std.specs.Io.KnownBytes.{Appends}
use Rattle.std.specs.List.{flat_map}
use Rattle.std.specs.Int.{w32, to_be_bytes}
use Rattle.byte_formats.specs.Types.{Text}
use Rattle.mtc_io.specs.Counts.{Rose}
use Rattle.disk_core.specs.Times.{OnlyReads}
use Rattle.disk_core.specs.declared.disk.Disk.{Ghosts}
use Rattle.journal_core.specs.Words.{disk_of, end_of, is_broken, records}
use Rattle.journal_core.specs.declared.error.CopyError.{CopyError}
use Rattle.journal_core.specs.declared.error.CopyError.TheVariants.{Read, Write}
use Rattle.journal_core.specs.declared.journal.Journal.{Journal}

-- the bytes taken grow by some bytes
abbrev pub AppendsSome : Option Text → Option Text → Type 0
AppendsSome old new = (bs : Text) × Appends old new bs

-- a body after its length of four bytes, the highest first
abbrev pub sized : Text → Text
sized body = to_be_bytes w32 (length body) ++ body

-- bodies, each after its length
abbrev pub sized_text : List Text → Text
sized_text bodies = flat_map sized bodies

-- The counts of failures of the disk and of the sink, before a call and after it. An error comes
-- only where the count of its object rose, and no other count did.
abbrev pub HasCopyCause : {T : Type 0} → ℕ → ℕ → ℕ → ℕ → Result T CopyError → Type 0
HasCopyCause disk sink read written (Ok x) = (read ≡ disk) × (written ≡ sink)
HasCopyCause disk sink read written (Err Read) = Rose disk read × (written ≡ sink)
HasCopyCause disk sink read written (Err Write) = (read ≡ disk) × Rose sink written

module _ {D : Type 0} {g : Ghosts D} where
  -- the disk of a journal was only read, and the journal is as it was
  pub record IsOnlyRead (old new : Journal D g) : Type 0 where
    pub list : records new ≡ records old
    pub end : end_of new ≡ end_of old
    pub broken : is_broken new ≡ is_broken old
    pub only_reads : OnlyReads g (disk_of old) (disk_of new)
