-- The ends of a journal. A journal ends after the closed commit byte that follows its records; an
-- earlier end lies after what is the commit byte of a record by now.
use Rattle.std.specs.Prelude.{◌≡◌, ℕ, ◌+◌, ◌-◌, List, Option, option_map}
use Rattle.std.proofs.Props.{props}
use Rattle.byte_formats.specs.Types.{Text}
use Rattle.disk_core.specs.declared.disk.Disk.{Ghosts}
use Rattle.journal_core.specs.Format.{AreRecordsAt, following, end_offset, records_before}
use Rattle.journal_core.specs.Durable.{AreRecordsAt-prop}
use Rattle.journal_core.specs.Words.{disk_of, end_of}
use Rattle.journal_core.specs.declared.journal.Journal.{Journal}

-- the records before an end
abbrev pub durable_of : ℕ → Text → List Text
durable_of end bytes = records_before bytes (end - 1)

-- they stand in the bytes, and this is the end after them
pub record AreDurable (end : ℕ) (bytes : Text) : Type 0 where
  pub there : AreRecordsAt bytes 16 (durable_of end bytes)
  pub last : end ≡ end_offset (durable_of end bytes)

-- it has one proof at most
pub AreDurable-prop : (end : ℕ) (bytes : Text) → IsProp (AreDurable end bytes)
AreDurable-prop end bytes = hlevel (props, AreRecordsAt-prop bytes 16 (durable_of end bytes))

-- from one end to another stand these records
abbrev pub StandBetween : Text → ℕ → ℕ → List Text → Type 0
StandBetween bytes from to list = AreRecordsAt bytes (from - 1) list
    × (to ≡ following (from - 1) list + 1)

-- The records before the end of a journal, in the bytes of its disk, as the model knows them. An
-- append that fails leaves the end where it was.
abbrev pub durable_records : {D : Type 0} {g : Ghosts D} → Journal D g → Option (List Text)
durable_records {D} {g} journal = option_map (durable_of (end_of journal))
    (g.contents (disk_of journal))
