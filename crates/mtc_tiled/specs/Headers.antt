-- What is known of a journal whose header was read, and what stays where a file has no such header.
use Rattle.std.specs.Prelude.{◌≡◌, ◌≢◌, Option, None, Some, take}
use Rattle.byte_formats.specs.Types.{Text}
use Rattle.disk_core.specs.Times.{OnlyReads}
use Rattle.disk_core.specs.declared.disk.Disk.{Ghosts}
use Rattle.journal_core.specs.Format.{header}
use Rattle.mtc_room.specs.Room.{Stays}
use Rattle.mtc_room.specs.declared.room.Room.{Ghosts as Rooms}
use Rattle.mtc_command.specs.Answers.{tiles_name}
use Rattle.mtc_command.specs.Works.{HasOpened}

-- The file isn't there, or doesn't begin with the header of a journal.
abbrev pub IsNoJournal : Option Text → Type 0
IsNoJournal None = Unit {0}
IsNoJournal (Some bytes) = take 16 bytes ≢ header

-- If the file of this name is no journal, the file of its tiles stays as it was, and isn't made.
abbrev pub SparesTiles : {R S D : Type 0} → Rooms R S D → R → R → Text → Type 0
SparesTiles rooms old new journal = rooms.is_modelled old → IsNoJournal (rooms.file old journal)
    → Stays (rooms.file old) (rooms.file new) (rooms.device old) (rooms.device new)
    (tiles_name journal)

-- The device of the journal was opened, and has only been read since, without a failure.
pub record HasReadHeader {R S D : Type 0} (rooms : Rooms R S D) (g : Ghosts D) (name : Text)
    (old new : R) (disk : D) : Type 0 where
  pub opened_disk : D
  pub opened : HasOpened rooms g name old new opened_disk
  pub only_reads : OnlyReads g opened_disk disk
  pub fine : g.faults disk ≡ g.faults opened_disk
