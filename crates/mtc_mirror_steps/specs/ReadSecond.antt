-- What a command leaves of a second journal and of the file of its tiles, which it opened while a
-- first journal was open, and only read.
use Rattle.std.specs.Prelude.{◌≡◌, [], ◌∷◌}
use Rattle.byte_formats.specs.Types.{Text}
use Rattle.disk_core.specs.declared.disk.Disk.{Ghosts}
use Rattle.mtc_room.specs.declared.room.Room.{Ghosts as Rooms}
use Rattle.mtc_command.specs.Answers.{tiles_name}
use Rattle.mtc_command.specs.Made.{HasKept, Leaves, device_contents, untouched}
use Rattle.mtc_command.specs.Served.{ClosesAll, OnlyReadsBeside}
use Rattle.mtc_tiled.specs.Headers.{SparesTiles}

module _ {R S D : Type 0} (rooms : Rooms R S D) (g : Ghosts D) (journal : Text) (old new : R) where
  -- Where the model knows the files, a crash leaves nothing new of the journal, which reads as
  -- before.
  pub record OnlyReadsJournal : Type 0 where
    pub leaves : Leaves g (HasKept untouched) (rooms.device old journal) (rooms.device new journal)
    pub contents : device_contents g (rooms.device new journal)
        ≡ device_contents g (rooms.device old journal)

  -- All that was opened is closed. Of the journal nothing new is left, nor of the file of its
  -- tiles, which isn't made beside what is no journal.
  pub record HasOnlyRead : Type 0 where
    pub closes : ClosesAll rooms old new (tiles_name journal ∷ journal ∷ [])
    pub journal_stays : rooms.is_modelled old → OnlyReadsJournal
    pub only_read : OnlyReadsBeside rooms g old new (tiles_name journal)
    pub spares : SparesTiles rooms old new journal
