-- What a command on two journals leaves of both at once.
use Rattle.std.specs.Prelude.{◌⊎◌, [], ◌∷◌}
use Rattle.disk_core.specs.Disk.{NoNew}
use Rattle.disk_core.specs.declared.disk.Disk.{Ghosts as Disks}
use Rattle.mtc_room.specs.declared.room.Room.{Ghosts as Rooms}
use Rattle.file_events.specs.Worlds.{states_at}
use Rattle.mtc_command.specs.Served.{Journals}
use Rattle.mtc_command.specs.Stored.{MayRepresent}

module _ {R S D : Type 0} (rooms : Rooms R S D) (disks : Disks D) (old new : R) where
  -- Nothing new is left of the first journal, or each crash state of the second one represents the
  -- records that were found in it, where it was opened.
  abbrev pub SecondStands : Journals → Type 0
  SecondStands [] = Unit {0}
  SecondStands (first ∷ []) = Unit {0}
  SecondStands (first ∷ (second ∷ rest)) =
      NoNew (states_at disks (rooms.device old first.0))
      (states_at disks (rooms.device new first.0))
      ⊎ MayRepresent second.1 (states_at disks (rooms.device new second.0))
