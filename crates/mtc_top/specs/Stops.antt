-- Stops that leave these bytes of one file.
use Rattle.std.specs.Prelude.{◌≡◌, ◌≢◌}
use Rattle.byte_formats.specs.Types.{HashFunction, Text}
use Rattle.mtc_top.specs.Executions.{program}
use Rattle.disk_core.specs.declared.disk.Disk.{Ghosts as Disks}
use Rattle.mtc_io.specs.declared.sink.Sink.{Ghosts as Sinks}
use Rattle.mtc_room.specs.declared.room.Room.{Ghosts as Rooms}
use Rattle.file_events.specs.Worlds.{LeavesStopped, states_of}

module _ {R S D O E : Type 0} (h : HashFunction) (rooms : Rooms R S D) (disks : Disks D)
    (outs : Sinks O) (errs : Sinks E) (May : Text → Text → Type 0) (name : Text) where
  -- Each file but this one has one crash state, which is one that may be left of it.
  abbrev pub OthersAreDurable : R → Type 0
  OthersAreDurable room = (other : Text) → other ≢ name → (c : Text) × (May other c
      × ((d : Text) → states_of (program h rooms disks outs errs) other room d → d ≡ c))

  -- If these bytes may be left of this file, and the others have one crash state each, the machine
  -- has stopped, and of this file it has left them.
  abbrev pub StopsLeaving : Text → R → R → Type 0
  StopsLeaving left old new = May name left → OthersAreDurable old
      → LeavesStopped (program h rooms disks outs errs) May old new
      × ((c : Text) → states_of (program h rooms disks outs errs) name new c → c ≡ left)
