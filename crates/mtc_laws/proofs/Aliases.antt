-- Words for the program's executions, over its files and outputs one by one.
use Rattle.std.proofs.Common.{◌≡◌, true, List}
use Rattle.byte_formats.specs.Types.{HashFunction, Text}
use Rattle.mtc_top.specs.Executions.{program, owner, Run, FileEvent}
use Rattle.disk_core.specs.declared.disk.Disk.{Ghosts as Disks}
use Rattle.file_events.specs.Events.{CrashStates, Event, MayRecover, EventHolds}
use Rattle.file_events.specs.Worlds.{is_heard, Program, EachRun, IsFileExecution, own_events}
use Rattle.file_events.specs.Worlds.{states_of, states_between, FileOwner}
use Rattle.file_events.specs.Owners.{did_to}
use Rattle.mtc_io.specs.declared.sink.Sink.{Ghosts as Sinks}
use Rattle.mtc_room.specs.Places.{place_of}
use Rattle.mtc_room.specs.Room.{ModelsFile}
use Rattle.mtc_room.specs.declared.room.Room.{Ghosts as Rooms}
use Rattle.mtc_command.specs.Made.{Journaled}

module _ {R S D O E : Type 0} (h : HashFunction) (rooms : Rooms R S D) (disks : Disks D)
    (outs : Sinks O) (errs : Sinks E) where
  abbrev pub Its : Program
  Its = program h rooms disks outs errs

  abbrev pub IsRun : R → Run R O E → Type 0
  IsRun old run = Its.HasRun old run

  abbrev pub DidWith : R → Run R O E → Text → Journaled → Type 0
  DidWith old run name did = did_to Its name old run ≡ did

  abbrev pub owner_of : Text → FileOwner Its
  owner_of = owner h Its

  abbrev pub crash_states_in : R → Text → CrashStates
  crash_states_in room name = states_of Its name room

  abbrev pub crash_states_from : R → R → Text → CrashStates
  crash_states_from old room name = states_between Its name old room

  abbrev pub IsOwnExecution : Text → R → List (FileEvent R O E) → R → Type 0
  IsOwnExecution name = IsFileExecution Its (owner_of name)

  abbrev pub journal_events : Text → R → List (FileEvent R O E) → List Event
  journal_events name = own_events Its (owner_of name)

  abbrev pub HasHeld : Text → R → Run R O E → List Text → Type 0
  HasHeld name old run list = EventHolds list ((owner_of name).run_event old run)

  abbrev pub EachOwnRun : (R → Run R O E → Type 0) → R → List (FileEvent R O E) → Type 0
  EachOwnRun = EachRun Its

  abbrev pub IsRecovered : Text → R → List Text → Type 0
  IsRecovered name room = MayRecover (crash_states_in room name)

-- What the model knows of the files: those of their devices, and that names of one place have one.
abbrev pub ModelsFiles : {R S D : Type 0} → Rooms R S D → Disks D → Type 0
ModelsFiles {R} {S} {D} rooms disks = ((room : R) (name : Text) → rooms.is_modelled room
    → ModelsFile disks.contents (rooms.file room name) (rooms.device room name))
    × ((room : R) (one other : Text) → rooms.is_modelled room
    → place_of rooms.leads_to one ≡ place_of rooms.leads_to other
    → rooms.device room one ≡ rooms.device room other)

-- as `heard_of`, over an output
abbrev pub IsHeard : {R O E : Type 0} → Sinks O → Run R O E → Type 0
IsHeard outs run = is_heard run.status (outs.taken run.out) (outs.taken run.out_after) ≡ true
