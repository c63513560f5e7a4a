-- What a command leaves that stops before its work, after it has opened some devices: it only read
-- them and closed them.
use Rattle.std.specs.Prelude.{◌≡◌, ◌≢◌, not, List, [], ◌∷◌, ◌++◌}
use Rattle.byte_formats.specs.Types.{Text}
use Rattle.mtc_io.specs.Counts.{Rose}
use Rattle.disk_core.specs.Times.{OnlyReads}
use Rattle.disk_core.specs.declared.disk.Disk.{Ghosts}
use Rattle.mtc_room.specs.declared.room.Room.{Ghosts as Rooms}
use Rattle.mtc_command.specs.Answers.{Ending, IfReply, IsEarly, status_of}
use Rattle.mtc_command.specs.Endings.{FailedOnly}
use Rattle.mtc_command.specs.Served.{HasDone, IsOther}
use Rattle.mtc_command.specs.Steps.{Outcome, answers}
use Rattle.command_plans.specs.Devices.{AreThere, Device, EachDevice, IfJournal, IsElsewhere}
use Rattle.command_plans.specs.Devices.{OpensAround}

-- This holds of each name.
abbrev pub EachName : (Text → Type 0) → List Text → Type 0
EachName P [] = Unit {0}
EachName P (name ∷ rest) = P name × EachName P rest

-- A journal has another place than these names, and than each of the other files.
abbrev pub IsApart : {D : Type 0} → (Text → Text) → List Text → List (Device D) → Text → Type 0
IsApart leads_to names devices journal = IsOther leads_to names journal
    × EachDevice (λ device. IfJournal (not device.journal) (IsElsewhere leads_to journal device))
    devices

module _ {R S D : Type 0} (rooms : Rooms R S D) (g : Ghosts D) where
  -- A command with these journals and other files opened devices of places among theirs, maybe more
  -- than one of one place, only read them and closed them. In between no more than files at the
  -- places of some names changed, as where one wasn't opened. If it replies as is wanted or stops
  -- at a failure, it has done what the outcome wants.
  abbrev pub StopsServe : Type 0
  StopsServe = (files journals besides names : List Text) (wanted : Outcome)
      (devices : List (Device D)) (old new : R) (ending : Ending)
      → (rooms.is_modelled old → AreThere rooms g old devices)
      → OpensAround rooms g names devices old new
      → EachDevice (λ device. OnlyReads g device.before device.after) devices
      → ((name : Text) → IsOther rooms.leads_to (besides ++ journals) name
      → IsOther rooms.leads_to names name
      × EachDevice (IsElsewhere rooms.leads_to name) devices)
      → EachName (IsApart rooms.leads_to names devices) journals
      → FailedOnly (Rose (rooms.faults old) (rooms.faults new)) files ending
      → IfReply ending (λ reply. (status_of reply ≢ 1) × IsEarly (status_of reply)
      × (rooms.is_modelled old → wanted ≡ answers reply))
      → HasDone rooms g ⊥ files journals besides wanted old new ending
