-- The work of a command on any number of devices: those of its journals, and of the files beside
-- them.
use Rattle.std.specs.Prelude.{◌≡◌, ◌≢◌, ◌⊎◌, Bool, true, false, not, List, [], ◌∷◌, IsSome, Some}
use Rattle.byte_formats.specs.Types.{Text}
use Rattle.mtc_io.specs.Counts.{Rose}
use Rattle.disk_core.specs.declared.disk.Disk.{Ghosts}
use Rattle.mtc_room.specs.Places.{place_of}
use Rattle.mtc_room.specs.declared.room.Room.{Ghosts as Rooms}
use Rattle.mtc_command.specs.Answers.{Ending, replied, room_failed, no_memory, IfReply, IsEarly}
use Rattle.mtc_command.specs.Answers.{status_of}
use Rattle.mtc_command.specs.Endings.{IsNamed, LeftBy}
use Rattle.mtc_command.specs.Made.{Journaled, Leaves, untouched}
use Rattle.mtc_command.specs.Served.{ClosesAll, HasDone, OfEach, done_with, first_journaled}
use Rattle.mtc_command.specs.Served.{rest_journaled}
use Rattle.mtc_command.specs.Steps.{Files, Outcome, held_in}
use Rattle.mtc_command.specs.Wanted.{Meets}
use Rattle.mtc_command.specs.Works.{HasClosed, HasOpenedBeside}

-- A device that was opened for the file of this name, before the work and after it; and whether the
-- file is a journal.
pub record Device (D : Type 0) : Type 0 where
  pub journal : Bool
  pub name : Text
  pub before : D
  pub after : D

-- ---- their names

abbrev pub named_if : Bool → Text → List Text → List Text
named_if true name names = name ∷ names
named_if false name names = names

-- The names of the journals, and of the other files, in their order.
abbrev pub device_journals : {D : Type 0} → List (Device D) → List Text
device_journals [] = []
device_journals (device ∷ rest) = named_if device.journal device.name (device_journals rest)

abbrev pub device_besides : {D : Type 0} → List (Device D) → List Text
device_besides [] = []
device_besides (device ∷ rest) =
    named_if (not device.journal) device.name (device_besides rest)

-- ---- what is so of each

abbrev pub EachDevice : {D : Type 0} → (Device D → Type 0) → List (Device D) → Type 0
EachDevice P [] = Unit {0}
EachDevice P (device ∷ rest) = P device × EachDevice P rest

abbrev pub SomeDevice : {D : Type 0} → (Device D → Type 0) → List (Device D) → Type 0
SomeDevice P [] = ⊥
SomeDevice P (device ∷ rest) = P device ⊎ SomeDevice P rest

-- This holds if the file is a journal.
abbrev pub IfJournal : Bool → Type 0 → Type 0
IfJournal true P = P
IfJournal false P = Unit {0}

-- The names of two places.
abbrev pub IsElsewhere : {D : Type 0} → (Text → Text) → Text → Device D → Type 0
IsElsewhere leads_to name device = place_of leads_to name ≢ place_of leads_to device.name

-- No two are of one place.
abbrev pub AllDiffer : {D : Type 0} → (Text → Text) → List (Device D) → Type 0
AllDiffer leads_to [] = Unit {0}
AllDiffer leads_to (device ∷ rest) =
    EachDevice (IsElsewhere leads_to device.name) rest × AllDiffer leads_to rest

-- ---- the work

-- What is done with the journals after one of these.
abbrev pub rest_if : Bool → List Journaled → List Journaled
rest_if true dids = rest_journaled dids
rest_if false dids = dids

module _ {D : Type 0} (g : Ghosts D) where
  -- These are the files that the devices read as. A file that wasn't there is empty.
  abbrev pub AreHeld : Files → List (Device D) → Type 0
  AreHeld files =
      EachDevice (λ device. g.contents device.before ≡ Some (held_in (files device.name)))

  -- A failure is one of the device of the file that is named.
  abbrev pub FailsAmong : List (Device D) → Ending → Type 0
  FailsAmong devices (replied reply) = Unit {0}
  FailsAmong devices (room_failed file) = SomeDevice
      (λ device. (file ≡ device.name) × Rose (g.faults device.before) (g.faults device.after))
      devices
  FailsAmong devices no_memory = Unit {0}

  -- What the work leaves of each journal.
  abbrev pub LeavesDevices : Ending → List (Device D) → List Journaled → Type 0
  LeavesDevices ending [] dids = Unit {0}
  LeavesDevices ending (device ∷ rest) dids =
      IfJournal device.journal (Leaves g (LeftBy ending (first_journaled dids))
      (Some device.before) (Some device.after))
      × LeavesDevices ending rest (rest_if device.journal dids)

  -- The work on devices that were opened, which has to give the outcome of the files that they read
  -- as.
  pub record HasWorkedOver (outcome : Files → Outcome) (devices : List (Device D))
      (ending : Ending) : Type 0 where
    pub plain : IfReply ending (λ reply. status_of reply ≢ 1)
    pub fault : FailsAmong devices ending
    pub reply : IfReply ending (λ reply. (files : Files) → AreHeld files devices
        → Meets (outcome files).answer reply)
    pub left : (files : Files) → AreHeld files devices
        → LeavesDevices ending devices (outcome files).journals
    pub early : IfReply ending (λ reply. (files : Files) → AreHeld files devices
        → OfEach (λ name did. did ≡ untouched → IsEarly (status_of reply))
        (done_with (device_journals devices) (outcome files).journals))

-- ---- the files

module _ {R S D : Type 0} (rooms : Rooms R S D) (g : Ghosts D) where
  -- They were opened in their order, and closed in the opposite one. In between only the files at
  -- the places of these names may have changed.
  abbrev pub OpensAround : List Text → List (Device D) → R → R → Type 0
  OpensAround names [] old new = ClosesAll rooms old new names
  OpensAround names (device ∷ rest) old new = (mid : R) × (kept : R)
      × HasOpenedBeside rooms g device.name old mid device.before
      × OpensAround names rest mid kept × HasClosed rooms g device.name kept new device.after

  -- In between nothing changed.
  abbrev pub OpensEach : List (Device D) → R → R → Type 0
  OpensEach = OpensAround []

  -- Each journal is there.
  abbrev pub AreThere : R → List (Device D) → Type 0
  AreThere old =
      EachDevice (λ device. IfJournal device.journal (IsSome (rooms.file old device.name)))

  -- A command that opened devices, among those that it names, worked on them and closed them has
  -- done what the outcome of the files wants. If the model knows the files, the devices have to be
  -- of different places, and the journals there.
  abbrev pub DevicesServe : Type 0
  DevicesServe = (files : List Text) (outcome : Files → Outcome) (devices : List (Device D))
      (old new : R) (ending : Ending)
      → (rooms.is_modelled old → AllDiffer rooms.leads_to devices × AreThere old devices)
      → EachDevice (λ device. IsNamed files device.name) devices → OpensEach devices old new
      → HasWorkedOver g outcome devices ending
      → HasDone rooms g ⊥ files (device_journals devices) (device_besides devices)
      (outcome (rooms.file old)) old new ending
