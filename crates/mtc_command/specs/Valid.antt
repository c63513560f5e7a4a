-- The records that a command adds to a journal, by the rules of its party.
use Rattle.std.specs.Prelude.{◌≡◌, ◌⊎◌, List, [], ◌∷◌, ◌++◌, Option, IfSome}
use Rattle.byte_formats.specs.Types.{Text}
use Rattle.disk_core.specs.Times.{OnlyReads}
use Rattle.disk_core.specs.declared.disk.Disk.{Ghosts as Disks}
use Rattle.mtc_room.specs.declared.room.Room.{Ghosts as Rooms}
use Rattle.mtc_command.specs.Made.{Journaled, untouched, reads, appended, started, HasKept, Leaves}
use Rattle.mtc_command.specs.Made.{ReadsAtMost, device_contents}
use Rattle.mtc_command.specs.Served.{OfEach, done_with}
use Rattle.mtc_command.specs.Steps.{Outcome}
use Rattle.mtc_command.specs.Works.{journaled_by}

-- The records with the one that is added, or the first one of a new journal, follow these rules.
abbrev pub AddsValid : (List Text → Type 0) → Journaled → Type 0
AddsValid Valid untouched = Unit {0}
AddsValid Valid (reads list) = Unit {0}
AddsValid Valid (appended list body) = Valid (list ++ body ∷ [])
AddsValid Valid (started body) = Valid (body ∷ [])

module _ {R S D : Type 0} (rooms : Rooms R S D) (disks : Disks D)
    (Valid : List Text → Type 0) where
  -- Nothing new is left of a journal, and it reads as before; or a record that follows the rules.
  abbrev pub LeavesValid : R → R → Text → Journaled → Type 0
  LeavesValid old new name did =
      (Leaves disks (HasKept did) (rooms.device old name) (rooms.device new name)
      × (device_contents disks (rooms.device new name)
      ≡ device_contents disks (rooms.device old name)))
      ⊎ AddsValid Valid did

  -- So a command that has to give this outcome has left the journals of these names.
  abbrev pub KeepsValid : List Text → Outcome → R → R → Type 0
  KeepsValid names wanted old new = rooms.is_modelled old
      → OfEach (LeavesValid old new) (done_with names wanted.journals)

module _ {D : Type 0} (g : Disks D)
    (Valid : List Text → Type 0) where
  -- The work on an open device, where these records were found, only read it, or its record follows
  -- the rules.
  abbrev pub WorksValidly : Option (List Text) → (List Text → Outcome) → D → D → Type 0
  WorksValidly list says old new = ReadsAtMost g old new
      ⊎ IfSome list (λ records. AddsValid Valid (journaled_by (says records)))

  -- The same of a device that was opened, over its bytes.
  abbrev pub ServesValidly : (Text → Outcome) → D → D → Type 0
  ServesValidly says old new = OnlyReads g old new
      ⊎ IfSome (g.contents old) (λ bytes. AddsValid Valid (journaled_by (says bytes)))

  -- And over these and the bytes of the device beside it.
  abbrev pub ServesValidlyTiled : (Text → Text → Outcome) → D → D → D → Type 0
  ServesValidlyTiled says old new tiles =
      IfSome (g.contents tiles) (λ held. ServesValidly (λ bytes. says bytes held) old new)
