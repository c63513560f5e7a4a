-- What a command leaves of a journal and of the file beside it, at once: nothing new of either, or
-- the file goes with the records of the journal.
use Rattle.std.specs.Prelude.{◌≡◌, ◌⊎◌, List, IfSome}
use Rattle.byte_formats.specs.Types.{Text}
use Rattle.disk_core.specs.Times.{OnlyReads}
use Rattle.disk_core.specs.declared.disk.Disk.{Ghosts as Disks}
use Rattle.file_events.specs.Events.{CrashStates, StatesRepresent}
use Rattle.file_events.specs.Tiles.{LeavesTiles, stored}
use Rattle.file_events.specs.Worlds.{states_at}
use Rattle.journal_core.specs.Format.{RepresentsEither}
use Rattle.mtc_room.specs.declared.room.Room.{Ghosts as Rooms}
use Rattle.mtc_command.specs.Answers.{tiles_name}
use Rattle.mtc_command.specs.Endings.{IsNamed}
use Rattle.mtc_command.specs.Made.{HasKept, Journaled, Leaves, appended, device_contents, reads}
use Rattle.mtc_command.specs.Made.{started, untouched}
use Rattle.mtc_command.specs.Served.{OfEach, done_with}
use Rattle.mtc_command.specs.Steps.{Outcome}
use Rattle.mtc_command.specs.Valid.{AddsValid}
use Rattle.mtc_command.specs.Works.{journaled_by}

-- A journal on which the work had begun represents the records that were found, or these and the
-- one that is added.
abbrev pub MayRepresent : Journaled → CrashStates → Type 0
MayRepresent untouched now = Unit {0}
MayRepresent (reads list) now = StatesRepresent now list
MayRepresent (appended list body) now = (c : Text) → now c → RepresentsEither list body c
MayRepresent (started body) now = Unit {0}

-- Which bytes of the file go with which records, and which records a journal may have.
module _ (goes : List Text → Text → Type 0) (Valid : List Text → Type 0) where
  -- The work on both had begun. The record that is added follows the rules, and what is left of the
  -- file goes with the records that are left, with the new one wherever that is there.
  pub record StoresBoth (did : Journaled) (now beside beside' : CrashStates) : Type 0 where
    pub valid : AddsValid Valid did
    pub stands : MayRepresent did now
    pub left : LeavesTiles goes (λ list body. ⊥) stored did beside now beside'

  module _ {D : Type 0} (g : Disks D) where
    -- Both devices were only read, or the work on both had begun so.
    abbrev pub HasStoredBoth : Journaled → D → D → D → D → Type 0
    HasStoredBoth did old new tiles tiles' = (OnlyReads g old new × OnlyReads g tiles tiles')
        ⊎ StoresBoth did (g.may_leave new) (g.may_leave tiles) (g.may_leave tiles')

    -- The same of devices that were opened, by the outcome of the bytes of both.
    abbrev pub HasStoredOn : (Text → Text → Outcome) → D → D → D → D → Type 0
    HasStoredOn says old new tiles tiles' = IfSome (g.contents tiles) (λ held.
        IfSome (g.contents old) (λ bytes.
        HasStoredBoth (journaled_by (says bytes held)) old new tiles tiles'))

  module _ {R S D : Type 0} (rooms : Rooms R S D) (disks : Disks D) (old new : R) where
    -- Nothing new is left of the journal, which reads as before, nor of the file beside it.
    pub record KeepsBoth (name : Text) : Type 0 where
      pub journal : Leaves disks (HasKept untouched) (rooms.device old name)
          (rooms.device new name)
      pub contents : device_contents disks (rooms.device new name)
          ≡ device_contents disks (rooms.device old name)
      pub beside : Leaves disks (HasKept untouched) (rooms.device old (tiles_name name))
          (rooms.device new (tiles_name name))

    -- So it is, or the work on both had begun.
    abbrev pub LeavesBoth : Text → Journaled → Type 0
    LeavesBoth name did = KeepsBoth name
        ⊎ StoresBoth did (states_at disks (rooms.device new name))
        (states_at disks (rooms.device old (tiles_name name)))
        (states_at disks (rooms.device new (tiles_name name)))

    -- So a command that has to give this outcome has left the journals of these names, each with
    -- the file beside it, where that is one of those.
    abbrev pub StoresBeside : List Text → List Text → Outcome → Type 0
    StoresBeside names besides wanted = rooms.is_modelled old
        → OfEach (λ name did. IsNamed besides (tiles_name name) → LeavesBoth name did)
        (done_with names wanted.journals)
