-- The work of a command on the device of one journal: how it ends, and what it leaves.
use Rattle.std.specs.Prelude.{◌≡◌, ◌≢◌, ◌⊎◌, ◌≤◌, ◌+◌, List, [], ◌∷◌, Option, None, Some, IfSome}
use Rattle.std.specs.Prelude.{IsSome, codes, Result, Ok, Err}
use Rattle.std.specs.Option.{IsSomeAnd}
use Rattle.byte_formats.specs.Types.{Text}
use Rattle.mtc_io.specs.Counts.{Rose, with_count}
use Rattle.disk_core.specs.Times.{OnlyReads}
use Rattle.disk_core.specs.Same.{SameDevice}
use Rattle.disk_core.specs.declared.disk.Disk.{Ghosts}
use Rattle.journal_core.specs.Format.{Represents}
use Rattle.journal_core.specs.Starts.{IsNotStarted}
use Rattle.mtc_room.specs.Room.{AllStay, OpensBytes, OthersStay, Stays}
use Rattle.mtc_room.specs.declared.room.Room.{Ghosts as Rooms}
use Rattle.journal_core.specs.declared.error.StartError.{StartError}
use Rattle.journal_core.specs.declared.error.StartError.TheVariants.{Failed, Memory, NotEmpty}
use Rattle.mtc_command.specs.declared.answer.Said.TheVariants.{Done}
use Rattle.mtc_command.specs.declared.answer.Stopped.TheVariants.{Missing}
use Rattle.mtc_command.specs.Answers.{Ending, replied, room_failed, no_memory, said, refused}
use Rattle.mtc_command.specs.Answers.{IfReply, status_of, IsEarly, tiles_name}
use Rattle.mtc_command.specs.Endings.{AddsBy, FailedOnly, FailsAt, LeftBy}
use Rattle.mtc_command.specs.Made.{IsOpen, Journaled, Leaves, untouched}
use Rattle.mtc_command.specs.Served.{first_journaled}
use Rattle.mtc_command.specs.Steps.{Outcome}
use Rattle.mtc_command.specs.Wanted.{Meets}

-- What is done with the one journal of a command.
abbrev pub journaled_by : Outcome → Journaled
journaled_by wanted = first_journaled wanted.journals

module _ {D : Type 0} (g : Ghosts D) (name : Text) where
  -- What holds of each ending, whatever the bytes of the device: the arguments were a command's,
  -- and a failure is one of this journal's device.
  pub record HasFinished (old new : D) (ending : Ending) : Type 0 where
    pub plain : IfReply ending (λ reply. status_of reply ≢ 1)
    pub later : g.faults old ≤ g.faults new
    pub fault : FailedOnly (Rose (g.faults old) (g.faults new)) (name ∷ []) ending

  -- The work on an open device, where these records were found if the model knows them, which has
  -- to give the outcome of those records.
  pub record HasWorked (list : Option (List Text)) (says : List Text → Outcome)
      (old new : D) (ending : Ending) : Type 0 where
    pub ends : HasFinished old new ending
    pub reply : IfReply ending (λ reply. IfSome list (λ records. Meets (says records).answer reply))
    pub adds : IfSome list (λ records. IsOpen g old records
        → AddsBy g ending (journaled_by (says records)) old new)

  -- The work on a device that was opened, which has to give the outcome of its bytes.
  pub record HasWorkedOn (says : Text → Outcome) (old new : D) (ending : Ending) : Type 0 where
    pub ends : HasFinished old new ending
    pub reply : IfReply ending (λ reply. IfSome (g.contents old) (λ bytes.
        Meets (says bytes).answer reply))
    pub left : IfSome (g.contents old) (λ bytes.
        Leaves g (LeftBy ending (journaled_by (says bytes))) (Some old) (Some new))
    pub early : IfReply ending (λ reply. IfSome (g.contents old) (λ bytes.
        journaled_by (says bytes) ≡ untouched → IsEarly (status_of reply)))

module _ {D : Type 0} (g : Ghosts D) where
  -- What the work on a device that was opened has given, which has to give the outcome of its
  -- bytes.
  pub record HasGiven (says : Text → Outcome) (old new : D) (ending : Ending) : Type 0 where
    pub reply : IfReply ending (λ reply. IfSome (g.contents old) (λ bytes.
        Meets (says bytes).answer reply))
    pub left : IfSome (g.contents old) (λ bytes.
        Leaves g (LeftBy ending (journaled_by (says bytes))) (Some old) (Some new))
    pub early : IfReply ending (λ reply. IfSome (g.contents old) (λ bytes.
        journaled_by (says bytes) ≡ untouched → IsEarly (status_of reply)))

-- The same with the tiles of the journal on a second device: the device of the journal before the
-- work and after it, and so that of the tiles.
module _ {D : Type 0} (g : Ghosts D) (name : Text) where
  -- What holds of each ending, whatever the bytes of the devices: the arguments were a command's,
  -- and a failure is one of the device of the file that is named.
  pub record HasFinishedTiled (old new tiles tiles' : D) (ending : Ending) : Type 0 where
    pub plain : IfReply ending (λ reply. status_of reply ≢ 1)
    pub later : g.faults old ≤ g.faults new
    pub fault : FailsAt (Rose (g.faults old) (g.faults new)) name
        (Rose (g.faults tiles) (g.faults tiles')) (tiles_name name) ending

  -- The work on open devices, where these records were found if the model knows both, which has to
  -- give the outcome of those records.
  pub record HasWorkedTiled (list : Option (List Text)) (says : List Text → Outcome)
      (old new tiles tiles' : D) (ending : Ending) : Type 0 where
    pub ends : HasFinishedTiled old new tiles tiles' ending
    pub reply : IfReply ending (λ reply. IfSome list (λ records. Meets (says records).answer reply))
    pub adds : IfSome list (λ records. IsOpen g old records
        → AddsBy g ending (journaled_by (says records)) old new)

  -- The work on devices that were opened, which has to give the outcome of the bytes of both.
  pub record HasWorkedTiledOn (says : Text → Text → Outcome) (old new tiles tiles' : D)
      (ending : Ending) : Type 0 where
    pub ends : HasFinishedTiled old new tiles tiles' ending
    pub gives : IfSome (g.contents tiles) (λ held.
        HasGiven g (λ bytes. says bytes held) old new ending)

module _ {R S D : Type 0} (rooms : Rooms R S D) (g : Ghosts D) (name : Text) where
  -- The device of this journal was opened: it has no failure so far, reads as the file does, and
  -- leaves what the file's device leaves.
  pub record HasOpened (old new : R) (disk : D) : Type 0 where
    pub opened : rooms.opened new ≡ rooms.opened old + 1
    pub fine : rooms.faults new ≡ rooms.faults old
    pub is_modelled : rooms.is_modelled old → rooms.is_modelled new
    pub stay : AllStay (rooms.file old) (rooms.file new) (rooms.device old) (rooms.device new)
    pub begins : g.faults disk ≡ 0
    pub bytes : rooms.is_modelled old → OpensBytes (rooms.file old name) (g.contents disk)
    pub device : rooms.is_modelled old
        → IsSomeAnd (rooms.device old name) (λ d. SameDevice g d disk)

  -- The device of this file was opened, which was made empty if it wasn't there.
  pub record HasOpenedBeside (old new : R) (disk : D) : Type 0 where
    pub opened : rooms.opened new ≡ rooms.opened old + 1
    pub fine : rooms.faults new ≡ rooms.faults old
    pub is_modelled : rooms.is_modelled old → rooms.is_modelled new
    pub others : OthersStay rooms.leads_to (rooms.file old) (rooms.file new)
        (rooms.device old) (rooms.device new) name
    pub kept : rooms.is_modelled old → IsSome (rooms.file old name)
        → Stays (rooms.file old) (rooms.file new) (rooms.device old) (rooms.device new) name
    pub made : rooms.is_modelled old → rooms.file old name ≡ None → rooms.file new name ≡ Some []
    pub begins : g.faults disk ≡ 0
    pub bytes : rooms.is_modelled old → OpensBytes (rooms.file new name) (g.contents disk)
    pub device : rooms.is_modelled old
        → IsSomeAnd (rooms.device new name) (λ d. SameDevice g d disk)
    pub only : rooms.is_modelled old → rooms.file old name ≡ None
        → (c : Text) → g.may_leave disk c → c ≡ []
    pub time : rooms.is_modelled old → rooms.file old name ≡ None → g.clock_at disk ≡ 0

  -- The device was closed: it is that of the file now, if there is one.
  pub record HasClosed (old new : R) (disk : D) : Type 0 where
    pub opened : rooms.opened new + 1 ≡ rooms.opened old
    pub count : rooms.faults new ≡ with_count (rooms.faults old) (g.faults disk)
    pub is_modelled : rooms.is_modelled old → rooms.is_modelled new
    pub others : OthersStay rooms.leads_to (rooms.file old) (rooms.file new)
        (rooms.device old) (rooms.device new) name
    pub none : rooms.is_modelled old → rooms.file old name ≡ None → rooms.file new name ≡ None
    pub device : rooms.is_modelled old → IsSome (rooms.file old name)
        → IsSomeAnd (rooms.device new name) (λ d. SameDevice g disk d)

module _ {R S D : Type 0} (rooms : Rooms R S D) (name : Text) where
  -- The file system failed at this file, which stays as it was, as each other one does.
  pub record HasFailedBeside (old new : R) : Type 0 where
    pub opened : rooms.opened new ≡ rooms.opened old
    pub rose : Rose (rooms.faults old) (rooms.faults new)
    pub later : rooms.faults old ≤ rooms.faults new
    pub is_modelled : rooms.is_modelled old → rooms.is_modelled new
    pub others : OthersStay rooms.leads_to (rooms.file old) (rooms.file new)
        (rooms.device old) (rooms.device new) name
    pub stays : Stays (rooms.file old) (rooms.file new) (rooms.device old) (rooms.device new) name

-- The refusal of a new journal of this name.
abbrev pub not_new : Text → Text → Ending
not_new name reason = replied (refused Missing (Some name) reason)

-- What comes of making a journal with this text: all memory for it was taken before.
abbrev pub made_ending : Text → Text → Result (Unit {0}) StartError → Ending
made_ending file text (Ok done) = replied (said Done text)
made_ending file text (Err NotEmpty) = not_new file (codes "NotEmpty")
made_ending file text (Err Failed) = room_failed file
made_ending file text (Err Memory) = no_memory

-- What came of beginning a journal with this record on a device. It was empty and is a journal; or
-- it held bytes, and was only read; or it failed, and was only read if it held bytes.
abbrev pub BeginsOn : {D : Type 0} → Ghosts D → Text → D → D → Result (Unit {0}) StartError
    → Type 0
BeginsOn g first old new (Ok done) = (g.faults new ≡ g.faults old)
    × IfSome (g.contents old) (λ bytes. (bytes ≡ [])
    × ((c : Text) → g.may_leave new c → Represents c (first ∷ [])))
BeginsOn g first old new (Err why) = IsNotStarted g old new why × (why ≢ Memory)
    × IfSome (g.contents old) (λ bytes. bytes ≢ [] → OnlyReads g old new)

module _ {R S D : Type 0} (rooms : Rooms R S D) (g : Ghosts D) (name : Text) where
  -- No device was opened for a new file, and none is made: the name has one, or the file system
  -- failed.
  pub record HasNotOpened (old new : R) (ending : Ending) : Type 0 where
    pub opened : rooms.opened new ≡ rooms.opened old
    pub others : OthersStay rooms.leads_to (rooms.file old) (rooms.file new)
        (rooms.device old) (rooms.device new) name
    pub stays : Stays (rooms.file old) (rooms.file new) (rooms.device old) (rooms.device new) name
    pub cause : ((ending ≡ not_new name (codes "Exists")) × (rooms.faults new ≡ rooms.faults old)
        × (rooms.is_modelled old → IsSome (rooms.file old name)))
        ⊎ ((ending ≡ room_failed name) × Rose (rooms.faults old) (rooms.faults new))

  -- A device was opened, the journal begun on it and the device closed, over any file system. The
  -- ending is what came of it.
  pub record HasBegunOn (first text : Text) (new : R) (ending : Ending) : Type 0 where
    pub mid : R
    pub opened : D
    pub left : D
    pub made : Result (Unit {0}) StartError
    pub fine : g.faults opened ≡ 0
    pub begins : BeginsOn g first opened left made
    pub closed : HasClosed rooms g name mid new left
    pub ends : ending ≡ made_ending name text made

  -- For a command that makes a journal of this name, over any file system: none was begun, and the
  -- name's file and device stay; or one was begun on a device that was opened for it, and the
  -- ending is what came of it. So `NotEmpty` is reported exactly if the start answered it.
  abbrev pub IsNotBegun : R → R → Ending → Type 0
  IsNotBegun old new ending =
      Stays (rooms.file old) (rooms.file new) (rooms.device old) (rooms.device new) name
      × (ending ≢ not_new name (codes "NotEmpty"))

  abbrev pub ModelsNew : R → R → Ending → Type 0
  ModelsNew old new ending = IsNotBegun old new ending
      ⊎ ((first : Text) × (text : Text) × HasBegunOn first text new ending)
