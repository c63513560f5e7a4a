-- Events of a journal: what a run did with it and how the run ended, as what a crash may leave of
-- the file before and afterwards.
use Rattle.std.specs.Prelude.{◌≡◌, ◌⊎◌, Bool, true, List, [], ◌∷◌, ◌++◌, Option, None, Some}
use Rattle.std.specs.Prelude.{if◌then◌else◌}
use Rattle.byte_formats.specs.Types.{Text}
use Rattle.disk_core.specs.Disk.{NoNew}
use Rattle.journal_core.specs.Format.{Represents, RepresentsEither}
use Rattle.file_events.specs.Executions.{AnyEvent}

-- The crash states of a file: what a crash may leave of it on the disk. Of a file that isn't there
-- it leaves no bytes.
abbrev pub CrashStates : Type 1
CrashStates = Text → Type 0

-- Each crash state represents these records.
abbrev pub StatesRepresent : CrashStates → List Text → Type 0
StatesRepresent states list = (c : Text) → states c → Represents c list

-- With these records the journal may be recovered.
abbrev pub MayRecover : CrashStates → List Text → Type 0
MayRecover states list = (c : Text) × (states c × Represents c list)

-- What a run does with a journal.
pub data Journaled : Type 0 where
  -- It isn't opened.
  untouched : Journaled
  -- It is opened, these records are found, and no record is added.
  reads : List Text → Journaled
  -- These records are found, and one is added.
  appended : List Text → Text → Journaled
  -- It is a new journal with this first record.
  started : Text → Journaled

-- The records that a run leaves in its journal, where it opens it.
abbrev pub records_after : Journaled → Option (List Text)
records_after untouched = None
records_after (reads list) = Some list
records_after (appended list body) = Some (list ++ body ∷ [])
records_after (started body) = Some (body ∷ [])

-- An event of a journal.
pub data Event : Type 0 where
  -- Nothing of it is done to the journal: the machine stopped, or other files were worked on.
  elsewhere : Event
  -- A run has done this: it came to its end, or it failed after a byte of its answer went out. It
  -- is heard where a byte of its answer may have gone out.
  ran : Bool → Journaled → Event
  -- A run that was about to do this broke off: a file failed, memory was refused, or the run was
  -- killed.
  broke : Journaled → Event

-- Which lists of records a journal may have.
module _ (Valid : List Text → Type 0) where
  -- A run read the file, and found these records.
  pub record WasFound (before : CrashStates) (list : List Text) : Type 0 where
    pub bytes : Text
    pub state : before bytes
    pub stands : Represents bytes list
    pub valid : Valid list

  -- It may add this record after those that it found.
  pub record MayAppend (list : List Text) (body : Text) (before : CrashStates) : Type 0 where
    pub found : WasFound before list
    pub valid : Valid (list ++ body ∷ [])

  -- What a run leaves that didn't break off.
  abbrev pub Done : Journaled → CrashStates → CrashStates → Type 0
  Done untouched before now = NoNew before now
  Done (reads list) before now = WasFound before list × StatesRepresent now list
  Done (appended list body) before now =
      MayAppend list body before × StatesRepresent now (list ++ body ∷ [])
  Done (started body) before now =
      NoNew (λ c. c ≡ []) before × (Valid (body ∷ []) × StatesRepresent now (body ∷ []))

  -- What a run leaves that broke off where it had begun to work on the journal: its record is there
  -- or not; and a new file may hold anything.
  abbrev pub HalfDone : Journaled → CrashStates → CrashStates → Type 0
  HalfDone untouched before now = NoNew before now
  HalfDone (reads list) before now = WasFound before list × StatesRepresent now list
  HalfDone (appended list body) before now =
      MayAppend list body before × ((c : Text) → now c → RepresentsEither list body c)
  HalfDone (started body) before now = NoNew (λ c. c ≡ []) before

  -- What an event leaves. A run that broke off had begun so, or it leaves nothing new.
  abbrev pub Happens : Event → CrashStates → CrashStates → Type 0
  Happens elsewhere before now = NoNew before now
  Happens (ran heard did) before now = Done did before now
  Happens (broke did) before now = NoNew before now ⊎ HalfDone did before now

  -- And there is a crash state.
  pub record Leads (event : Event) (before now : CrashStates) : Type 0 where
    pub some : (c : Text) × now c
    pub happens : Happens event before now

-- A run that didn't break off held these records: it found or made them.
abbrev pub EventHolds : List Text → Event → Type 0
EventHolds list elsewhere = ⊥
EventHolds list (ran heard did) = records_after did ≡ Some list
EventHolds list (broke did) = ⊥

abbrev pub WereHeld : List Event → List Text → Type 0
WereHeld events list = AnyEvent (EventHolds list) events

-- The first event is one of a run that held these records.
abbrev pub FirstHolds : List Text → List Event → Type 0
FirstHolds list [] = ⊥
FirstHolds list (event ∷ events) = EventHolds list event

-- A run that was heard added this record after those: the record is released.
abbrev pub HasReleased : List Event → List Text → Text → Type 0
HasReleased events list body =
    AnyEvent (λ (event : Event). event ≡ ran true (appended list body)) events

-- The records that were released, in their order.
abbrev pub released_if : Bool → Journaled → List Text
released_if heard untouched = []
released_if heard (reads list) = []
released_if heard (appended list body) = if heard then body ∷ [] else []
released_if heard (started body) = []

abbrev pub released_by : Event → List Text
released_by elsewhere = []
released_by (ran heard did) = released_if heard did
released_by (broke did) = []

abbrev pub all_released : List Event → List Text
all_released [] = []
all_released (event ∷ events) = released_by event ++ all_released events
