-- What a command leaves of its journal: the crash states that it may have now, and since the call
-- began.
use Rattle.std.specs.Prelude.{◌≡◌, ◌⊎◌, ◌≤◌, List, [], ◌∷◌, ◌++◌, Option, None, Some}
use Rattle.byte_formats.specs.Types.{Text}
use Rattle.disk_core.specs.Times.{LeavesOnly, OnlyReads}
use Rattle.disk_core.specs.declared.disk.Disk.{Ghosts}
use Rattle.journal_core.specs.Format.{Represents, RepresentsEither}
use Rattle.journal_core.specs.Words.{AllRepresent}
use Rattle.file_events.specs.Events.{CrashStates}
use Rattle.file_events.specs.Worlds.{clock_of, states_at, states_since}
pub use Rattle.file_events.specs.Events.{Journaled, untouched, reads, appended, started}

-- It works on a journal that was there.
abbrev pub IsOnOld : Journaled → Type 0
IsOnOld untouched = Unit {0}
IsOnOld (reads list) = Unit {0}
IsOnOld (appended list body) = Unit {0}
IsOnOld (started body) = ⊥

-- A statement on the crash states before a call, on those now, and on those at any time since it
-- began.
abbrev pub Leaving : Type 1
Leaving = CrashStates → CrashStates → CrashStates → Type 0

-- The bytes of a name's device, if the model knows them. A file that isn't there has none.
abbrev pub device_contents : {D : Type 0} → Ghosts D → Option D → Option Text
device_contents g None = None
device_contents g (Some d) = g.contents d

-- Nothing new is left: each crash state, now and since the call began, is one from before.
pub record Kept (before now since : CrashStates) : Type 0 where
  pub now_is : (c : Text) → now c → before c
  pub since_is : (c : Text) → since c → before c

-- This holds of each command that ran out of memory.
abbrev pub HasKept : Journaled → Leaving
HasKept did before now since = Kept before now since

-- What was read is a crash state from before, and represents these records.
pub record WasRead (before : CrashStates) (list : List Text) : Type 0 where
  pub bytes : Text
  pub crash_state : before bytes
  pub stands : Represents bytes list

-- The records that were read are on the disk, and nothing else.
pub record WasOpened (list : List Text) (before now since : CrashStates) : Type 0 where
  pub read : WasRead before list
  pub now_is : (c : Text) → now c → Represents c list
  pub since_is : (c : Text) → since c → before c

-- One record is added after those that were read. Each crash state now is one of these: one with
-- the new record, or if a failure came between, one with it or without it.
pub record HasAdded (list : List Text) (body : Text)
    (Now before now since : CrashStates) : Type 0 where
  pub read : WasRead before list
  pub now_is : (c : Text) → now c → Now c
  pub since_is : (c : Text) → since c → before c ⊎ RepresentsEither list body c

-- What a command has left of its journal that ends neither because the file system failed nor
-- because memory ran out.
abbrev pub HasMade : Journaled → Leaving
HasMade untouched before now since = Kept before now since
HasMade (reads list) before now since = WasOpened list before now since
HasMade (appended list body) before now since =
    HasAdded list body (λ c. Represents c (list ++ body ∷ [])) before now since
HasMade (started body) before now since = (c : Text) → now c → Represents c (body ∷ [])

-- And one that a failure of the file system has ended.
abbrev pub MayHaveMade : Journaled → Leaving
MayHaveMade untouched before now since = Kept before now since
MayHaveMade (reads list) before now since = Kept before now since
MayHaveMade (appended list body) before now since =
    Kept before now since ⊎ HasAdded list body (RepresentsEither list body) before now since
MayHaveMade (started body) before now since = Unit {0}

-- The same over a device as it was opened and as it is afterwards.
module _ {D : Type 0} (g : Ghosts D) where
  -- It was opened and represents these records.
  pub record IsOpen (mid : D) (list : List Text) : Type 0 where
    pub bytes : Text
    pub contents : g.contents mid ≡ Some bytes
    pub stands : Represents bytes list
    pub all : AllRepresent g mid list

  -- The work read the device, or made no call of it.
  abbrev pub ReadsAtMost : D → D → Type 0
  ReadsAtMost mid new = (new ≡ mid) ⊎ OnlyReads g mid new

  -- What the work after the opening makes of the device, and what it may if the device failed.
  abbrev pub Adds : Journaled → D → D → Type 0
  Adds untouched mid new = ⊥
  Adds (reads list) mid new = IsOpen mid list × ReadsAtMost mid new
  Adds (appended list body) mid new =
      IsOpen mid list × LeavesOnly g mid new (RepresentsEither list body)
      × AllRepresent g new (list ++ body ∷ [])
  Adds (started body) mid new = ⊥

  abbrev pub MayAdd : Journaled → D → D → Type 0
  MayAdd untouched mid new = ⊥
  MayAdd (reads list) mid new = IsOpen mid list × ReadsAtMost mid new
  MayAdd (appended list body) mid new = IsOpen mid list
      × LeavesOnly g mid new (RepresentsEither list body)
      × ((c : Text) → g.may_leave new c → RepresentsEither list body c)
  MayAdd (started body) mid new = ⊥

-- From one device of a name to a later one the clock doesn't go back, and the crash states are so.
pub record Leaves {D : Type 0} (g : Ghosts D) (How : Leaving) (old new : Option D) : Type 0 where
  pub later : clock_of g old ≤ clock_of g new
  pub crash_states : How (states_at g old) (states_at g new) (states_since g new (clock_of g old))
