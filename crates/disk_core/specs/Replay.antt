-- A disk in memory, as the replay of its calls over what it held at first.
use Rattle.std.specs.Prelude.{◌≡◌, ℕ, ◌≤◌, Bool, if◌then◌else◌, List, [], ◌∷◌, ◌++◌, length, take}
use Rattle.std.proofs.Props.{props}
use Rattle.byte_formats.specs.Types.{Text}
use Rattle.byte_formats.specs.Offsets.{IsBytes}
use Rattle.disk_core.specs.Disk.{overwritten, Torn}
use Rattle.disk_core.specs.declared.memory.call.Call.{Call}
use Rattle.disk_core.specs.declared.memory.call.Call.TheVariants.{Len, Read, Write, Sync}
use Rattle.disk_core.specs.declared.memory.call.Made.{Made}

-- what a read gives, what was there at the last sync, and the offset and the bytes of each write
-- since, the newest first
pub record State : Type 0 where
  pub seen : Text
  pub base : Text
  pub writes : List (ℕ × Text)

-- all of it is on the disk
abbrev pub synced : Text → State
synced bytes = record { seen = bytes; base = bytes; writes = [] }

-- A write that is refused is not seen, but a crash may leave of it what it may leave of any write.
-- A sync makes what is seen durable, unless it is refused.
abbrev pub after_call : State → Call → Bool → State
after_call s Len ok = s
after_call s (Read place size) ok = s
after_call s (Write place piece) ok =
    record s {
      seen = if ok then overwritten place piece s.seen else s.seen;
      writes = (place, piece) ∷ s.writes;
    }
after_call s Sync ok = if ok then synced s.seen else s

-- one call more of a record
abbrev pub step : State → Made → State
step s made = after_call s made.call made.ok

-- after these calls, of which the oldest comes first
abbrev pub run : State → List Made → State
run s [] = s
run s (made ∷ calls) = run (step s made) calls

-- now
abbrev pub state_now : Text → List Made → State
state_now first calls = run (synced first) calls

-- after so many of the calls
abbrev pub state_at : Text → List Made → ℕ → State
state_at first calls count = run (synced first) (take count calls)

-- what a crash may leave: what was there at the last sync, with each write since torn in some way
-- that leaves bytes
abbrev pub IsCrashStateOf : Text → List (ℕ × Text) → Text → Type 0
IsCrashStateOf base [] c = c ≡ base
IsCrashStateOf base (write ∷ writes) c =
    IsBytes c × (d : Text) × IsCrashStateOf base writes d × Torn write.0 write.1 d c

abbrev pub IsCrashState : State → Text → Type 0
IsCrashState s c = IsCrashStateOf s.base s.writes c

-- what a crash may have left after so many of the calls or more
abbrev pub LeftSince : Text → List Made → ℕ → Text → Type 0
LeftSince first calls t c =
    (count : ℕ) × (t ≤ count) × (count ≤ length calls) × IsCrashState (state_at first calls count) c

-- a record with one call more, unless no memory was found for it
abbrev pub noted : Bool → Call → Bool → List Made → List Made
noted found call ok calls = if found then calls ++ record { call = call; ok = ok } ∷ [] else calls

-- what a call writes are bytes
abbrev pub WritesBytes : Call → Type 0
WritesBytes Len = Unit {0}
WritesBytes (Read place size) = Unit {0}
WritesBytes (Write place piece) = IsBytes piece
WritesBytes Sync = Unit {0}

-- what each of these calls writes are bytes
abbrev pub AllWriteBytes : List Made → Type 0
AllWriteBytes [] = Unit {0}
AllWriteBytes (made ∷ calls) = WritesBytes made.call × AllWriteBytes calls

-- what was held at first are bytes, and so is what the calls write
pub record HoldsBytes (first : Text) (calls : List Made) : Type 0 where
  pub first_are : IsBytes first
  pub written_are : AllWriteBytes calls

-- each has one proof at most
WritesBytes-prop : (call : Call) → IsProp (WritesBytes call)
WritesBytes-prop Len = hlevel props
WritesBytes-prop (Read place size) = hlevel props
WritesBytes-prop (Write place piece) = hlevel props
WritesBytes-prop Sync = hlevel props

AllWriteBytes-prop : (calls : List Made) → IsProp (AllWriteBytes calls)
AllWriteBytes-prop [] = hlevel props
AllWriteBytes-prop (made ∷ calls) =
    hlevel (props, WritesBytes-prop made.call, AllWriteBytes-prop calls)

pub HoldsBytes-prop : (first : Text) (calls : List Made) → IsProp (HoldsBytes first calls)
HoldsBytes-prop first calls = hlevel (props, AllWriteBytes-prop calls)
