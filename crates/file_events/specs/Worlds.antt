-- Runs of a program over files, with stops of the machine between and in the middle of them, with
-- runs that are killed, and with other files that change: which event each of these is.
use Rattle.std.specs.Prelude.{◌≡◌, ℕ, nat_lt, ◌==◌, ◌||◌, ◌&&◌, not, Bool, List, [], ◌∷◌, length}
use Rattle.std.specs.Prelude.{Option, None, Some, IfSome, if◌then◌else◌}
use Rattle.byte_formats.specs.Types.{Text}
use Rattle.disk_core.specs.declared.disk.Disk.{Ghosts as Disks}
use Rattle.mtc_io.specs.declared.sink.Sink.{Ghosts as Sinks}
use Rattle.mtc_room.specs.Places.{is_one_place, place_of}
use Rattle.mtc_room.specs.Room.{Stays}
use Rattle.mtc_room.specs.declared.room.Room.{Ghosts as Rooms}
use Rattle.file_events.specs.Events.{CrashStates, Event, Journaled, broke, ran, untouched}
use Rattle.file_events.specs.Executions.{IsExecution}

-- A run: its arguments, standard output and standard error before and after, its status, and the
-- files that it leaves.
pub record Run (R O E : Type 0) : Type 0 where
  pub words : List Text
  pub out : O
  pub out_after : O
  pub err : E
  pub err_after : E
  pub status : ℕ
  pub room : R

-- ---- crash states

-- What a crash may leave of a name's device, and what it may have left since some time. A file that
-- isn't there is like an empty one.
module _ {D : Type 0} (disks : Disks D) where
  abbrev pub states_at : Option D → CrashStates
  states_at None c = c ≡ []
  states_at (Some d) c = disks.may_leave d c

  abbrev pub clock_of : Option D → ℕ
  clock_of None = 0
  clock_of (Some d) = disks.clock_at d

  abbrev pub states_since : Option D → ℕ → CrashStates
  states_since None t c = c ≡ []
  states_since (Some d) t c = disks.left_since d t c

-- ---- how a run ended

-- A byte of the answer may have gone out: the run did its work; or standard output took some; or it
-- failed, and the model doesn't know what it took. If the model doesn't know that and a file failed
-- or memory was refused, this says no, though a command that writes while it reads may have begun.
abbrev pub is_heard : ℕ → Option Text → Option Text → Bool
is_heard status None after = (status == 0) || (status == 6)
is_heard status (Some before) None = status == 0
is_heard status (Some before) (Some after) =
    (status == 0) || nat_lt (length before) (length after)

-- The status says that a file failed, or that memory was refused.
abbrev pub breaks_off : ℕ → Bool
breaks_off status = (status == 5) || (status == 8)

-- The event of a journal with which a run did this.
abbrev pub event_with : Bool → Bool → Journaled → Event
event_with broken heard did = if broken then broke did else ran heard did

-- The journals that a run works on, each by its name, and what it does with it.
abbrev pub Journals : Type 0
Journals = List (Text × Journaled)

-- What is done with the journal of a name's place.
abbrev pub done_to : (Text → Text) → Journals → Text → Journaled
done_to leads_to [] name = untouched
done_to leads_to (journal ∷ rest) name =
    if is_one_place leads_to journal.0 name then journal.1 else done_to leads_to rest name

-- ---- a program

-- A program: its files, their devices and its standard output, its runs, and what a run does with
-- its journals.
pub record Program : Type 1 where
  pub R : Type 0
  pub S : Type 0
  pub D : Type 0
  pub O : Type 0
  pub E : Type 0
  pub rooms : Rooms R S D
  pub disks : Disks D
  pub outs : Sinks O
  pub HasRun : R → Run R O E → Type 0
  pub journals : R → Run R O E → Journals

-- What happens to files, and the files that it leaves.
pub data FileEvent (R O E : Type 0) : Type 0 where
  -- a run
  exited : Run R O E → FileEvent R O E
  -- The program is killed in the middle of a run, before a byte of it went out, and the machine
  -- continues: of the run only the arguments count. A kill after the first byte is a run whose
  -- standard output failed there.
  died : Run R O E → R → FileEvent R O E
  -- The machine stops in the middle of a run, before a byte of it went out: the run as it would
  -- have ended, and the files that the stop leaves. A stop after the first byte is a run whose
  -- standard output failed there, and then a stop: before its first byte it has done to its files
  -- all that it does, and after it it only reads them.
  cut : Run R O E → R → FileEvent R O E
  -- the machine stops between two runs
  stops : R → FileEvent R O E
  -- Other files are made, changed or taken away, as a request is between two runs.
  writes : R → FileEvent R O E

module _ (p : Program) where
  -- The names are of one file: they have one place.
  abbrev pub IsOneFile : Text → Text → Type 0
  IsOneFile one other = place_of p.rooms.leads_to one ≡ place_of p.rooms.leads_to other

  -- What a crash may leave of the file of a name.
  abbrev pub states_of : Text → p.R → CrashStates
  states_of name room = states_at p.disks (p.rooms.device room name)

  -- What a crash may have left of it at some time since the files were so.
  abbrev pub states_between : Text → p.R → p.R → CrashStates
  states_between name old room =
      states_since p.disks (p.rooms.device room name)
      (clock_of p.disks (p.rooms.device old name))

  -- The same of all files.
  abbrev pub all_states : p.R → Text → CrashStates
  all_states room name = states_of name room

  -- A byte of the run's answer may have gone out.
  abbrev pub heard_of : Run p.R p.O p.E → Bool
  heard_of run =
      is_heard run.status (p.outs.taken run.out) (p.outs.taken run.out_after)

  -- The run broke off: a file failed, or memory was refused, before a byte of its answer went out.
  -- One that fails after its first byte has done with its journals all that it does: it only reads
  -- them from there on.
  abbrev pub broke_off : Run p.R p.O p.E → Bool
  broke_off run = breaks_off run.status && not (heard_of run)

  -- The files that it leaves.
  abbrev pub files_after : FileEvent p.R p.O p.E → p.R
  files_after (exited run) = run.room
  files_after (died run room) = room
  files_after (cut run room) = room
  files_after (stops room) = room
  files_after (writes room) = room

  -- The run that it is.
  abbrev pub run_of : FileEvent p.R p.O p.E → Option (Run p.R p.O p.E)
  run_of (exited run) = Some run
  run_of other = None

  -- It is so of each run of an execution, with the files with which it began.
  abbrev pub EachRun : (p.R → Run p.R p.O p.E → Type 0) → p.R → List (FileEvent p.R p.O p.E)
      → Type 0
  EachRun P old [] = Unit {0}
  EachRun P old (event ∷ events) =
      IfSome (run_of event) (P old) × EachRun P (files_after event) events

  -- A stop leaves each file with bytes that a crash may leave of it, and a crash right after it
  -- leaves the same bytes.
  pub record LeavesStopped (May : Text → CrashStates) (old new : p.R) : Type 0 where
    pub is_modelled : p.rooms.is_modelled old → p.rooms.is_modelled new
    pub crash_state : Text → Text
    pub may : (name : Text) → May name (crash_state name)
    pub only : (name c : Text) → states_of name new c → c ≡ crash_state name

  -- Files were written, but none of those of the owner.
  pub record LeavesOwn (Own : Text → Type 0) (old new : p.R) : Type 0 where
    pub is_modelled : p.rooms.is_modelled old → p.rooms.is_modelled new
    pub stays : (name : Text) → Own name → Stays (p.rooms.file old)
        (p.rooms.file new) (p.rooms.device old) (p.rooms.device new) name

-- An owner of files: their names, its events, what an event leaves of the files, and the events of
-- a run that ended and of one that broke off.
pub record FileOwner (p : Program) : Type 1 where
  pub Own : Text → Type 0
  pub EventOf : Type 0
  pub LeadsTo : EventOf → p.R → p.R → Type 0
  pub none : EventOf
  pub run_event : p.R → Run p.R p.O p.E → EventOf
  pub broken_event : p.R → Run p.R p.O p.E → EventOf
  -- What a stop in the middle of a run may leave, by the clocks of the files.
  pub Cuts : p.R → Run p.R p.O p.E → p.R → Type 0

module _ (p : Program) (o : FileOwner p) where
  -- What has to hold of each of them. A program that is killed leaves of the owner's files what a
  -- run leaves that broke off.
  abbrev pub IsFileEvent : p.R → FileEvent p.R p.O p.E → Type 0
  IsFileEvent old (exited run) = p.HasRun old run
  IsFileEvent old (died run room) = (p.rooms.is_modelled old → p.rooms.is_modelled room)
      × o.LeadsTo (o.broken_event old run) old room
  IsFileEvent old (cut run room) = p.HasRun old run × o.Cuts old run room
  IsFileEvent old (stops room) = LeavesStopped p (λ name. states_of p name old) old room
  IsFileEvent old (writes room) = LeavesOwn p o.Own old room

  -- They lead from one state of the files to the other.
  abbrev pub IsFileExecution : p.R → List (FileEvent p.R p.O p.E) → p.R → Type 0
  IsFileExecution old [] new = new ≡ old
  IsFileExecution old (event ∷ events) new =
      IsFileEvent old event × IsFileExecution (files_after p event) events new

  -- The event of each is computed, and so are the events of a list of them.
  abbrev pub own_event : p.R → FileEvent p.R p.O p.E → o.EventOf
  own_event old (exited run) = o.run_event old run
  own_event old (died run room) = o.broken_event old run
  own_event old (cut run room) = o.broken_event old run
  own_event old other = o.none

  abbrev pub own_events : p.R → List (FileEvent p.R p.O p.E) → List o.EventOf
  own_events old [] = []
  own_events old (event ∷ events) = own_event old event ∷ own_events (files_after p event) events

  -- What each of them has to leave, where the files are modelled.
  pub record FileEventsLead : Type 0 where
    pub modelled : (old : p.R) (run : Run p.R p.O p.E) → p.rooms.is_modelled old
        → p.HasRun old run
        → p.rooms.is_modelled run.room
    pub runs : (old : p.R) (run : Run p.R p.O p.E) → p.rooms.is_modelled old → p.HasRun old run
        → o.LeadsTo (o.run_event old run) old run.room
    pub cuts : (old : p.R) (run : Run p.R p.O p.E) (room : p.R) → p.rooms.is_modelled old
        → p.HasRun old run → o.Cuts old run room
        → p.rooms.is_modelled room × o.LeadsTo (o.broken_event old run) old room
    pub stays : (old new : p.R) → p.rooms.is_modelled old
        → ((name : Text) → o.Own name → (c : Text) → states_of p name new c
        → states_of p name old c)
        → ((name : Text) → o.Own name → (c : Text) × states_of p name new c)
        → o.LeadsTo o.none old new
    pub some : (room : p.R) (name : Text) → p.rooms.is_modelled room
        → (c : Text) × states_of p name room c

  -- What happens to an owner's files is an execution of their events.
  abbrev pub ExecutionsAreOfOwners : Type 0
  ExecutionsAreOfOwners = FileEventsLead → (old new : p.R) (events : List (FileEvent p.R p.O p.E))
      → p.rooms.is_modelled old → IsFileExecution old events new
      → IsExecution o.LeadsTo old (own_events old events) new
