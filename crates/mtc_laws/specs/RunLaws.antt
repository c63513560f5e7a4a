-- What follows of each run, and what it is as steps of the parties whose journals it works on.
use Rattle.std.specs.Prelude.{◌≡◌, ◌≢◌, ◌<◌, ◌≤◌, ◌⊎◌, ℕ, true, false, List, [], ◌∷◌, ◌++◌, length}
use Rattle.std.specs.Prelude.{Option, None, Some, IsErr, codes, slice_get}
use Rattle.byte_formats.specs.Types.{HashFunction, Text}
use Rattle.disk_core.specs.declared.disk.Disk.{Ghosts as Disks}
use Rattle.file_events.specs.Events.{CrashStates, Event, broke, released_by}
use Rattle.file_events.specs.Histories.{IsHistory}
use Rattle.file_events.specs.Owners.{LeavesJournal, did_to}
use Rattle.file_events.specs.Worlds.{Journals, breaks_off, clock_of, is_heard, Program, states_of}
use Rattle.file_events.specs.Worlds.{states_between}
use Rattle.mtc_io.specs.Counts.{Rose}
use Rattle.mtc_io.specs.declared.sink.Sink.{Ghosts as Sinks}
use Rattle.mtc_room.specs.declared.room.Room.{Ghosts as Rooms}
use Rattle.mtc_words.specs.Words.{command_of, known_word}
use Rattle.mtc_command.specs.Answers.{IsEarly}
use Rattle.mtc_command.specs.Lines.{line_of}
use Rattle.mtc_command.specs.Made.{Journaled, untouched}
use Rattle.mtc_command.specs.Served.{IsOther, OfEach}
use Rattle.mtc_plans.specs.Streams.{AddsNone}
use Rattle.party_history.specs.Journals.{Continues}
use Rattle.party_history.specs.Rules.{AreRecords, StartsWith}
use Rattle.party_history.specs.declared.start.PartyStart.{PartyStart}
use Rattle.party_history.specs.declared.step.PartyStep.{PartyStep}
use Rattle.mtc_top.specs.Concluded.{Prints, PrintsPrefix, Reports}
use Rattle.mtc_top.specs.Facts.{facts}
use Rattle.mtc_top.specs.Run.{Answered, HasRun, WasCut, journals}
use Rattle.mtc_top.specs.Executions.{owner, Run}

-- A byte went out, if the model knows it of the sink.
abbrev pub TookSome : Option Text → Option Text → Type 0
TookSome None new = ⊥
TookSome (Some old) None = ⊥
TookSome (Some old) (Some new) = length old < length new

-- Each history that led to a journal with the crash states before continues to those now, and
-- releases what the event releases.
abbrev pub AllGoOn : HashFunction → Event → CrashStates → CrashStates → Type 0
AllGoOn h event before now = (starts : List PartyStart) (index : ℕ) (start : PartyStart)
    (first : Text) (steps : List PartyStep) (out : List Text) → slice_get starts index ≡ Some start
    → StartsWith start first → IsHistory (Continues h starts index first steps) out before
    → IsHistory (Continues h starts index first steps) (out ++ released_by event) now

module _ {R S D O E : Type 0} (h : HashFunction) (rooms : Rooms R S D) (disks : Disks D)
    (outs : Sinks O) (errs : Sinks E) where
  -- What follows of each run.
  pub record RunShows (words : List Text) (old new : R) (out out' : O) (err err' : E) (status : ℕ)
      : Type 0 where
    -- The status is one of the eleven.
    pub known : status ≤ 10
    -- Status 1 says that the arguments are no command, and such arguments are answered by it,
    -- unless memory was refused.
    pub only : status ≡ 1 → IsErr (command_of words)
    pub first : IsErr (command_of words) → status ≢ 8 → status ≡ 1
    -- A journal that isn't opened goes with a status that may come before.
    pub early : rooms.is_modelled old
        → OfEach (λ name did. did ≡ untouched → IsEarly status)
        (journals h rooms disks outs errs words old new out out' err err')
    -- With another status than those of a failed file and of refused memory it answers.
    pub answers : status ≢ 5 → status ≢ 8
        → Answered h rooms disks outs errs words old new out out' err err' status
    -- Without a failure, and without memory refused, it answers, and by another status than 6.
    pub complete : (Rose (rooms.faults old) (rooms.faults new) → ⊥)
        → (Rose (outs.faults out) (outs.faults out') → ⊥) → status ≢ 8 → (status ≢ 6)
        × Answered h rooms disks outs errs words old new out out' err err' status
    -- It prints nothing if it is refused, the file system failed, or memory ran out, unless it was
    -- cut off.
    pub silent : status ≢ 0 → status ≢ 3 → status ≢ 6 → status ≢ 10
        → Prints outs out out' []
        ⊎ WasCut h rooms disks outs errs words old new out out' err err' status
    -- It answers if it did its work, or a byte of it may have gone out, unless it was cut off.
    pub heard : is_heard status (outs.taken out) (outs.taken out') ≡ true
        → Answered h rooms disks outs errs words old new out out' err err' status
        ⊎ WasCut h rooms disks outs errs words old new out out' err err' status
    -- Such a run had no failure of a file, and memory was not refused, unless it was cut off.
    pub whole : is_heard status (outs.taken out) (outs.taken out') ≡ true
        → (breaks_off status ≡ false)
        ⊎ WasCut h rooms disks outs errs words old new out out' err err' status
    -- One that was cut off has status 5 or 8, and adds no record to a journal.
    pub cut : WasCut h rooms disks outs errs words old new out out' err err' status
        → (breaks_off status ≡ true) × OfEach (λ name did. AddsNone did)
        (journals h rooms disks outs errs words old new out out' err err')

  -- This holds of each run.
  abbrev pub RunsShow : Type 0
  RunsShow = (words : List Text) (old new : R) (out out' : O) (err err' : E) (status : ℕ)
      → HasRun h rooms disks outs errs words old new out out' err err' status
      → RunShows words old new out out' err err' status

  -- A run of which a byte went out might have had a standard output that failed there: if only a
  -- prefix of what it wrote came through, it is a run with status 6, which leaves the same file
  -- system. So it is of one that was cut off, by a file, by memory or by a kill.
  abbrev pub PrefixesAreRuns : Type 0
  PrefixesAreRuns = (words : List Text) (old new : R) (out out' failed : O) (err err' contents : E)
      (status : ℕ) (text : Text)
      → HasRun h rooms disks outs errs words old new out out' err err' status
      → TookSome (outs.taken out) (outs.taken out') → Prints outs out out' text
      → PrintsPrefix outs out failed text → Rose (outs.faults out) (outs.faults failed)
      → Reports errs err contents (line_of (known_word words) None (codes "OutputFailed"))
      → HasRun h rooms disks outs errs words old new out failed err contents 6

-- One of these journals has this name, and this was done with it.
abbrev pub AreAmong : Journals → Text → Journaled → Type 0
AreAmong [] name did = ⊥
AreAmong (journal ∷ rest) name did =
    ((journal.0 ≡ name) × (journal.1 ≡ did)) ⊎ AreAmong rest name did

module _ (h : HashFunction) (p : Program) where
  -- The run as steps of the party whose journal has this name.
  pub record RunSteps (old : p.R) (run : Run p.R p.O p.E) (name : Text) : Type 0 where
    -- It is an event of the journal. Where the machine stops in the middle of it, what is left is
    -- one of a run that broke off.
    pub leaves : LeavesJournal p (AreRecords h) name old run
    -- So each history continues.
    pub continues : AllGoOn h ((owner h p name).run_event old run)
        (states_of p name old)
        (states_of p name run.room)
    pub stops : (c : Text) → states_between p name old run.room c
        → AllGoOn h (broke (did_to p name old run))
        (states_of p name old) (λ d. d ≡ c)
    -- The bytes of the file that the model knows are a crash state.
    pub as_read : (c : Text) → p.rooms.file run.room name ≡ Some c
        → states_of p name run.room c
    -- The clock of the file's device doesn't go back.
    pub later : clock_of p.disks (p.rooms.device old name)
        ≤ clock_of p.disks (p.rooms.device run.room name)

  -- So it is of each journal that a run works on, if the model knows the files; and of each other
  -- name whose place isn't that of a file beside one.
  abbrev pub RunsAreSteps : Type 0
  RunsAreSteps = (old : p.R) (run : Run p.R p.O p.E) → p.rooms.is_modelled old
      → p.HasRun old run → (name : Text)
      → ((did : Journaled) × AreAmong (p.journals old run) name did)
      ⊎ IsOther p.rooms.leads_to (facts h (command_of run.words)).besides name
      → RunSteps old run name
