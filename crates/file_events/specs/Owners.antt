-- Owners of files: one journal; a journal with its tiles; the journals of a mirror and of a
-- cosigner. What happens to files is an execution of the events of each owner.
use Rattle.std.specs.Prelude.{◌≡◌, ◌⊎◌, List, [], ◌∷◌}
use Rattle.byte_formats.specs.Types.{Text}
use Rattle.file_events.specs.Events.{Event, Journaled, Leads, WereHeld, broke}
use Rattle.file_events.specs.Events.{elsewhere}
use Rattle.file_events.specs.Executions.{AnyEvent}
use Rattle.file_events.specs.Laws.{IsDurablePrefix, IsJournalExecution}
use Rattle.file_events.specs.Mirrors.{Agree, LeadsMirror, KeepsAgreement, MayDo, MirrorEvent}
use Rattle.file_events.specs.Mirrors.{mirror_event_with, broke as broke_mirror}
use Rattle.file_events.specs.Mirrors.{elsewhere as none_of_mirror}
use Rattle.file_events.specs.Tiles.{Goes, LeadsLog, LogEvent, NewTilesGo, PlainRecordsKeep}
use Rattle.file_events.specs.Tiles.{TilesWork, log_event_with, broke as broke_log}
use Rattle.file_events.specs.Tiles.{elsewhere as none_of_log}
use Rattle.file_events.specs.Works.{LeavesAll, journal_work, tiles_work}
use Rattle.file_events.specs.Worlds.{LeavesStopped, IsFileExecution, FileEvent, FileOwner, Program}
use Rattle.file_events.specs.Worlds.{Run, all_states, broke_off, done_to, event_with, own_events}
use Rattle.file_events.specs.Worlds.{EachRun, IsOneFile, heard_of, states_between, states_of}

module _ (p : Program) where
  -- What a run did with the journal of a name's place.
  abbrev pub did_to : Text → p.R → Run p.R p.O p.E → Journaled
  did_to name old run = done_to p.rooms.leads_to (p.journals old run) name

  -- Where the files are modelled they are so after a run, and a crash leaves something of each.
  pub record KeepsRooms : Type 0 where
    pub modelled : (old : p.R) (run : Run p.R p.O p.E) → p.rooms.is_modelled old → p.HasRun old run
        → p.rooms.is_modelled run.room
    pub some : (room : p.R) (name : Text) → p.rooms.is_modelled room
        → (c : Text) × states_of p name room c

  -- A run that is killed over files that stop taking calls all at once is a run in which all of
  -- them fail: whatever its status, what it leaves is what a run leaves that broke off.
  abbrev pub RunsMayBreak : FileOwner p → Type 0
  RunsMayBreak o = (old : p.R) (run : Run p.R p.O p.E) → p.rooms.is_modelled old → p.HasRun old run
      → o.LeadsTo (o.broken_event old run) old run.room

-- ---- one journal

module _ (p : Program) (Valid : List Text → Type 0) (name : Text) where
  -- What a run leaves of the journal is an event. Where the machine stops at some time of it, what
  -- is left is an event too: of a run that broke off.
  pub record LeavesJournal (old : p.R) (run : Run p.R p.O p.E) : Type 0 where
    pub leads : Leads Valid
        (event_with (broke_off p run) (heard_of p run) (did_to p name old run))
        (states_of p name old) (states_of p name run.room)
    pub times : (c : Text) → states_between p name old run.room c
        → Leads Valid (broke (did_to p name old run)) (states_of p name old) (λ d. d ≡ c)

  abbrev pub journal_file : FileOwner p
  journal_file = record {
    Own = λ n. IsOneFile p n name;
    EventOf = Event;
    LeadsTo = λ event old new. Leads Valid event (states_of p name old) (states_of p name new);
    none = elsewhere;
    run_event = λ old run.
        event_with (broke_off p run) (heard_of p run) (did_to p name old run);
    broken_event = λ old run. broke (did_to p name old run);
    Cuts = λ old run room.
        LeavesStopped p (λ n. states_between p n old run.room) run.room room;
  }

  -- Runs of the program leave of the journal what they must.
  pub record ServesJournal : Type 0 where
    pub rooms : KeepsRooms p
    pub leaves : (old : p.R) (run : Run p.R p.O p.E) → p.rooms.is_modelled old → p.HasRun old run
        → LeavesJournal old run

  -- What happens to the program's files is an execution of the events of the journal.
  abbrev pub JournalExecutions : Type 0
  JournalExecutions = ServesJournal → (old new : p.R) (events : List (FileEvent p.R p.O p.E))
      → p.rooms.is_modelled old → IsFileExecution p journal_file old events new
      → IsJournalExecution (states_of p name) Valid old
      (own_events p journal_file old events) new

  -- So records that a run of the execution held are durable after it.
  abbrev pub ExecutionsHold : Type 0
  ExecutionsHold = ServesJournal → (old new : p.R) (events : List (FileEvent p.R p.O p.E))
      → p.rooms.is_modelled old → IsFileExecution p journal_file old events new
      → (list : List Text) → WereHeld (own_events p journal_file old events) list
      → IsDurablePrefix Valid list (states_of p name new)

  -- Each run of an execution is one of the program, and its event is one of the execution's: so one
  -- that came to its end held the records that it found or made, and it released the one that it
  -- added if it was heard.
  abbrev pub RunsAreEvents : Type 0
  RunsAreEvents = ServesJournal → (old new : p.R) (events : List (FileEvent p.R p.O p.E))
      → p.rooms.is_modelled old → IsFileExecution p journal_file old events new
      → EachRun p (λ before run. p.HasRun before run
      × AnyEvent (λ (event : Event). event ≡ journal_file.run_event before run)
      (own_events p journal_file old events)) old events

  abbrev pub JournalRunsMayBreak : Type 0
  JournalRunsMayBreak = ServesJournal → RunsMayBreak p journal_file

-- ---- a journal with its tiles

module _ (p : Program) (goes : List Text → Text → Type 0) (Plain : List Text → Text → Type 0)
    (Valid : List Text → Type 0) (name tiles : Text)
    (how_of : p.R → Run p.R p.O p.E → TilesWork) where
  -- A stop in the middle of a run is a kill, and then a stop.
  abbrev pub log_files : FileOwner p
  log_files = record {
    Own = λ n. IsOneFile p n name ⊎ IsOneFile p n tiles;
    EventOf = LogEvent;
    LeadsTo = LeadsLog goes Plain Valid (states_of p name) (states_of p tiles);
    none = none_of_log;
    run_event = λ old run. log_event_with (broke_off p run) (heard_of p run)
        (did_to p name old run) (how_of old run);
    broken_event = λ old run. broke_log (did_to p name old run) (how_of old run);
    Cuts = λ old run room. ⊥;
  }

  -- Runs of the program leave of both files at once what they must.
  pub record ServesLog : Type 0 where
    pub rooms : KeepsRooms p
    pub leaves : (old : p.R) (run : Run p.R p.O p.E) → p.rooms.is_modelled old → p.HasRun old run
        → LeavesAll (broke_off p run)
        (journal_work Valid name (did_to p name old run)
        ∷ tiles_work goes Plain name tiles (did_to p name old run) (how_of old run) ∷ [])
        (all_states p old) (all_states p run.room)

  abbrev pub LogRunsMayBreak : Type 0
  LogRunsMayBreak = ServesLog → RunsMayBreak p log_files

  -- A new journal goes with any tiles.
  abbrev pub NewTilesSurvive : Type 0
  NewTilesSurvive =
      NewTilesGo goes Plain Valid (states_of p name) (states_of p tiles)

  -- Tiles and journal go with each other from then on, through every execution.
  abbrev pub TilesSurvive : Type 0
  TilesSurvive = ServesLog → PlainRecordsKeep goes Plain Valid → (prefix : List Text)
      (old new : p.R) (events : List (FileEvent p.R p.O p.E)) → p.rooms.is_modelled old
      → IsFileExecution p log_files old events new
      → IsDurablePrefix Valid prefix (states_of p name old)
      → Goes goes (states_of p name old) (states_of p tiles old)
      → Goes goes (states_of p name new) (states_of p tiles new)

-- ---- a mirror and a cosigner

module _ (p : Program) (agrees : List Text → List Text → Type 0)
    (Computed : List Text → List Text → Text → Type 0) (Neutral : List Text → Text → Type 0)
    (ValidMirror ValidCosigner : List Text → Type 0) (mirror cosigner : Text) where
  abbrev pub mirror_files : FileOwner p
  mirror_files = record {
    Own = λ n. IsOneFile p n mirror ⊎ IsOneFile p n cosigner;
    EventOf = MirrorEvent;
    LeadsTo = LeadsMirror agrees Computed Neutral ValidMirror ValidCosigner
        (states_of p mirror) (states_of p cosigner);
    none = none_of_mirror;
    run_event = λ old run. mirror_event_with (broke_off p run) (heard_of p run)
        (did_to p mirror old run) (did_to p cosigner old run);
    broken_event = λ old run.
        broke_mirror (did_to p mirror old run) (did_to p cosigner old run);
    Cuts = λ old run room. ⊥;
  }

  -- Runs of the program do with both what they may, and leave what they have to leave of both at
  -- once.
  pub record ServesMirror : Type 0 where
    pub rooms : KeepsRooms p
    pub may : (old : p.R) (run : Run p.R p.O p.E) → p.rooms.is_modelled old → p.HasRun old run
        → MayDo agrees Computed Neutral (did_to p mirror old run) (did_to p cosigner old run)
    pub leaves : (old : p.R) (run : Run p.R p.O p.E) → p.rooms.is_modelled old → p.HasRun old run
        → LeavesAll (broke_off p run)
        (journal_work ValidMirror mirror (did_to p mirror old run)
        ∷ journal_work ValidCosigner cosigner (did_to p cosigner old run) ∷ [])
        (all_states p old) (all_states p run.room)

  abbrev pub MirrorRunsMayBreak : Type 0
  MirrorRunsMayBreak = ServesMirror → RunsMayBreak p mirror_files

  -- They agree from then on, through every execution.
  abbrev pub ExecutionsAgree : Type 0
  ExecutionsAgree = ServesMirror
      → KeepsAgreement agrees Computed Neutral ValidMirror ValidCosigner
      → (items steps : List Text) (old new : p.R) (events : List (FileEvent p.R p.O p.E))
      → p.rooms.is_modelled old → IsFileExecution p mirror_files old events new
      → IsDurablePrefix ValidMirror items (states_of p mirror old)
      → IsDurablePrefix ValidCosigner steps (states_of p cosigner old)
      → Agree agrees Computed Neutral (states_of p mirror old)
      (states_of p cosigner old)
      → Agree agrees Computed Neutral (states_of p mirror new)
      (states_of p cosigner new)
