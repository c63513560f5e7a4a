-- A journal and the file of its tiles: whatever a crash leaves of one goes with whatever it leaves
-- of the other.
use Rattle.std.specs.Prelude.{◌⊎◌, Bool, List, [], ◌∷◌, ◌++◌, if◌then◌else◌}
use Rattle.byte_formats.specs.Types.{Text}
use Rattle.disk_core.specs.Disk.{NoNew}
use Rattle.journal_core.specs.Format.{Represents}
use Rattle.file_events.specs.Events.{CrashStates, Done, HalfDone, Journaled, appended, reads}
use Rattle.file_events.specs.Events.{started, untouched}
use Rattle.file_events.specs.Executions.{IsExecution}
use Rattle.file_events.specs.Laws.{IsDurablePrefix}

-- What a run does with the tiles: it only reads them, or it stores more of them.
pub data TilesWork : Type 0 where
  only_read : TilesWork
  stored : TilesWork

-- An event of a log: of its journal and its tiles at once. As those of a journal, with what the run
-- does with the tiles.
pub data LogEvent : Type 0 where
  elsewhere : LogEvent
  ran : Bool → Journaled → TilesWork → LogEvent
  broke : Journaled → TilesWork → LogEvent

abbrev pub log_event_with : Bool → Bool → Journaled → TilesWork → LogEvent
log_event_with broken heard did how = if broken then broke did how else ran heard did how

-- Which bytes of a file of tiles go with a journal that has these records.
module _ (goes : List Text → Text → Type 0) where
  abbrev pub AllGo : List Text → CrashStates → Type 0
  AllGo list tiles = (t : Text) → tiles t → goes list t

  -- Whatever a crash leaves of the journal goes with whatever it leaves of the tiles.
  abbrev pub Goes : CrashStates → CrashStates → Type 0
  Goes journal tiles = (c : Text) (list : List Text) → journal c → Represents c list
      → AllGo list tiles

  -- Tiles are stored, and after that a record is added: what is left of the tiles goes with the
  -- records that were there, and with the new one wherever it is there.
  pub record Stores (list : List Text) (body : Text) (tiles journal' tiles' : CrashStates)
      : Type 0 where
    pub keeps : AllGo list tiles → AllGo list tiles'
    pub following : AllGo list tiles → (c : Text) → journal' c → Represents c (list ++ body ∷ [])
        → AllGo (list ++ body ∷ []) tiles'

  module _ (Plain : List Text → Text → Type 0) where
    -- What is left of the tiles. A record that is added names no new size (it is plain) where they
    -- are only read.
    abbrev pub LeavesTiles : TilesWork → Journaled → CrashStates → CrashStates → CrashStates
        → Type 0
    LeavesTiles only_read untouched tiles journal' tiles' = NoNew tiles tiles'
    LeavesTiles only_read (reads list) tiles journal' tiles' = NoNew tiles tiles'
    LeavesTiles only_read (appended list body) tiles journal' tiles' =
        Plain list body × NoNew tiles tiles'
    LeavesTiles only_read (started body) tiles journal' tiles' = NoNew tiles tiles'
    LeavesTiles stored untouched tiles journal' tiles' = NoNew tiles tiles'
    LeavesTiles stored (reads list) tiles journal' tiles' = AllGo list tiles → AllGo list tiles'
    LeavesTiles stored (appended list body) tiles journal' tiles' =
        Stores list body tiles journal' tiles'
    LeavesTiles stored (started body) tiles journal' tiles' = NoNew tiles tiles'

    module _ (Valid : List Text → Type 0) where
      -- What an event leaves of both files. A run that broke off leaves nothing new of either, or
      -- it had begun to work on both.
      abbrev pub LogHappens : LogEvent → CrashStates → CrashStates → CrashStates → CrashStates
          → Type 0
      LogHappens elsewhere journal tiles journal' tiles' =
          NoNew journal journal' × NoNew tiles tiles'
      LogHappens (ran heard did how) journal tiles journal' tiles' =
          Done Valid did journal journal' × LeavesTiles how did tiles journal' tiles'
      LogHappens (broke did how) journal tiles journal' tiles' =
          (NoNew journal journal' × NoNew tiles tiles')
          ⊎ (HalfDone Valid did journal journal' × LeavesTiles how did tiles journal' tiles')

      pub record LogLeads (event : LogEvent) (journal tiles journal' tiles' : CrashStates)
          : Type 0 where
        pub some : (c : Text) × journal' c
        pub happens : LogHappens event journal tiles journal' tiles'

      -- A record that names no new size leaves it so that the tiles go with the records.
      abbrev pub PlainRecordsKeep : Type 0
      PlainRecordsKeep = (list : List Text) (body t : Text) → Plain list body
          → Valid (list ++ body ∷ []) → goes list t → goes (list ++ body ∷ []) t

      module _ {W : Type 0} (journal tiles : W → CrashStates) where
        -- The same of worlds, of which the crash states of both files count.
        abbrev pub LeadsLog : LogEvent → W → W → Type 0
        LeadsLog event old new =
            LogLeads event (journal old) (tiles old) (journal new) (tiles new)

        -- Where they go with each other they go so from then on, whatever happens to both.
        abbrev pub TilesGo : Type 0
        TilesGo = PlainRecordsKeep → (prefix : List Text) (old new : W) (events : List LogEvent)
            → IsDurablePrefix Valid prefix (journal old) → Goes (journal old) (tiles old)
            → IsExecution LeadsLog old events new
            → IsDurablePrefix Valid prefix (journal new) × Goes (journal new) (tiles new)

        -- A new log goes with any tiles.
        abbrev pub NewTilesGo : Type 0
        NewTilesGo = (body : Text) (old new : W) → ((t : Text) → goes (body ∷ []) t)
            → Done Valid (started body) (journal old) (journal new)
            → Goes (journal new) (tiles new)
