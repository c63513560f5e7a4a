-- What holds of each execution of a journal, from the run on that made or opened it.
use Rattle.std.specs.Prelude.{◌≡◌, ◌⊎◌, ◌↔◌, true, List, [], ◌∷◌, ◌++◌, length, Some, Ok}
use Rattle.byte_formats.specs.Types.{HashFunction, Text}
use Rattle.mtc_top.specs.Executions.{owner, WasHeld, IsBegun, IsReached, Run, FileEvent}
use Rattle.file_events.specs.Executions.{IsPrefix}
use Rattle.journal_core.specs.Format.{Represents}
use Rattle.cosigner_core.specs.Counts.{AreCounted}
use Rattle.cosigner_core.specs.Records.{step_in}
use Rattle.cosigner_core.specs.declared.settings.CosignerSettings.{CosignerSettings}
use Rattle.cosigner_core.specs.declared.step.Step.{Step}
use Rattle.issuance_log.specs.Folds.{LogState, log_of}
use Rattle.issuance_log.specs.Records.{item_in}
use Rattle.issuance_log.specs.Settings.{Settings}
use Rattle.mirror_core.specs.Folds.{MirrorState, mirror_of}
use Rattle.party_history.specs.KeyUses.{UseOneKey}
use Rattle.party_history.specs.Laws.{HasItemAt, KeepsItems, KeepsMirroredItems}
use Rattle.party_history.specs.Rules.{IsReadAs, StartsWith, may_follow}
use Rattle.party_history.specs.declared.start.PartyStart.{PartyStart}
use Rattle.party_history.specs.declared.start.PartyStart.TheVariants.{Log, Cosigner, Mirror}
use Rattle.file_events.specs.Events.{HasReleased, MayRecover, EventHolds}
use Rattle.file_events.specs.Worlds.{Program, EachRun, IsFileExecution, own_events, states_of}
use Rattle.file_events.specs.Worlds.{IsOneFile, heard_of}
use Rattle.file_events.specs.Owners.{did_to}
use Rattle.mtc_command.specs.Made.{appended}

-- These records begin with the first one of the party's journal, and the others may follow it.
pub record AreOfParty (h : HashFunction) (start : PartyStart) (first : Text)
    (list : List Text) : Type 0 where
  pub others : List Text
  pub is : list ≡ first ∷ others
  pub valid : may_follow h start others ≡ true

module _ (h : HashFunction) (p : Program) where
  -- This holds of each execution that begins with a run that made or opened the journal.
  abbrev pub OfExecutions :
      (Text → PartyStart → Text → p.R → List (FileEvent p.R p.O p.E) → p.R → Type 0)
      → Type 0
  OfExecutions P = (name : Text) (start : PartyStart) (first : Text) (old new : p.R)
      (events : List (FileEvent p.R p.O p.E)) → IsBegun h p name start first old events
      → IsFileExecution p (owner h p name) old events new → P name start first old events new

  -- An execution is of a file, however it is named: one of a name's journal is one of each name of
  -- that place, with the same events, and a crash may leave the same of both.
  abbrev pub ExecutionsAreOfFiles : Type 0
  ExecutionsAreOfFiles = (name other : Text) → IsOneFile p name other → (old new : p.R)
      (events : List (FileEvent p.R p.O p.E)) → p.rooms.is_modelled old
      → IsFileExecution p (owner h p name) old events new
      → IsFileExecution p (owner h p other) old events new
      × ((own_events p (owner h p other) old events ≡ own_events p (owner h p name) old events)
      × ((c : Text) → states_of p other new c ↔ states_of p name new c))

  -- It is a history of the party.
  abbrev pub ExecutionsHaveHistories : Type 0
  ExecutionsHaveHistories = OfExecutions (λ name start first old events new.
      IsReached h p name start first old events new)

  -- No journal is refused: what a crash may leave of the file, and what the file system has of it,
  -- as the model knows it, is read as the log, the cosigner or the mirror that has such records of
  -- the party.
  abbrev pub JournalsAreRead : Type 0
  JournalsAreRead = OfExecutions (λ name start first old events new.
      (c : Text) → states_of p name new c ⊎ (p.rooms.file new name ≡ Some c)
      → (records : List Text) × (AreOfParty h start first records × IsReadAs h start c records))

  -- The i-th Sign record of a cosigner, counted from 0, has the number i, and so has the i-th Child
  -- record, so no number stands twice.
  abbrev pub KeysSignOnce : Type 0
  KeysSignOnce = OfExecutions (λ name start first old events new.
      (settings : CosignerSettings) (public : Text) → start ≡ Cosigner settings public
      → (record0 : Text) (bodies : List Text)
      → MayRecover (states_of p name new) (record0 ∷ bodies) → AreCounted bodies)

  -- Two records that runs held, each with whatever followed it, and which used one key, are one
  -- record.
  abbrev pub KeysSignOneMessage : Type 0
  KeysSignOneMessage = OfExecutions (λ name start first old events new.
      (settings : CosignerSettings) (public : Text) → start ≡ Cosigner settings public
      → (list other more others : List Text) (body message : Text) (one two : Step)
      → WasHeld h p name old events (list ++ body ∷ more)
      → WasHeld h p name old events (other ++ message ∷ others)
      → step_in body ≡ Some one → step_in message ≡ Some two → UseOneKey one two
      → body ≡ message)

  -- Each crash state represents records, and those that a run found or made are the first of them.
  abbrev pub RecoveredListsGrow : Type 0
  RecoveredListsGrow =
      OfExecutions (λ name start first old events new. (list : List Text) (c : Text)
      → WasHeld h p name old events list
      → states_of p name new c
      → (found : List Text) × (Represents c found × IsPrefix list found))

  -- This holds of each record that was released, with those before it: a run added it, and a byte
  -- of the run may have gone out.
  abbrev pub OfReleased : Text → (List Text → Text → Type 0) → p.R → List (FileEvent p.R p.O p.E)
      → Type 0
  OfReleased name P = EachRun p (λ old run. (list : List Text)
      (body : Text) → did_to p name old run ≡ appended list body
      → heard_of p run ≡ true → P list body)

  -- A run that released a record is an event that releases it. The run held the record, after those
  -- that were there.
  abbrev pub ReleasedWasHeld : Type 0
  ReleasedWasHeld = OfExecutions (λ name start first old events new. OfReleased name (λ list body.
      HasReleased (own_events p (owner h p name) old events) list body
      × WasHeld h p name old events (list ++ body ∷ [])) old events)

  -- So if a record was released, each crash state represents records that begin with those that
  -- were there and that one.
  abbrev pub ReleasedStand : Type 0
  ReleasedStand = OfExecutions (λ name start first old events new. (c : Text)
      → states_of p name new c → OfReleased name (λ list body.
      (found : List Text) × (Represents c found × IsPrefix (list ++ body ∷ []) found)) old events)

  -- Each entry that a log had where a run found or made its records has its index in each log that
  -- may be recovered after it, and so has its key.
  abbrev pub EntriesStand : Type 0
  EntriesStand = OfExecutions (λ name start first old events new. (settings : Settings)
      (list found : List Text) (s : LogState) → start ≡ Log settings
      → WasHeld h p name old events list → log_of h list ≡ Ok s
      → MayRecover (states_of p name new) found
      → (log : LogState) × ((log_of h found ≡ Ok log) × KeepsItems s log))

  -- The item of a record that a run added is in each such log. Its index counts the entries before
  -- it, and is the one that `issue` prints.
  abbrev pub AddedEntriesStand : Type 0
  AddedEntriesStand = OfExecutions (λ name start first old events new. (settings : Settings)
      (list found : List Text) (body entry key : Text) (s : LogState)
      → start ≡ Log settings
      → WasHeld h p name old events (list ++ body ∷ [])
      → log_of h list ≡ Ok s → item_in body ≡ Some (entry, key)
      → MayRecover (states_of p name new) found
      → (log : LogState) × ((log_of h found ≡ Ok log)
      × HasItemAt (length s.entries) entry key log))

  -- A mirror keeps its log, and its items at their indices, in each mirror that may be recovered
  -- after a run found or made its records.
  abbrev pub MirroredItemsStand : Type 0
  MirroredItemsStand = OfExecutions (λ name start first old events new. (log : Text)
      (list found : List Text) (s : MirrorState) → start ≡ Mirror log
      → WasHeld h p name old events list → mirror_of h list ≡ Ok s
      → MayRecover (states_of p name new) found
      → (mirror : MirrorState) × ((mirror_of h found ≡ Ok mirror) × KeepsMirroredItems s mirror))

  -- Each journal that a run made or opened is that of a party, as the laws of executions suppose.
  abbrev pub JournalsAreOfParties : Type 0
  JournalsAreOfParties = (name : Text) (old : p.R) (run : Run p.R p.O p.E) (list : List Text)
      → p.rooms.is_modelled old → p.HasRun old run
      → EventHolds list ((owner h p name).run_event old run)
      → (start : PartyStart) × ((first : Text)
      × (StartsWith start first × AreOfParty h start first list))
