-- What holds of each execution of a journal.
use Rattle.std.specs.Prelude.{◌≡◌, List, [], ◌∷◌, ◌++◌, Option, Some}
use Rattle.byte_formats.specs.Types.{Text}
use Rattle.journal_core.specs.Format.{Represents}
use Rattle.file_events.specs.Events.{CrashStates, Event, Leads, MayRecover, WereHeld}
use Rattle.file_events.specs.Events.{HasReleased}
use Rattle.file_events.specs.Executions.{IsExecution, IsPrefix}
use Rattle.file_events.specs.Keys.{KeyUse, UsesOnce}

module _ (Valid : List Text → Type 0) where
  -- The bytes represent valid records, and these are the first of them.
  pub record IsReadAfter (prefix : List Text) (c : Text) : Type 0 where
    pub list : List Text
    pub stands : Represents c list
    pub begins : IsPrefix prefix list
    pub valid : Valid list

  -- The records are durable: each crash state is read, and begins with them; and there is one.
  pub record IsDurablePrefix (prefix : List Text) (states : CrashStates) : Type 0 where
    pub some : (c : Text) × states c
    pub each : (c : Text) → states c → IsReadAfter prefix c

module _ {W : Type 0} (states : W → CrashStates) (Valid : List Text → Type 0) where
  -- The events of a journal lead from one world to the other.
  abbrev pub IsJournalExecution : W → List Event → W → Type 0
  IsJournalExecution = IsExecution (λ event old new. Leads Valid event (states old) (states new))

  -- Records that were durable before an execution are durable after it.
  abbrev pub DurableStay : Type 0
  DurableStay = (prefix : List Text) (old new : W) (events : List Event)
      → IsDurablePrefix Valid prefix (states old) → IsJournalExecution old events new
      → IsDurablePrefix Valid prefix (states new)

  -- Those that a run held are durable from then on.
  abbrev pub HeldAreDurable : Type 0
  HeldAreDurable = (list : List Text) (old new : W) (events : List Event) → WereHeld events list
      → IsJournalExecution old events new → IsDurablePrefix Valid list (states new)

  -- So are those that were released, each with the records before it.
  abbrev pub ReleasedAreDurable : Type 0
  ReleasedAreDurable = (list : List Text) (body : Text) (old new : W) (events : List Event)
      → HasReleased events list body → IsJournalExecution old events new
      → IsDurablePrefix Valid (list ++ body ∷ []) (states new)

  -- Whatever is recovered after a run that held some records is valid, and begins with them.
  abbrev pub RecoveredIsValid : Type 0
  RecoveredIsValid = (first list : List Text) (old new : W) (events : List Event)
      → WereHeld events first → IsJournalExecution old events new
      → MayRecover (states new) list → Valid list × IsPrefix first list

  -- Where valid records use no key twice: two records that runs held, each with whatever followed
  -- it, and which used one key, are one record.
  abbrev pub KeysAreOfOneMessage : (List Text → Text → Option KeyUse) → Type 0
  KeysAreOfOneMessage use_of = ((list : List Text) → Valid list → UsesOnce use_of list)
      → (old new : W) (events : List Event) → IsJournalExecution old events new
      → (list other more others : List Text) (body message : Text) (key : KeyUse)
      → WereHeld events (list ++ body ∷ more) → WereHeld events (other ++ message ∷ others)
      → use_of list body ≡ Some key → use_of other message ≡ Some key → body ≡ message
