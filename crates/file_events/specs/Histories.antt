-- What became of a journal, as a history of its records: a second account of an execution.
use Rattle.std.specs.Prelude.{Bool, List, [], ◌∷◌, ◌++◌, Option, None, Some, if◌then◌else◌}
use Rattle.byte_formats.specs.Types.{Text}
use Rattle.journal_core.specs.Format.{Represents, RepresentsEither}
use Rattle.file_events.specs.Events.{CrashStates, Event, FirstHolds, all_released}
use Rattle.file_events.specs.Laws.{IsJournalExecution}

-- A history leads so far: these records are durable, the first one of the journal among them; this
-- one is pending; and these were released, in their order.
abbrev pub History : Type 1
History = List Text → Option Text → List Text → Type 0

-- The records that are found after a stop: with the pending one, or without it.
abbrev pub recovered : Bool → List Text → Option Text → List Text
recovered kept list None = list
recovered kept list (Some body) = if kept then list ++ body ∷ [] else list

-- Whatever valid records there are, a history reaches them that releases none.
abbrev pub ReachesAll : (List Text → Type 0) → History → Type 0
ReachesAll Valid Reaches = (list : List Text) → Valid list → Reaches list None []

-- The steps of a history, by the rules of the journal: a stop keeps a pending record, or not; where
-- none is pending a record may be appended; and it becomes durable, and then may be released.
pub record TakesSteps (Valid : List Text → Type 0) (Reaches : History) : Type 0 where
  pub stops : (kept : Bool) (list : List Text) (pending : Option Text) (out : List Text)
      → Reaches list pending out → Reaches (recovered kept list pending) None out
  pub begins : (list : List Text) (body : Text) (out : List Text) → Valid (list ++ body ∷ [])
      → Reaches list None out → Reaches list (Some body) out
  pub ends : (list : List Text) (body : Text) (out : List Text) → Reaches list (Some body) out
      → Reaches (list ++ body ∷ []) None out
  pub releases : (list : List Text) (body : Text) (out : List Text) → Reaches list (Some body) out
      → Reaches (list ++ body ∷ []) None (out ++ body ∷ [])

-- A crash state represents the durable records, or these and the pending one.
abbrev pub RepresentsPending : List Text → Option Text → Text → Type 0
RepresentsPending list None c = Represents c list
RepresentsPending list (Some body) c = RepresentsEither list body c

-- A history leads to what each crash state represents, and has released these records.
pub record IsHistory (Reaches : History) (out : List Text) (states : CrashStates) : Type 0 where
  pub list : List Text
  pub pending : Option Text
  pub reaches : Reaches list pending out
  pub some : (c : Text) × states c
  pub each : (c : Text) → states c → RepresentsPending list pending c

module _ {W : Type 0} (states : W → CrashStates) (Valid : List Text → Type 0)
    (Reaches : History) where
  -- Whatever happens to a journal with a history: it continues, and releases what was released.
  abbrev pub HistoriesContinue : Type 0
  HistoriesContinue =
      TakesSteps Valid Reaches → (out : List Text) (old new : W) (events : List Event)
      → IsHistory Reaches out (states old) → IsJournalExecution states Valid old events new
      → IsHistory Reaches (out ++ all_released events) (states new)

  -- Each execution whose first event held some records is a history from there on.
  abbrev pub ExecutionsAreHistories : Type 0
  ExecutionsAreHistories = TakesSteps Valid Reaches → ReachesAll Valid Reaches
      → (first : List Text) (old new : W) (events : List Event) → FirstHolds first events
      → IsJournalExecution states Valid old events new
      → IsHistory Reaches (all_released events) (states new)
