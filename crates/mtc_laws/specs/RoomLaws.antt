-- All journals of a file system at once: what became of them is one history.
use Rattle.std.specs.Prelude.{◌≡◌, List, [], ◌∷◌, map, Ok}
use Rattle.byte_formats.specs.Types.{HashFunction, Text}
use Rattle.mtc_top.specs.Executions.{owner, IsBegun, FileEvent}
use Rattle.party_history.specs.Histories.{history_of}
use Rattle.party_history.specs.Laws.{released_bodies}
use Rattle.party_history.specs.Parties.{HistoryState}
use Rattle.party_history.specs.Rules.{may_follow}
use Rattle.party_history.specs.declared.start.PartyStart.{PartyStart}
use Rattle.party_history.specs.declared.step.PartyStep.{PartyStep}
use Rattle.file_events.specs.Events.{all_released}
use Rattle.file_events.specs.Histories.{RepresentsPending}
use Rattle.file_events.specs.Worlds.{Program, IsFileExecution, own_events, states_of}

module _ (h : HashFunction) (p : Program) (room : p.R) where
  -- An execution of this journal led to the file system.
  pub record IsJournalOf : Type 0 where
    pub name : Text
    pub start : PartyStart
    pub first : Text
    pub old : p.R
    pub events : List (FileEvent p.R p.O p.E)
    pub begun : IsBegun h p name start first old events
    pub execution : IsFileExecution p (owner h p name) old events room

  -- Each crash state of the journal represents the state, and what the state has released is what
  -- the execution released.
  pub record StandsSo (journal : IsJournalOf) (state : HistoryState) : Type 0 where
    pub stands : (c : Text) → states_of p journal.name room c
        → RepresentsPending (journal.first ∷ state.durable) state.pending c
    pub released : released_bodies state
        ≡ all_released (own_events p (owner h p journal.name) journal.old journal.events)

  -- This holds of each journal and its state.
  abbrev pub EachStandsSo : List IsJournalOf → List HistoryState → Type 0
  EachStandsSo [] [] = Unit {0}
  EachStandsSo (journal ∷ journals) (state ∷ states) =
      StandsSo journal state × EachStandsSo journals states
  EachStandsSo journals states = ⊥

  -- One history of all parties leads to the states of the journals.
  pub record AreOneHistory (journals : List IsJournalOf) : Type 0 where
    pub steps : List PartyStep
    pub states : List HistoryState
    pub allowed : history_of (may_follow h)
        (map (λ (journal : IsJournalOf). journal.start) journals) steps ≡ Ok states
    pub each : EachStandsSo journals states

-- This holds of any journals of any file system.
abbrev pub JournalsAreOneHistory : HashFunction → Program → Type 0
JournalsAreOneHistory h p = (room : p.R) (journals : List (IsJournalOf h p room))
    → AreOneHistory h p room journals
