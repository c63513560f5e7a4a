-- Histories by the records of a journal: which of them are durable, which one is pending, and which
-- were released.
use Rattle.std.specs.Prelude.{◌≡◌, ℕ, List, [], ◌∷◌, ◌++◌, Option}
use Rattle.byte_formats.specs.Types.{HashFunction, Text}
use Rattle.party_history.specs.Laws.{LeadsTo, released_bodies}
use Rattle.party_history.specs.Parties.{HistoryState}
use Rattle.party_history.specs.Rules.{StartsWith, may_follow}
use Rattle.party_history.specs.declared.start.PartyStart.{PartyStart}
use Rattle.party_history.specs.declared.step.PartyStep.{PartyStep}

-- More steps follow these, and leave the party with this index so: its journal begins with this
-- record, these are its durable ones, this one is pending, and these were released.
pub record Continues (h : HashFunction) (starts : List PartyStart) (place : ℕ) (first : Text)
    (steps : List PartyStep) (list : List Text) (pending : Option Text) (out : List Text)
    : Type 0 where
  pub more : List PartyStep
  pub state : HistoryState
  pub leads : LeadsTo (may_follow h) starts (steps ++ more) place state
  pub list_is : list ≡ first ∷ state.durable
  pub pending_is : pending ≡ state.pending
  pub out_is : out ≡ released_bodies state

-- Each party that begins with the first of the records has a history that leaves its journal so.
pub record HasHistory (h : HashFunction) (list : List Text) (pending : Option Text)
    (out : List Text) : Type 0 where
  pub first : Text
  pub durable : List Text
  pub are : list ≡ first ∷ durable
  pub of_party : (start : PartyStart) → StartsWith start first
      → Continues h (start ∷ []) 0 first [] list pending out
