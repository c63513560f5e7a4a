-- What holds in every history.
use Rattle.std.specs.Prelude.{◌≡◌, ℕ, ◌+◌, ◌<◌, ◌≤◌, true, List, [], ◌∷◌, ◌++◌, length, slice_get}
use Rattle.std.specs.Prelude.{slice_index_or, map, Some, IfSome, Contains, Ok}
use Rattle.byte_formats.specs.Types.{Text}
use Rattle.file_events.specs.Executions.{IsPrefix}
use Rattle.issuance_log.specs.Folds.{LogState}
use Rattle.mirror_core.specs.Folds.{MirrorState}
use Rattle.party_history.specs.Histories.{Valid, history_of}
use Rattle.party_history.specs.Parties.{HistoryState}
use Rattle.party_history.specs.declared.start.PartyStart.{PartyStart}
use Rattle.party_history.specs.declared.step.PartyStep.{PartyStep}
use Rattle.party_history.specs.declared.step.PartyStep.TheVariants.{Begin}

-- the numbers rise strictly, and the first is above `low`
abbrev pub RisesFrom : ℕ → List ℕ → Type 0
RisesFrom low [] = Unit {0}
RisesFrom low (n ∷ ns) = (low < n) × RisesFrom n ns

-- none of the numbers is above `high`
abbrev pub AreAtMost : ℕ → List ℕ → Type 0
AreAtMost high [] = Unit {0}
AreAtMost high (n ∷ ns) = (n ≤ high) × AreAtMost high ns

-- The records of a party are valid, with the pending one and without it. The numbers of the
-- released records rise strictly, and are those of durable ones; if the last durable record may be
-- released, it was not yet.
pub record IsSoundParty (valid : Valid) (s : HistoryState) : Type 0 where
  pub durable : valid s.start s.durable ≡ true
  pub pending : IfSome s.pending (λ body. valid s.start (s.durable ++ body ∷ []) ≡ true)
  pub rise : RisesFrom 0 s.released
  pub there : AreAtMost (length s.durable) s.released
  pub some : s.may_release ≡ true → 0 < length s.durable
  pub may : s.may_release ≡ true → (before : ℕ) → before + 1 ≡ length s.durable
      → AreAtMost before s.released

-- A party after more steps: it began so, and what was durable and what was released stay.
pub record HasGrown (old new : HistoryState) : Type 0 where
  pub start : new.start ≡ old.start
  pub durable : IsPrefix old.durable new.durable
  pub released : IsPrefix old.released new.released

-- Each body of the party with this index is one that a step of it began.
pub record WerePending (steps : List PartyStep) (place : ℕ) (s : HistoryState) : Type 0 where
  pub durable : (body : Text) → Contains s.durable body → Contains steps (Begin place body)
  pub pending : IfSome s.pending (λ body. Contains steps (Begin place body))

-- The number of a released record is that of a durable one, which a step of the party began: record
-- 0 is the first one of its journal, and the durable ones follow it.
pub record IsOfDurable (steps : List PartyStep) (place : ℕ) (s : HistoryState)
    (number : ℕ) : Type 0 where
  pub before : ℕ
  pub is : number ≡ before + 1
  pub body : Text
  pub durable : slice_get s.durable before ≡ Some body
  pub began : Contains steps (Begin place body)

-- The body of the durable record with this number: the first of them has number 1.
abbrev pub body_in : List Text → ℕ → Text
body_in durable number = slice_index_or ([] ∷ durable) number []

-- The bodies of the released records, in their order.
abbrev pub released_bodies : HistoryState → List Text
released_bodies s = map (body_in s.durable) s.released

-- These steps of parties that begin so are allowed, and leave the party with this index so.
pub record LeadsTo (valid : Valid) (starts : List PartyStart) (steps : List PartyStep) (place : ℕ)
    (s : HistoryState) : Type 0 where
  pub states : List HistoryState
  pub allowed : history_of valid starts steps ≡ Ok states
  pub there : slice_get states place ≡ Some s

-- The entries and the keys of a log are still there, at their indices, in a later one.
pub record KeepsItems (s t : LogState) : Type 0 where
  pub entries : IsPrefix s.entries t.entries
  pub keys : IsPrefix s.keys t.keys

-- A log has this entry and this key at an index.
pub record HasItemAt (index : ℕ) (entry key : Text) (s : LogState) : Type 0 where
  pub entry_is : slice_get s.entries index ≡ Some entry
  pub key_is : slice_get s.keys index ≡ Some key

-- A mirror is of the same log as an earlier one, whose items are still there, at their indices.
pub record KeepsMirroredItems (s t : MirrorState) : Type 0 where
  pub log : t.log ≡ s.log
  pub items : IsPrefix s.items t.items
