-- What the calls of a history answer.
use Rattle.std.specs.Prelude.{◌≡◌, ℕ, Bool, true, false, List, Option, Some, None, Result, Ok, Err}
use Rattle.party_history.specs.Parties.{HistoryState}
use Rattle.party_history.specs.declared.error.HistoryError.{HistoryError}
use Rattle.party_history.specs.declared.error.HistoryError.TheVariants.{NotAStep, Memory}

-- The step was taken, and leaves what was wanted; or there is no such step.
abbrev pub HasMoved : {S : Type 0} → Option S → S → Bool → Type 0
HasMoved wanted new true = wanted ≡ Some new
HasMoved wanted new false = wanted ≡ None

-- The states or the refused step are those that were wanted, seen so; or memory was refused.
abbrev pub AnswersHistory : {X : Type 0} → (X → List HistoryState) → Result (List HistoryState) ℕ
    → Result X HistoryError → Type 0
AnswersHistory view wanted (Ok states) = wanted ≡ Ok (view states)
AnswersHistory view wanted (Err (NotAStep k)) = wanted ≡ Err k
AnswersHistory view wanted (Err Memory) = Unit {0}
