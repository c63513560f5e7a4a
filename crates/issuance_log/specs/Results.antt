-- What a call that takes a record answers, and what it leaves of what the log shows.
use Rattle.std.specs.Prelude.{◌≡◌, ℕ, ◌≤◌, Bool, true, false, Option, Some, None, Result, Ok, Err}
use Rattle.issuance_log.specs.Folds.{LogNumbers, LogView}
use Rattle.issuance_log.specs.declared.error.RecordError.{RecordError}
use Rattle.issuance_log.specs.declared.error.RecordError.TheVariants.{Unfit, Memory}

-- what was wanted is found, or there is none, or memory was refused
abbrev pub LogFinds : {X Y : Type 0} → (X → Y) → Option Y → Result X RecordError → Type 0
LogFinds view wanted (Ok x) = wanted ≡ Some (view x)
LogFinds view wanted (Err Unfit) = wanted ≡ None
LogFinds view wanted (Err Memory) = Unit {0}

-- memory was refused
abbrev pub IsMemoryRefused : {X : Type 0} → Result X RecordError → Type 0
IsMemoryRefused (Ok x) = ⊥
IsMemoryRefused (Err Unfit) = ⊥
IsMemoryRefused (Err Memory) = Unit {0}

-- there is capacity for a landmark, where a record has one
abbrev pub HasMarkCapacity : LogNumbers → Option ℕ → Type 0
HasMarkCapacity numbers None = Unit {0}
HasMarkCapacity numbers (Some size) = 1 ≤ numbers.mark_spare

-- the log shows what was wanted; where there is none, or memory was refused, it shows what it did
abbrev pub LogTakes : Option LogView → LogView → Result (Unit {0}) RecordError → LogView → Type 0
LogTakes wanted old (Ok done) new = wanted ≡ Some new
LogTakes wanted old (Err Unfit) new = (wanted ≡ None) × (new ≡ old)
LogTakes wanted old (Err Memory) new = new ≡ old

-- the log shows what was wanted, or there is none, by the answer
abbrev pub HasTried : {E : Type 0} → Option LogView → LogView → Result Bool E → Type 0
HasTried wanted new (Ok true) = wanted ≡ Some new
HasTried wanted new (Ok false) = wanted ≡ None
HasTried wanted new (Err refused) = Unit {0}
