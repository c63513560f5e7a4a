-- An entry that is read back from a journal.
use Rattle.std.specs.Prelude.{◌≡◌, ℕ, List, take, Result, Ok, Err}
use Rattle.byte_formats.specs.Types.{Text}
use Rattle.journal_core.specs.Words.{HoldsBody}
use Rattle.mtc_io.specs.Counts.{Rose}
use Rattle.issuance_log.specs.declared.error.LogError.{LogError}
use Rattle.issuance_log.specs.declared.error.LogError.TheVariants.{Failed, Memory}

-- Bytes that were read from an offset on, which may go past the body that has it: so many of the
-- first ones are that part of it, where they end within.
abbrev pub AgreesWithBody : ℕ → Text → List Text → Type 0
AgreesWithBody place read list = (count : ℕ) → HoldsBody place (take count read) list

-- Nothing is said of the item: memory was refused, or a disk failed.
abbrev pub IsNoAnswer : LogError → Type 0
IsNoAnswer Failed = Unit {0}
IsNoAnswer Memory = Unit {0}
IsNoAnswer other = ⊥

-- A count of failures rose where a call answers `Failed`, and is as it was where it answers
-- anything else.
abbrev pub LogCounts : {X : Type 0} → ℕ → ℕ → Result X LogError → Type 0
LogCounts before after (Ok answer) = after ≡ before
LogCounts before after (Err Failed) = Rose before after
LogCounts before after (Err other) = after ≡ before
