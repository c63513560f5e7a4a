-- What the calls of a journal of items answer, by what its journal refuses.
use Rattle.std.specs.Prelude.{◌≡◌, Option, None, Result, Ok, Err}
use Rattle.issuance_log.specs.Changes.{IsJournalAnswer}
use Rattle.journal_core.specs.declared.error.AppendError.{AppendError}
use Rattle.tiled_items.specs.declared.error.TiledError.{TiledError}
use Rattle.tiled_items.specs.declared.error.TiledError.TheVariants.{Append, Memory}

-- The journal alone refuses, and this.
abbrev pub KeepsToTiledJournal : {X : Type 0} → Option AppendError → Result X TiledError → Type 0
KeepsToTiledJournal wanted (Ok answer) = wanted ≡ None
KeepsToTiledJournal wanted (Err why) =
    (refused : AppendError) × ((why ≡ Append refused) × IsJournalAnswer wanted refused)

-- The answer to a record follows this refusal of the journal. Memory may be refused before it.
abbrev pub RecordKeepsTo : Option AppendError → Result (Unit {0}) TiledError → Type 0
RecordKeepsTo wanted (Ok done) = wanted ≡ None
RecordKeepsTo wanted (Err (Append why)) = IsJournalAnswer wanted why
RecordKeepsTo wanted (Err Memory) = Unit {0}
RecordKeepsTo wanted (Err other) = ⊥
