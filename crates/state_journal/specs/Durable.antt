-- What is durable in a journal, even if an append has failed: the records before the end at which
-- that append began, and what holds of them.
use Rattle.std.specs.Prelude.{ℕ, List}
use Rattle.byte_formats.specs.Types.{Text}
use Rattle.journal_core.specs.Ends.{AreDurable, durable_of}

-- They stand in the bytes up to that end, and this holds of them.
pub record IsDurableWith (P : List Text → Type 0) (end : ℕ) (bytes : Text) : Type 0 where
  pub durable : AreDurable end bytes
  pub holds : P (durable_of end bytes)
