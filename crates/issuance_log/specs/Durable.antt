-- What is certain of a log's journal, also where an append has failed: the records before the end
-- at which that append began make the log, and its items are retained.
use Rattle.std.specs.Prelude.{ℕ, List, Option}
use Rattle.std.proofs.Props.{props}
use Rattle.byte_formats.specs.Types.{Hash, HashFunction, Text}
use Rattle.journal_core.specs.Ends.{AreDurable, AreDurable-prop, durable_of}
use Rattle.issuance_log.specs.Folds.{LogView}
use Rattle.issuance_log.specs.Items.{AreKept, AreKept-prop}

-- They stand in the bytes up to that end, and make what the log shows.
pub record IsDurableLog (h : HashFunction) (v : LogView) (offsets : List ℕ)
    (leaves : Option (List Hash)) (end : ℕ) (bytes : Text) : Type 0 where
  pub durable : AreDurable end bytes
  pub kept : AreKept h v offsets leaves (durable_of end bytes)

-- it has one proof at most
pub IsDurableLog-prop : (h : HashFunction) (v : LogView) (offsets : List ℕ)
    (leaves : Option (List Hash)) (end : ℕ) (bytes : Text)
    → IsProp (IsDurableLog h v offsets leaves end bytes)
IsDurableLog-prop h v offsets leaves end bytes =
    hlevel (
      props,
      AreDurable-prop end bytes,
      AreKept-prop h v offsets leaves (durable_of end bytes),
    )
