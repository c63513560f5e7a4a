-- The kinds of journals that commands work on.
use Rattle.std.specs.Prelude.{Option}
use Rattle.byte_formats.specs.Types.{Text}
use Rattle.journal_core.specs.Folds.{Fold}

-- For each kind: the state of its parties after their records and why a file is no journal of it,
-- with the text of that; the name of the file that goes with a journal of some name, where there is
-- one; and what such a file with some bytes lacks of a party with some state, if it lacks
-- something.
pub record Kinds : Type 1 where
  pub Kind : Type 0
  pub State : Kind → Type 0
  pub Fault : Kind → Type 0
  pub fold : (kind : Kind) → Fold (State kind) (Fault kind)
  pub fault_text : (kind : Kind) → Fault kind → Text
  pub beside : Kind → Text → Option Text
  pub lacks : (kind : Kind) → State kind → Text → Option Text
