-- What is durable of a cosigner's journal, even if an append has failed: the records before the end
-- at which that append began make the cosigner.
use Rattle.std.specs.Prelude.{◌≡◌, ℕ, Ok}
use Rattle.std.proofs.Props.{props}
use Rattle.byte_formats.specs.Types.{HashFunction, Text}
use Rattle.journal_core.specs.Ends.{AreDurable, AreDurable-prop, durable_of}
use Rattle.cosigner_core.specs.Folds.{CosignerState, cosigner_of}

-- They stand in the bytes up to that end, and make this cosigner.
pub record IsDurableAs (h : HashFunction) (s : CosignerState) (end : ℕ)
    (bytes : Text) : Type 0 where
  pub is_durable : AreDurable end bytes
  pub made : cosigner_of h (durable_of end bytes) ≡ Ok s

-- it has one proof at most
pub IsDurableAs-prop : (h : HashFunction) (s : CosignerState) (end : ℕ) (bytes : Text)
    → IsProp (IsDurableAs h s end bytes)
IsDurableAs-prop h s end bytes = hlevel (props, AreDurable-prop end bytes)
