-- What a call that reads or takes a record answers, and what it leaves of the cosigner.
use Rattle.std.specs.Prelude.{◌≡◌, Option, Some, None, Result, Ok, Err}
use Rattle.cosigner_core.specs.Folds.{CosignerState}
use Rattle.cosigner_core.specs.declared.error.RecordError.{RecordError}
use Rattle.cosigner_core.specs.declared.error.RecordError.TheVariants.{Unfit, Memory}

-- what was wanted is found, or there is none, or memory was refused
abbrev pub CosignerFinds : {X Y : Type 0} → (X → Y) → Option Y → Result X RecordError → Type 0
CosignerFinds view wanted (Ok x) = wanted ≡ Some (view x)
CosignerFinds view wanted (Err Unfit) = wanted ≡ None
CosignerFinds view wanted (Err Memory) = Unit {0}

-- the cosigner becomes what was wanted; where there is none it stays
abbrev pub CosignerTakes : Option CosignerState → CosignerState → Result (Unit {0}) RecordError
    → CosignerState → Type 0
CosignerTakes wanted old (Ok done) new = wanted ≡ Some new
CosignerTakes wanted old (Err Unfit) new = (wanted ≡ None) × (new ≡ old)
CosignerTakes wanted old (Err Memory) new = new ≡ old
