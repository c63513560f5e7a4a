-- What a call that takes a record answers, and what it leaves of what the mirror shows.
use Rattle.std.specs.Prelude.{◌≡◌, Option, Some, None, Result, Ok, Err}
use Rattle.tls_wire.specs.declared.fault.AnchorBytesError.{AnchorBytesError}
use Rattle.tls_wire.specs.declared.fault.AnchorBytesError.TheVariants as id
use Rattle.mirror_core.specs.Folds.{MirrorView}
use Rattle.mirror_core.specs.declared.error.RecordError.{RecordError}
use Rattle.mirror_core.specs.declared.error.RecordError.TheVariants.{Unfit, Memory}

-- an id that is none, or memory that ran out for it
abbrev pub mirror_id_fault : AnchorBytesError → RecordError
mirror_id_fault id.Empty = Unfit
mirror_id_fault (id.Padding place) = Unfit
mirror_id_fault id.Unfinished = Unfit
mirror_id_fault id.TooLong = Unfit
mirror_id_fault (id.ArcTooLarge place) = Unfit
mirror_id_fault id.Memory = Memory

-- what was wanted is found, or there is none, or memory was refused
abbrev pub MirrorFinds : {X Y : Type 0} → (X → Y) → Option Y → Result X RecordError → Type 0
MirrorFinds view wanted (Ok x) = wanted ≡ Some (view x)
MirrorFinds view wanted (Err Unfit) = wanted ≡ None
MirrorFinds view wanted (Err Memory) = Unit {0}

-- memory was refused
abbrev pub IsRecordMemory : {X : Type 0} → Result X RecordError → Type 0
IsRecordMemory (Ok x) = ⊥
IsRecordMemory (Err Unfit) = ⊥
IsRecordMemory (Err Memory) = Unit {0}

-- the mirror shows what was wanted; where there is none, or memory was refused, it shows what it
-- did
abbrev pub MirrorTakes : Option MirrorView → MirrorView → Result (Unit {0}) RecordError → MirrorView
    → Type 0
MirrorTakes wanted old (Ok done) new = wanted ≡ Some new
MirrorTakes wanted old (Err Unfit) new = (wanted ≡ None) × (new ≡ old)
MirrorTakes wanted old (Err Memory) new = new ≡ old
