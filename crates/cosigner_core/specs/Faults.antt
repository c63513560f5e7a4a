-- Faults of the parts of a record as faults of the record.
use Rattle.tls_wire.specs.declared.fault.AnchorBytesError.{AnchorBytesError}
use Rattle.tls_wire.specs.declared.fault.AnchorBytesError.TheVariants as id
use Rattle.cosigner_core.specs.declared.error.RecordError.{RecordError}
use Rattle.cosigner_core.specs.declared.error.RecordError.TheVariants.{Unfit, Memory}

-- an id that is none, or memory that ran out for it
abbrev pub cosigner_id_fault : AnchorBytesError → RecordError
cosigner_id_fault id.Empty = Unfit
cosigner_id_fault (id.Padding place) = Unfit
cosigner_id_fault id.Unfinished = Unfit
cosigner_id_fault id.TooLong = Unfit
cosigner_id_fault (id.ArcTooLarge place) = Unfit
cosigner_id_fault id.Memory = Memory
