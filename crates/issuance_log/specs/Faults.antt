-- Faults of the parts of a record as faults of the record.
use Rattle.std.specs.Prelude.{Option, Some}
use Rattle.journal_core.specs.declared.error.OpenError.TheVariants as open_error
use Rattle.state_journal.specs.declared.error.StateOpenError.{StateOpenError}
use Rattle.state_journal.specs.declared.error.StateOpenError.TheVariants as state
use Rattle.tile_store.specs.declared.error.TileError.{TileError}
use Rattle.tile_store.specs.declared.error.TileError.TheVariants as tile_error
use Rattle.tls_wire.specs.declared.fault.AnchorBytesError.{AnchorBytesError}
use Rattle.tls_wire.specs.declared.fault.AnchorBytesError.TheVariants as id
use Rattle.issuance_log.specs.declared.error.LogOpenError.{LogOpenError}
use Rattle.issuance_log.specs.declared.error.LogOpenError.TheVariants.{BadRecord, Open, Tile}
use Rattle.issuance_log.specs.declared.error.RecordError.{RecordError}
use Rattle.issuance_log.specs.declared.error.RecordError.TheVariants.{Unfit, Memory}

-- an id that is none, or memory that ran out for it
abbrev pub log_id_fault : AnchorBytesError → RecordError
log_id_fault id.Empty = Unfit
log_id_fault (id.Padding place) = Unfit
log_id_fault id.Unfinished = Unfit
log_id_fault id.TooLong = Unfit
log_id_fault (id.ArcTooLarge place) = Unfit
log_id_fault id.Memory = Memory

-- Why a journal isn't opened as a log's, by why its records aren't read, and why tiles were not
-- adopted.
abbrev pub open_refusal : StateOpenError → Option TileError → LogOpenError
open_refusal (state.BadRecord number) refusal = BadRecord number
open_refusal (state.Open open_error.Memory) (Some tile_error.Failed) = Tile tile_error.Failed
open_refusal (state.Open why) refusal = Open why
