-- The outcomes of `tile J` and of `tile-anew J`.
use Rattle.std.specs.Prelude.{ℕ, ◌==◌, false, List, Option, Some, None}
use Rattle.std.specs.Prelude.{if◌then◌else◌}
use Rattle.byte_formats.specs.Types.{HashFunction, Text}
use Rattle.journal_core.specs.Format.{end_offset}
use Rattle.journal_core.specs.declared.error.AppendError.TheVariants as append_error
use Rattle.issuance_log.specs.Folds.{LogView, view_in}
use Rattle.issuance_log.specs.Openings.{FoundLog, log_read}
use Rattle.issuance_log.specs.Records.{tiles_record}
use Rattle.issuance_log.specs.Refusals.{full_size, tile_refusal}
use Rattle.issuance_log.specs.declared.error.LogError.{LogError}
use Rattle.issuance_log.specs.declared.error.LogError.TheVariants as log_error
use Rattle.mtc_command.specs.declared.answer.Stopped.TheVariants.{Beyond}
use Rattle.mtc_command.specs.declared.answer.Said.TheVariants.{Done}
use Rattle.mtc_command.specs.Answers.{Reply, Ending, replied, room_failed, no_memory, refused}
use Rattle.mtc_command.specs.Answers.{said, tiles_name}
use Rattle.mtc_command.specs.Steps.{Files, Outcome, answers_on, appends, held_in, with_file}
use Rattle.mtc_command.specs.Steps.{with_form}
use Rattle.issuance_log.specs.Reasons.{log_fault_text, log_open_text}
pub use Rattle.mtc_tiled.specs.BadTiles.{tiled_line}
use Rattle.mtc_authority.specs.LogOutcomes.{not_allowed}

-- Why a log stores no tiles.
abbrev pub tiles_refused : LogError → Reply
tiles_refused log_error.NothingNew = not_allowed (log_fault_text log_error.NothingNew)
tiles_refused why = refused Beyond None (log_fault_text why)

-- What comes of it in a command on this journal: they are refused, unless a device failed or memory
-- was refused.
abbrev pub tiles_ending : Text → LogError → Ending
tiles_ending journal log_error.Failed = room_failed (tiles_name journal)
tiles_ending journal (log_error.Append append_error.Failed) = room_failed journal
tiles_ending journal log_error.Memory = no_memory
tiles_ending journal why = replied (tiles_refused why)

-- These are the refusals of tiles by a log that was opened just now.
abbrev pub MayRefuseTiles : LogError → Type 0
MayRefuseTiles log_error.NothingNew = Unit {0}
MayRefuseTiles log_error.Memory = Unit {0}
MayRefuseTiles log_error.Failed = Unit {0}
MayRefuseTiles (log_error.Append append_error.Failed) = Unit {0}
MayRefuseTiles (log_error.Append append_error.Full) = Unit {0}
MayRefuseTiles why = ⊥

-- The tiles that the entries of a log fill are stored, where it shows this and has these records,
-- unless the log refuses it.
abbrev pub tiled_by : LogView → List Text → Option LogError → Outcome
tiled_by v list None = appends list (tiles_record (full_size v)) (tiled_line (full_size v))
tiled_by v list (Some why) = answers_on list (tiles_refused why)

-- What `tile` makes of a log that was found.
abbrev pub tile_says : FoundLog → Outcome
tile_says found = tiled_by (view_in found.state) found.records
    (tile_refusal (view_in found.state) false (end_offset found.records))

-- ---- `tile-anew`

-- The reply for a log that has recorded tiles up to this size: there have to be some.
abbrev pub rebuilt_reply : ℕ → Reply
rebuilt_reply size =
    if size == 0 then tiles_refused log_error.NothingNew else said Done (tiled_line size)

-- What `tile-anew` makes of a log that was found: it adds no record.
abbrev pub rebuilt_says : FoundLog → Outcome
rebuilt_says found = answers_on found.records (rebuilt_reply found.state.tiled)

-- Its outcome on a journal with these bytes, whatever the file of the tiles has.
abbrev pub rebuilt_bytes_say : HashFunction → Text → Text → Text → Outcome
rebuilt_bytes_say h journal bytes tiles =
    with_form log_open_text journal (log_read h bytes) rebuilt_says

-- The outcome of `tile-anew J`.
unfoldable pub rebuilt_outcome : HashFunction → Text → Files → Outcome
rebuilt_outcome h journal files = with_file journal (files journal)
    (λ bytes. rebuilt_bytes_say h journal bytes (held_in (files (tiles_name journal))))
