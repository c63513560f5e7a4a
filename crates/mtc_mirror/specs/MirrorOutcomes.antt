-- The outcomes of the commands on a mirror: `mirror-init`, `mirror-take`, `mirror-tile` and
-- `mirror-entries`.
use Rattle.std.specs.Prelude.{ℕ, ◌+◌, ◌++◌, nat_lt, List, length, codes, Option, Some, None, false}
use Rattle.std.specs.Prelude.{if◌then◌else◌}
use Rattle.std.specs.Fmt.{decimal}
use Rattle.byte_formats.specs.Types.{Text}
use Rattle.issuance_log.specs.Records.{tiles_record}
use Rattle.journal_core.specs.Format.{end_offset}
use Rattle.journal_core.specs.declared.error.AppendError.TheVariants as append_error
use Rattle.tls_wire.specs.Anchors.{text_of}
use Rattle.mirror_core.specs.Folds.{MirrorState, MirrorView, view_in_mirror}
use Rattle.mirror_core.specs.Openings.{FoundMirror}
use Rattle.mirror_core.specs.Reasons.{mirror_fault_text}
use Rattle.mirror_core.specs.Records.{mirror_batch_record, mirror_record}
use Rattle.mirror_core.specs.Refusals.{first_difference, full_mirror_size, mirror_tile_refusal}
use Rattle.mirror_core.specs.Refusals.{next_batch, take_refusal}
use Rattle.mirror_core.specs.Written.{mirrored_file}
use Rattle.mirror_core.specs.declared.error.MirrorError.{MirrorError}
use Rattle.mirror_core.specs.declared.error.MirrorError.TheVariants as mirror_error
use Rattle.mtc_command.specs.Answers.{Ending, Reply, no_memory, refused, replied, room_failed, said}
use Rattle.mtc_command.specs.Steps.{Files, Outcome, answers_on, appends, starts, with_fresh}
use Rattle.mtc_command.specs.declared.answer.Said.TheVariants.{Done}
use Rattle.mtc_command.specs.declared.answer.Stopped.TheVariants.{Beyond, NotAllowed}
use Rattle.mtc_tiled.specs.BadTiles.{tiled_line}

-- ---- a new mirror

-- The line of a mirror that was made.
abbrev pub mirror_line : Text → Text
mirror_line id = codes "mirror " ++ (text_of id ++ codes "\n")

-- The outcome of `mirror-init M LOGID`: a journal of the mirror's first record is made where its
-- name has no file.
abbrev pub mirror_init_outcome : Text → Text → Files → Outcome
mirror_init_outcome journal id files =
    with_fresh journal (files journal) (starts (mirror_record id) (mirror_line id))

-- ---- refusals

-- Why a mirror does nothing: a limit doesn't allow it, or else its items don't.
abbrev pub not_mirrored : MirrorError → Reply
not_mirrored (mirror_error.TooLarge size) =
    refused Beyond None (mirror_fault_text (mirror_error.TooLarge size))
not_mirrored (mirror_error.Append why) =
    refused Beyond None (mirror_fault_text (mirror_error.Append why))
not_mirrored why = refused NotAllowed None (mirror_fault_text why)

-- What comes of it in a command on this journal, where `Failed` is of the device of this file: it
-- is refused, unless a device failed or memory was refused.
abbrev pub mirror_ending : Text → Text → MirrorError → Ending
mirror_ending journal file mirror_error.Failed = room_failed file
mirror_ending journal file (mirror_error.Append append_error.Failed) = room_failed journal
mirror_ending journal file mirror_error.Memory = no_memory
mirror_ending journal file why = replied (not_mirrored why)

-- These are the refusals of items, and of tiles, by a mirror that was opened just now.
abbrev pub MayRefuseItems : MirrorError → Type 0
MayRefuseItems (mirror_error.Differs number) = Unit {0}
MayRefuseItems mirror_error.NothingNew = Unit {0}
MayRefuseItems (mirror_error.TooLarge size) = Unit {0}
MayRefuseItems mirror_error.Failed = Unit {0}
MayRefuseItems mirror_error.Memory = Unit {0}
MayRefuseItems (mirror_error.Append append_error.Failed) = Unit {0}
MayRefuseItems (mirror_error.Append append_error.Full) = Unit {0}
MayRefuseItems why = ⊥

abbrev pub MayRefuseMirrorTiles : MirrorError → Type 0
MayRefuseMirrorTiles mirror_error.NothingNew = Unit {0}
MayRefuseMirrorTiles mirror_error.Failed = Unit {0}
MayRefuseMirrorTiles mirror_error.Memory = Unit {0}
MayRefuseMirrorTiles (mirror_error.Append append_error.Failed) = Unit {0}
MayRefuseMirrorTiles (mirror_error.Append append_error.Full) = Unit {0}
MayRefuseMirrorTiles why = ⊥

-- ---- items

-- The line of a mirror with so many items.
abbrev pub mirrored_line : ℕ → Text
mirrored_line size = codes "mirrored " ++ (decimal size ++ codes "\n")

-- A mirror that shows this and has these records has one Batch more, with as many of the new items
-- of a list as it holds, unless the mirror refuses the list.
abbrev pub mirror_taken_by : List (Text × Text) → MirrorView → List Text → Option MirrorError
    → Outcome
mirror_taken_by items v list None = appends list (mirror_batch_record (next_batch v.size items))
    (mirrored_line (v.size + length (next_batch v.size items)))
mirror_taken_by items v list (Some why) = answers_on list (not_mirrored why)

-- What `mirror-take` makes of a mirror that was found, with the items of the file.
abbrev pub take_says : List (Text × Text) → FoundMirror → Outcome
take_says items found = mirror_taken_by items (view_in_mirror found.state) found.records
    (take_refusal (first_difference found.state.items items) (length found.state.items) false
    (end_offset found.records) items)

-- ---- tiles

-- The tiles that the entries of a mirror fill are stored, where it shows this and has these
-- records, unless the mirror refuses it.
abbrev pub mirror_tiled_by : MirrorView → List Text → Option MirrorError → Outcome
mirror_tiled_by v list None =
    appends list (tiles_record (full_mirror_size v)) (tiled_line (full_mirror_size v))
mirror_tiled_by v list (Some why) = answers_on list (not_mirrored why)

-- What `mirror-tile` makes of a mirror that was found.
abbrev pub mirror_tile_says : FoundMirror → Outcome
mirror_tile_says found = mirror_tiled_by (view_in_mirror found.state) found.records
    (mirror_tile_refusal (view_in_mirror found.state) false (end_offset found.records))

-- ---- what it has

-- So many of the first items, where the mirror has them.
abbrev pub mirror_entries_reply : ℕ → MirrorState → Reply
mirror_entries_reply size s = if nat_lt (length s.items) size
    then not_mirrored (mirror_error.Beyond (length s.items))
    else said Done (mirrored_file size s)

-- What `mirror-entries` makes of a mirror that was found.
abbrev pub mirror_entries_says : ℕ → FoundMirror → Outcome
mirror_entries_says size found = answers_on found.records (mirror_entries_reply size found.state)
