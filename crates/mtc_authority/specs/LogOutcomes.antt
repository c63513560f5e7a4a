-- The outcomes of the commands on a log: `init-log`, `checkpoint`, `entries` and `entries-from`.
use Rattle.std.specs.Prelude.{ℕ, ◌-◌, nat_le, nat_lt, List, [], ◌++◌, length, slice_index_or, codes}
use Rattle.std.specs.Prelude.{Option, None, ◌≡◌, ◌<◌, if◌then◌else◌}
use Rattle.std.specs.Fmt.{decimal}
use Rattle.std.specs.Io.KnownBytes.{Appends}
use Rattle.byte_formats.specs.Types.{HashFunction, Text}
use Rattle.tls_wire.specs.Anchors.{text_of}
use Rattle.tree_core.specs.Tree.{tree_hash}
use Rattle.entry_list.specs.Items.{ItemLists, file_part, file_text}
use Rattle.issuance_log.specs.Folds.{LogState}
use Rattle.issuance_log.specs.Records.{settings_record}
use Rattle.issuance_log.specs.Settings.{Settings}
use Rattle.mtc_lines.specs.CheckpointLines.{checkpoint_lines}
use Rattle.mtc_command.specs.declared.answer.Said.TheVariants.{Done}
use Rattle.mtc_command.specs.declared.answer.Stopped.TheVariants.{NotAllowed}
use Rattle.mtc_command.specs.Answers.{Ending, Reply, no_memory, refused, replied, room_failed, said}
use Rattle.mtc_command.specs.Steps.{Outcome, Files, starts, with_fresh}

-- A new log.

-- What a log says of itself from its first record on.
abbrev pub log_settings_of : Text → ℕ → ℕ → Settings
log_settings_of id active limit = record { id = id; max_active = active; limit = limit }

-- The line of a log that was made.
abbrev pub log_line : Text → Text
log_line id = codes "log " ++ (text_of id ++ codes "\n")

-- The outcome of `init-log J LOGID MAXACTIVE LIMIT`: a journal of the log's first record is made
-- where its name has no file.
abbrev pub init_log_outcome : Text → Text → ℕ → ℕ → Files → Outcome
init_log_outcome journal id active limit files = with_fresh journal (files journal)
    (starts (settings_record (log_settings_of id active limit)) (log_line id))

-- The size and the tree hash.

abbrev pub checkpoint_reply : HashFunction → List Text → Reply
checkpoint_reply h entries =
    said Done (checkpoint_lines (length entries) (tree_hash h entries))

-- The items of a log: its entries, and the key of each.
abbrev pub items_of : LogState → ItemLists
items_of s = record { entries = s.entries; keys = s.keys }

-- The state of the log doesn't allow it.
abbrev pub not_allowed : Text → Reply
not_allowed reason = refused NotAllowed None reason

-- The asked size is above that of the log.
abbrev pub beyond : ℕ → Reply
beyond size = not_allowed (codes "Beyond " ++ decimal size)

-- So many of the first items, where the log has them.
abbrev pub entries_reply : ℕ → LogState → Reply
entries_reply size s =
    if nat_lt (length s.entries) size then beyond (length s.entries)
    else said Done (file_text (items_of s) size)

-- The items from the first index up to a size, without it: there must be some, and the log must
-- have them.
abbrev pub entries_from_reply : ℕ → ℕ → LogState → Reply
entries_from_reply first size s =
    if nat_le size first then not_allowed (codes "NothingNew")
    else (if nat_lt (length s.entries) size then beyond (length s.entries)
    else said Done (file_part (items_of s) first (size - first)))

-- These are the entry and the key at an index, and both have fewer than 2^16 bytes.
pub record IsItemAt (s : LogState) (index : ℕ) (entry key : Text) : Type 0 where
  pub entry_is : entry ≡ slice_index_or s.entries index []
  pub key_is : key ≡ slice_index_or s.keys index []
  pub short_entry : length entry < 65536
  pub short_key : length key < 65536

-- It ends without a reply: the file system failed at this file, or memory was refused.
abbrev pub StopsAt : Type 0 → Text → Ending → Type 0
StopsAt Fault file (replied reply) = ⊥
StopsAt Fault file (room_failed at) = (at ≡ file) × Fault
StopsAt Fault file no_memory = Unit {0}

-- The first of the bytes that were held went out, by what a sink took before and after; these are
-- still held.
abbrev pub PassesOn : Option Text → Option Text → Text → Text → Type 0
PassesOn before after held left =
    (gone : Text) × Appends before after gone × (held ≡ gone ++ left)
