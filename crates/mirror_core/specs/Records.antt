-- The records of a mirror's journal: a tag of one byte, and what it says. Numbers have their
-- highest byte first. The tiles of a size are recorded as those of a log.
use Rattle.std.specs.Prelude.{ℕ, List, [], ◌++◌, length, flat_map, Option, Some, None}
use Rattle.std.specs.Prelude.{option_and_then, Result, Ok, Err}
use Rattle.std.specs.Option.{unwrap_or}
use Rattle.std.specs.Int.{w8, w16}
use Rattle.byte_formats.specs.Types.{Text}
use Rattle.byte_formats.specs.Offsets.{at}
use Rattle.tls_wire.specs.Anchors.{anchor_of}
use Rattle.tls_wire.specs.Encoding.{number, vector}
use Rattle.tls_wire.specs.Reading.{number_at, vector_at}
use Rattle.tls_wire.specs.declared.fault.AnchorBytesError.{AnchorBytesError}
use Rattle.issuance_log.specs.Records.{batch_at, counted_items, item_text, tagged}

-- ---- tags

abbrev pub mirror_tag : ℕ
mirror_tag = 0x21

abbrev pub mirror_batch_tag : ℕ
mirror_batch_tag = 0x22

-- ---- encodings

-- Mirror: the id of the log after its length of one byte
unfoldable pub mirror_record : Text → Text
mirror_record id = number w8 mirror_tag ++ vector w8 id

-- Batch: how many items it has in two bytes, and the items in their order, the entry and the key of
-- each after its length of two bytes
unfoldable pub mirror_batch_record : List (Text × Text) → Text
mirror_batch_record items =
    number w8 mirror_batch_tag ++ (number w16 (length items) ++ flat_map item_text items)

-- ---- read

-- an id, where it is one
abbrev pub anchor_or_none : Result Text AnchorBytesError → Option Text
anchor_or_none (Ok id) = Some id
anchor_or_none (Err fault) = None

-- the id in a Mirror, which is the first record and nowhere else
unfoldable pub mirror_log_in : Text → Option Text
mirror_log_in body =
    option_and_then (λ id. anchor_or_none (anchor_of id))
    (tagged mirror_tag (vector_at w8) (number_at w8 (at body 0)))

-- the items in a Batch
unfoldable pub mirrored_in : Text → Option (List (Text × Text))
mirrored_in body =
    option_and_then counted_items (tagged mirror_batch_tag batch_at (number_at w8 (at body 0)))

-- the items that a record adds, in their order; none where it is no Batch
abbrev pub mirrored_by : Text → List (Text × Text)
mirrored_by body = unwrap_or (mirrored_in body) []

-- the items in records, in their order
abbrev pub all_mirrored : List Text → List (Text × Text)
all_mirrored list = flat_map mirrored_by list
