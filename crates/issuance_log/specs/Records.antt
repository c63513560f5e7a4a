-- The records of a log's journal: a tag of one byte, and what it says. Numbers have their highest
-- byte first.
use Rattle.std.specs.Prelude.{ℕ, ◌<◌, ◌≤◌, ◌==◌, ◌&&◌, nat_le, List, [], ◌∷◌}
use Rattle.std.specs.Prelude.{◌++◌, length, flat_map, Option, Some, None, option_and_then}
use Rattle.std.specs.Prelude.{option_map, Result, Ok, Err, if◌then◌else◌}
use Rattle.std.specs.List.{AllByRecursion}
use Rattle.std.specs.Option.{option_or, unwrap_or}
use Rattle.std.specs.Int.{w8, w16, w32, w64}
use Rattle.byte_formats.specs.Types.{Text}
use Rattle.byte_formats.specs.Offsets.{At, at}
use Rattle.byte_formats.specs.Forms.{both, FitsBoth}
use Rattle.byte_formats.specs.Lists.{up_to_end}
use Rattle.byte_formats.specs.Readings.{both_at, whole_of}
use Rattle.tls_wire.specs.Anchors.{anchor_of}
use Rattle.tls_wire.specs.Reading.{number_at, vector_at}
use Rattle.tls_wire.specs.Encoding.{number, vector}
use Rattle.tls_wire.specs.declared.cursor.Short.{Short}
use Rattle.tls_wire.specs.declared.fault.AnchorBytesError.{AnchorBytesError}
use Rattle.issuance_log.specs.Settings.{Settings, are_allowed}

-- ---- tags

abbrev pub log_tag : ℕ
log_tag = 1

abbrev pub entry_tag : ℕ
entry_tag = 2

abbrev pub landmark_tag : ℕ
landmark_tag = 3

abbrev pub tiles_tag : ℕ
tiles_tag = 4

abbrev pub switch_tag : ℕ
switch_tag = 5

abbrev pub batch_tag : ℕ
batch_tag = 6

-- ---- encodings

-- Log: the id after its length of one byte, the most active landmarks and the limit in four bytes
-- each
unfoldable pub settings_record : Settings → Text
settings_record s =
    number w8 log_tag ++ (vector w8 s.id ++ (number w32 s.max_active ++ number w32 s.limit))

-- its length fits two bytes
abbrev pub IsShort : Text → Type 0
IsShort text = length text < 65536

-- Entry: the entry and its key, each after its length of two bytes
unfoldable pub entry_record : Text → Text → Text
entry_record entry key = number w8 entry_tag ++ (vector w16 entry ++ vector w16 key)

-- an entry and its key in a Batch, each after its length of two bytes
abbrev pub item_text : Text × Text → Text
item_text = both (vector w16) (vector w16)

-- Batch: how many items it has in two bytes, and the items in their order
unfoldable pub batch_record : List (Text × Text) → Text
batch_record items = number w8 batch_tag ++ (number w16 (length items) ++ flat_map item_text items)

-- The lengths of each item fit two bytes.
abbrev pub HaveShortItems : List (Text × Text) → Type 0
HaveShortItems items = AllByRecursion (FitsBoth IsShort IsShort) items

-- Items of a Batch: one at least, as many as two bytes count, and the lengths of each fit two
-- bytes.
pub record CanBeBatch (items : List (Text × Text)) : Type 0 where
  pub some : 1 ≤ length items
  pub few : length items < 65536
  pub short : HaveShortItems items

-- Landmark, Tiles and Switch: the size in eight bytes
unfoldable pub size_record : ℕ → ℕ → Text
size_record tag size = number w8 tag ++ number w64 size

abbrev pub landmark_record : ℕ → Text
landmark_record = size_record landmark_tag

abbrev pub tiles_record : ℕ → Text
tiles_record = size_record tiles_tag

abbrev pub switch_record : ℕ → Text
switch_record = size_record switch_tag

-- ---- read

-- what follows the tag of a Log
unfoldable pub settings_at : At → Result ((Text × (ℕ × ℕ)) × At) Short
settings_at a = both_at (vector_at w8) (both_at (number_at w32) (number_at w32)) a

-- what follows the tag of an Entry
unfoldable pub entry_at : At → Result ((Text × Text) × At) Short
entry_at a = both_at (vector_at w16) (vector_at w16) a

-- what follows the tag of a Batch: a number, and items up to the end
unfoldable pub batch_at : At → Result ((ℕ × List (Text × Text)) × At) Short
batch_at a = both_at (number_at w16) (up_to_end entry_at) a

-- the items, where they are as many as the number says, and one at least
abbrev pub counted_items : ℕ × List (Text × Text) → Option (List (Text × Text))
counted_items x = if (x.0 == length x.1) && nat_le 1 x.0 then Some x.1 else None

-- what follows this tag
abbrev pub tagged : {X : Type 0} → ℕ → (At → Result (X × At) Short) → Result (ℕ × At) Short
    → Option X
tagged wanted read (Ok tag) = if tag.0 == wanted then whole_of (read tag.1) else None
tagged wanted read (Err short) = None

-- settings with this id, where it is one
abbrev pub with_id : ℕ → ℕ → Result (Text) AnchorBytesError → Option Settings
with_id active limit (Ok id) = Some (record { id = id; max_active = active; limit = limit })
with_id active limit (Err fault) = None

-- settings, where the numbers may be those of a log
abbrev pub log_settings_with : Text × (ℕ × ℕ) → Option Settings
log_settings_with x = if are_allowed x.1.0 x.1.1 then with_id x.1.0 x.1.1 (anchor_of x.0) else None

-- the settings in a Log, which is the first record and nowhere else
unfoldable pub settings_in : Text → Option Settings
settings_in body =
    option_and_then log_settings_with (tagged log_tag settings_at (number_at w8 (at body 0)))

-- the entry and the key in an Entry
unfoldable pub item_in : Text → Option (Text × Text)
item_in body = tagged entry_tag entry_at (number_at w8 (at body 0))

-- the items in a Batch
unfoldable pub batch_in : Text → Option (List (Text × Text))
batch_in body =
    option_and_then counted_items (tagged batch_tag batch_at (number_at w8 (at body 0)))

-- The items in a record that adds any: the one in an Entry, or those in a Batch.
abbrev pub added_in : Text → Option (List (Text × Text))
added_in body = option_or (option_map (λ item. item ∷ []) (item_in body)) (batch_in body)

-- the items that a record adds, in their order; none where it is of another kind
abbrev pub added_items : Text → List (Text × Text)
added_items body = unwrap_or (added_in body) []

-- the size in a record of this tag
unfoldable pub size_in : ℕ → Text → Option ℕ
size_in tag body = tagged tag (number_at w64) (number_at w8 (at body 0))

-- the size in a Landmark
abbrev pub mark_in : Text → Option ℕ
mark_in = size_in landmark_tag

-- the size in a Tiles
abbrev pub tiled_in : Text → Option ℕ
tiled_in = size_in tiles_tag

-- the size in a Switch
abbrev pub switch_in : Text → Option ℕ
switch_in = size_in switch_tag
