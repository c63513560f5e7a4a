-- Entries of a log with their keys, and the file that holds them, in the presentation language of
-- TLS (RFC 8446, section 3.4).
use Rattle.std.specs.Prelude.{◌≡◌, ℕ, ◌<◌, ◌==◌, Bool, true, false, List, [], ◌++◌, length, map}
use Rattle.std.specs.Prelude.{drop, take, slice_index_or, Option, Some, None, Result, Ok, Err}
use Rattle.std.specs.Prelude.{if◌then◌else◌}
use Rattle.std.specs.Int.{w16}
use Rattle.std.specs.List.{concat, range_with_len}
use Rattle.byte_formats.specs.Types.{HashFunction, Text}
use Rattle.log_entry.specs.Entries.{TbsParts}
use Rattle.log_entry.specs.Matching.{matches}
use Rattle.log_entry.specs.Reading.{entry_in}
use Rattle.log_entry.specs.declared.fault.EntryError.{EntryError}
use Rattle.tls_wire.specs.Encoding.{vector}
use Rattle.entry_list.specs.declared.items.Item.{Item}

-- An entry and its key, as their bytes.
abbrev pub item_pair : Item → Text × Text
item_pair i = (i.entry.now, i.spki.now)

-- The entries in their order, and the key of each.
pub record ItemLists : Type 0 where
  pub entries : List Text
  pub keys : List Text

abbrev pub lists_of : List (Text × Text) → ItemLists
lists_of pairs = record { entries = map (λ x. x.0) pairs; keys = map (λ x. x.1) pairs }

-- What was read is an entry of type 1, which holds the hash of a key.
abbrev pub has_key : Result (Option TbsParts) EntryError → Bool
has_key (Ok (Some p)) = true
has_key (Ok None) = false
has_key (Err e) = false

-- Beside an entry of type 1 stands the key that matches it, and beside any other no key.
unfoldable pub is_key_of : HashFunction → Text → Text → Bool
is_key_of h entry key = if has_key (entry_in entry) then matches h entry key else length key == 0

-- There are as many keys as entries, and each is the one of its entry.
pub record AreItems (h : HashFunction) (items : ItemLists) : Type 0 where
  pub even : length items.keys ≡ length items.entries
  pub each : (i : ℕ) → i < length items.entries
      → is_key_of h (slice_index_or items.entries i []) (slice_index_or items.keys i []) ≡ true

-- The length of each entry and of each key fits two bytes.
pub record FitsFile (items : ItemLists) : Type 0 where
  pub entries : (i : ℕ) → i < length items.entries
      → length (slice_index_or items.entries i []) < 65536
  pub keys : (i : ℕ) → i < length items.entries
      → length (slice_index_or items.keys i []) < 65536

-- So many of the first items.
abbrev pub first_items : ℕ → ItemLists → ItemLists
first_items count items =
    record { entries = take count items.entries; keys = take count items.keys }

-- The items from an index on.
abbrev pub later_items : ℕ → ItemLists → ItemLists
later_items first items =
    record { entries = drop first items.entries; keys = drop first items.keys }

-- An item in a file: the entry, and its key, each after its length of two bytes.
abbrev pub listed_text : ItemLists → ℕ → Text
listed_text items index =
    vector w16 (slice_index_or items.entries index []) ++ vector w16
    (slice_index_or items.keys index [])

-- The file of so many of the items from an index on.
abbrev pub file_part : ItemLists → ℕ → ℕ → Text
file_part items first count = concat (map (listed_text items) (range_with_len first count))

-- The file of so many of the first items.
abbrev pub file_text : ItemLists → ℕ → Text
file_text items count = file_part items 0 count
