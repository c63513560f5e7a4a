-- Several items of one record: which are added together, how many fit a record, and how a reader of
-- its bytes finds them, one after the other.
use Rattle.std.specs.Prelude.{◌≡◌, ℕ, zero, suc, ◌+◌, ◌-◌, ◌==◌, nat_le, nat_lt, Bool, true, List}
use Rattle.std.specs.Prelude.{[], ◌∷◌, length, flat_map, Option, Some, None, Result, Ok, Err}
use Rattle.std.specs.Prelude.{if◌then◌else◌}
use Rattle.std.specs.List.{AllByRecursion, list_any}
use Rattle.byte_formats.specs.Offsets.{At, at}
use Rattle.byte_formats.specs.Types.{HashFunction, Text}
use Rattle.log_entry.specs.Matching.{has_form, matches}
use Rattle.log_entry.specs.declared.entry.Form.{Form}
use Rattle.tls_wire.specs.declared.cursor.Short.{Short}
use Rattle.issuance_log.specs.Records.{entry_at, item_text}
use Rattle.issuance_log.specs.Settings.{most_item}

-- ---- items that are added together

-- Each entry has this form, and its key belongs to it.
abbrev pub AreOfForm : HashFunction → Form → List (Text × Text) → Type 0
AreOfForm h form items =
    AllByRecursion (λ item. (has_form form item.0 ≡ true) × (matches h item.0 item.1 ≡ true)) items

-- The items of a Batch have at most so many bytes with their lengths: a body has 131,072, and three
-- of them are the tag and the count.
abbrev pub most_listed : ℕ
most_listed = 131069

-- How many of the first items fit so many bytes.
unfoldable pub fitting : ℕ → List (Text × Text) → ℕ
fitting left [] = 0
fitting left (item ∷ items) =
    if nat_le (length (item_text item)) left
    then fitting (left - length (item_text item)) items + 1
    else 0

-- An entry and its key have more bytes together than an item may have.
abbrev pub is_large : Text × Text → Bool
is_large item = nat_lt most_item (length item.0 + length item.1)

abbrev pub has_large : List (Text × Text) → Bool
has_large items = list_any is_large items

-- ---- items in bytes

-- The item that was read, and the bytes after it.
abbrev pub item_and_rest : Result ((Text × Text) × At) Short → Option ((Text × Text) × Text)
item_and_rest (Ok x) = Some (x.0, x.1.rest)
item_and_rest (Err short) = None

-- The item that begins these bytes, and the bytes after it.
abbrev pub leading_item : Text → Option ((Text × Text) × Text)
leading_item bytes = item_and_rest (entry_at (at bytes 0))

-- An item, and those in the bytes after it.
abbrev pub and_later : Option ((Text × Text) × Text) → (Text → List (Text × Text))
    → List (Text × Text)
and_later None later = []
and_later (Some x) later = x.0 ∷ later x.1

-- The items that begin these bytes, up to where none begins. The number is at least that of the
-- bytes.
unfoldable pub items_within : ℕ → Text → List (Text × Text)
items_within zero bytes = []
items_within (suc n) bytes = and_later (leading_item bytes) (items_within n)

-- The items that begin these bytes, however many they are.
abbrev pub leading_items : Text → List (Text × Text)
leading_items bytes = items_within (length bytes) bytes

-- Nothing follows these items in the bytes that they begin: with two lengths of two bytes each they
-- have all of these.
abbrev pub is_filled : List (Text × Text) → Text → Bool
is_filled items bytes = length (flat_map item_text items) == length bytes
