-- Reading a file of entries, with its faults in their order.
use Rattle.std.specs.Prelude.{ℕ, List, [], length, Result, Ok}
use Rattle.std.specs.Int.{w16}
use Rattle.byte_formats.specs.Types.{HashFunction, Text}
use Rattle.byte_formats.specs.Offsets.{at}
use Rattle.byte_formats.specs.Readings.{Reading, ◌>>=◌, both_at, lifted_at, tested_at}
use Rattle.byte_formats.specs.Lists.{each_at}
use Rattle.tls_wire.specs.Reading.{vector_at}
use Rattle.tls_wire.specs.declared.cursor.Short.{Short}
use Rattle.entry_list.specs.Items.{ItemLists, is_key_of, lists_of}
use Rattle.entry_list.specs.declared.error.ItemsError.{ItemsError}
use Rattle.entry_list.specs.declared.error.ItemsError.TheVariants.{BadItem, Short as TooShort}

-- A form that doesn't fit, as a fault of the file.
abbrev pub short_item : Short → ItemsError
short_item s = TooShort s.place

abbrev pub vector_item : Reading Text ItemsError
vector_item = lifted_at short_item (vector_at w16)

-- The item with this number: the entry and the key, and the key is the one of the entry.
unfoldable pub listed_at : HashFunction → ℕ → Reading (Text × Text) ItemsError
listed_at h number =
    tested_at (λ x. is_key_of h x.0 x.1) (BadItem number) (both_at vector_item vector_item)

-- The next item, after these.
abbrev pub item_after : HashFunction → List (Text × Text) → Reading (Text × Text) ItemsError
item_after h seen = listed_at h (length seen)

-- Items after these, up to the end.
unfoldable pub all_listed_at : HashFunction → List (Text × Text)
    → Reading (List (Text × Text)) ItemsError
all_listed_at h seen a = each_at (λ x. x) (item_after h) (length a.rest) seen a

-- The items of a file.
unfoldable pub items_in : HashFunction → Text → Result ItemLists ItemsError
items_in h bytes = all_listed_at h [] (at bytes 0) >>= λ pairs. Ok (lists_of pairs.0)
