-- The items of a stream of bytes: what was read of it, and what was made of the items.
use Rattle.std.specs.Prelude.{◌≡◌, ℕ, ◌+◌, ◌^◌, ◌<◌, ◌≤◌, [], ◌∷◌, ◌++◌, length, Option, Result}
use Rattle.std.specs.Prelude.{Ok, Err}
use Rattle.std.specs.Io.KnownBytes.{Consumes, IsAtEnd}
use Rattle.byte_formats.specs.Types.{HashFunction, Text}
use Rattle.entry_list.specs.Items.{ItemLists}
use Rattle.entry_list.specs.Reading.{items_in}
use Rattle.entry_list.specs.declared.error.ItemsError.{ItemsError}

-- ---- lists of items

-- A list without items.
abbrev pub empty_list : ItemLists
empty_list = record { entries = []; keys = [] }

-- The list with one item more, an entry and its key.
abbrev pub items_with : ItemLists → Text → Text → ItemLists
items_with items entry key =
    record { entries = items.entries ++ entry ∷ []; keys = items.keys ++ key ∷ [] }

-- A list of fewer than 2^64 - 1 items was taken.
pub record CanTakeMore (taken : ItemLists → Type 0) : Type 0 where
  pub items : ItemLists
  pub are : taken items
  pub few : length items.entries + 1 < 2 ^ 64

-- ---- what was read

-- A source was read to its end: it had these bytes left, at most so many, and this holds of them.
pub record IsReadWhole (limit : ℕ) (old new : Option Text) (Holds : Text → Type 0) : Type 0 where
  pub bytes : Text
  pub whole : Consumes old new bytes
  pub spent : IsAtEnd new
  pub within : length bytes ≤ limit
  pub holds : Holds bytes

-- The items of a file were taken, so many; or this is the first fault of the file.
abbrev pub AreItemsOf : HashFunction → (ItemLists → Type 0) → Result ℕ ItemsError → Text → Type 0
AreItemsOf h taken (Ok count) bytes = (items : ItemLists)
    × (items_in h bytes ≡ Ok items) × (count ≡ length items.entries) × taken items
AreItemsOf h taken (Err why) bytes = items_in h bytes ≡ Err why

-- A source gave so many bytes.
abbrev pub HadLeft : Option Text → Option Text → ℕ → Type 0
HadLeft left left' count = (bytes : Text) × Consumes left left' bytes × (length bytes ≡ count)
