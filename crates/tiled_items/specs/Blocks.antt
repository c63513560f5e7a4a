-- Where the items stand in the journal: for each block of 256 the place of the record that has the
-- first of them.
use Rattle.std.specs.Prelude.{ℕ, ◌+◌, ◌-◌, ◌*◌, ◌/◌, ◌<◌, ◌≤◌, List, [], ◌∷◌, ◌++◌, length}
use Rattle.std.specs.Prelude.{replicate, slice_index_or, flat_map}
use Rattle.byte_formats.specs.Types.{Text}
use Rattle.tiled_items.specs.declared.held.ItemPlace.{ItemPlace}

-- how many blocks so many items begin
abbrev pub blocks_of : ℕ → ℕ
blocks_of size = (size + 255) / 256

-- the greatest multiple of 256 that isn't above a size
abbrev pub full_of : ℕ → ℕ
full_of size = size / 256 * 256

-- how many more they are with so many items after others
abbrev pub blocks_begun : ℕ → ℕ → ℕ
blocks_begun first count = blocks_of (first + count) - blocks_of first

-- the places of the blocks that begin in a record with so many items, after others
abbrev pub begun_at : ℕ → ℕ → ℕ → List ItemPlace
begun_at place first count =
    replicate (blocks_begun first count) (record { place = place; first = first })

-- a place that is none
abbrev pub no_item_place : ItemPlace
no_item_place = record { place = 0; first = 0 }

-- The items of a journal: those that its first record begins with, and those that the later ones
-- add.
module _ (begin : List (Text × Text)) (added : Text → List (Text × Text)) where
  -- all items in these records
  abbrev pub all_items : List Text → List (Text × Text)
  all_items [] = []
  all_items (body ∷ bodies) = begin ++ flat_map added bodies

  -- The places of the blocks that begin in these later records, of which the first one's commit
  -- byte stands at an offset, after so many items.
  unfoldable pub block_places_after : ℕ → ℕ → List Text → List ItemPlace
  block_places_after place first [] = []
  block_places_after place first (body ∷ bodies) =
      begun_at place first (length (added body))
      ++ block_places_after (place + 5 + length body) (first + length (added body)) bodies

  -- the places of the blocks in the records of a journal
  abbrev pub block_places : List Text → List ItemPlace
  block_places [] = []
  block_places (body ∷ bodies) =
      begun_at 16 0 (length begin) ++ block_places_after (21 + length body) (length begin) bodies

-- The commit byte and the length of each lie before an end.
abbrev pub PlacesAreBelow : List ItemPlace → ℕ → Type 0
PlacesAreBelow places end =
    (i : ℕ) → i < length places → (slice_index_or places i no_item_place).place + 5 ≤ end
