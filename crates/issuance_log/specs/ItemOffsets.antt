-- Where the items of a log stand in its journal: inside the bodies of records.
use Rattle.std.specs.Prelude.{◌≡◌, ℕ, ◌+◌, List, [], ◌∷◌, ◌++◌, length, is_some, Ok}
use Rattle.std.specs.Prelude.{if◌then◌else◌}
use Rattle.byte_formats.specs.Types.{Text}
use Rattle.byte_formats.specs.Offsets.{At, at}
use Rattle.journal_core.specs.Format.{following}
use Rattle.issuance_log.specs.Records.{added_items, entry_at, item_in}

-- From the commit byte of a record up to the first item in its body: that byte, the four bytes of
-- the length, and the tag of an Entry; of a Batch also how many items it has, in two bytes.
abbrev pub before_items : Text → ℕ
before_items body = if is_some (item_in body) then 6 else 8

-- The offsets of items that follow each other from an offset on: an item is its entry and its key,
-- each after its length of two bytes.
abbrev pub places_from : ℕ → List (Text × Text) → List ℕ
places_from place [] = []
places_from place (item ∷ items) =
    place ∷ places_from (place + 4 + length item.0 + length item.1) items

-- The offsets of the items that a record adds, whose commit byte stands at an offset.
abbrev pub places_in : ℕ → Text → List ℕ
places_in place body = places_from (place + before_items body) (added_items body)

-- The offset of each item in these records, of which the first one's commit byte stands at an
-- offset.
unfoldable pub offsets_after : ℕ → List Text → List ℕ
offsets_after place [] = []
offsets_after place (body ∷ bodies) =
    places_in place body ++ offsets_after (place + 5 + length body) bodies

-- The offsets of the items in the records of a log, in their order: 0 for the null entry, which no
-- record has, and those in each later record.
abbrev pub offsets_of : List Text → List ℕ
offsets_of [] = []
offsets_of (first ∷ bodies) = 0 ∷ offsets_after (following 16 (first ∷ [])) bodies

-- At an offset stands this item, with so many bytes of the body before it.
pub record IsAtOffset (list : List Text) (place : ℕ) (item : Text × Text) : Type 0 where
  pub prefix : List Text
  pub body : Text
  pub back : List Text
  pub inside : ℕ
  pub later : At
  pub split : list ≡ prefix ++ body ∷ back
  pub offset_is : place ≡ following 16 prefix + 5 + inside
  pub is : entry_at (at body inside) ≡ Ok (item, later)
