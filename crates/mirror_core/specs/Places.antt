-- Where the items of a mirror stand in its journal: in the bodies of its Batches.
use Rattle.std.specs.Prelude.{◌≡◌, ℕ, ◌+◌, ◌<◌, ◌≤◌, List, [], ◌∷◌, ◌++◌, length, slice_index_or}
use Rattle.std.specs.Prelude.{Option, Some, None}
use Rattle.byte_formats.specs.Types.{Text}
use Rattle.journal_core.specs.Format.{following}
use Rattle.mirror_core.specs.Records.{mirrored_by, mirrored_in}
use Rattle.mirror_core.specs.declared.kept.BatchPlace.{BatchPlace}

-- a record that has items, whose commit byte stands at an offset, with the number of the first
abbrev pub place_with : ℕ → ℕ → Option (List (Text × Text)) → List BatchPlace
place_with place first (Some items) = record { place = place; first = first } ∷ []
place_with place first None = []

-- The places of the Batches in these records, of which the first one's commit byte stands at an
-- offset, after so many items.
unfoldable pub places_after : ℕ → ℕ → List Text → List BatchPlace
places_after place first [] = []
places_after place first (body ∷ bodies) =
    place_with place first (mirrored_in body)
    ++ places_after (place + 5 + length body) (first + length (mirrored_by body)) bodies

-- the places of the Batches in the records of a mirror
abbrev pub places_of_batches : List Text → List BatchPlace
places_of_batches list = places_after 16 0 list

-- a place that is none
abbrev pub no_place : BatchPlace
no_place = record { place = 0; first = 0 }

-- The place is the last one whose first number isn't above an index.
pub record HoldsIndex (places : List BatchPlace) (index : ℕ) (found : BatchPlace) : Type 0 where
  pub number : ℕ
  pub there : number < length places
  pub is : found ≡ slice_index_or places number no_place
  pub from : found.first ≤ index
  pub next : number + 1 < length places
      → index < (slice_index_or places (number + 1) no_place).first

-- Over any disk: the commit byte and the length of each lie before an end, the first one has number
-- 0, and there is one where there are items.
pub record ArePlaced (places : List BatchPlace) (size end : ℕ) : Type 0 where
  pub below : (i : ℕ) → i < length places
      → (slice_index_or places i no_place).place + 5 ≤ end
  pub first : (slice_index_or places 0 no_place).first ≡ 0
  pub some : length places ≡ 0 → size ≡ 0

-- The bytes are the body of the record whose commit byte stands at an offset.
abbrev pub IsBodyAt : ℕ → Text → List Text → Type 0
IsBodyAt place read list = (prefix : List Text) (body : Text) (back : List Text)
    → list ≡ prefix ++ body ∷ back → place ≡ following 16 prefix → read ≡ body

-- The item has this number in the Batch whose commit byte stands at an offset.
abbrev pub IsItemIn : ℕ → ℕ → Text × Text → List Text → Type 0
IsItemIn place number item list = (prefix : List Text) (body : Text) (back : List Text)
    (items : List (Text × Text)) → list ≡ prefix ++ body ∷ back → place ≡ following 16 prefix
    → mirrored_in body ≡ Some items → number < length items
    → item ≡ slice_index_or items number ([], [])
