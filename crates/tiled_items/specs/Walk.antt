-- An item of a journal that is looked for from the place of its block on, record by record.
use Rattle.std.specs.Prelude.{◌≡◌, ℕ, ◌+◌, ◌==◌, List, [], ◌∷◌, ◌++◌, length, Option, Some, None}
use Rattle.std.specs.Prelude.{if◌then◌else◌, slice_index_or}
use Rattle.byte_formats.specs.Types.{Text}
use Rattle.journal_core.specs.Format.{following}
use Rattle.tiled_items.specs.Blocks.{all_items}

-- The bytes are the body of the record whose commit byte stands at an offset.
abbrev pub IsRecordBodyAt : ℕ → Text → List Text → Type 0
IsRecordBodyAt place read list = (prefix : List Text) (body : Text) (back : List Text)
    → list ≡ prefix ++ body ∷ back → place ≡ following 16 prefix → read ≡ body

module _ (begin : List (Text × Text)) (added : Text → List (Text × Text)) where
  -- the items of the record whose commit byte stands at an offset
  abbrev pub record_items : ℕ → Text → List (Text × Text)
  record_items place body = if place == 16 then begin else added body

  -- The record at an offset is among these, and the item is this one from its first on.
  pub record IsWalk (list : List Text) (index place left : ℕ) : Type 0 where
    pub front : List Text
    pub back : List Text
    pub split : list ≡ front ++ back
    pub place_is : place ≡ following 16 front
    pub left_is : left + length (all_items begin added front) ≡ index

  -- The item was found, or it is this far behind the first of the record at this offset.
  abbrev pub StepsTo : List Text → ℕ → Text × Text → Option (ℕ × ℕ) → Type 0
  StepsTo list index x None = x ≡ slice_index_or (all_items begin added list) index ([], [])
  StepsTo list index x (Some next) = IsWalk list index next.0 next.1
