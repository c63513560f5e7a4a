-- Which lists of records are a party's of the kind that a command works on.
use Rattle.std.specs.Prelude.{Bool, true, false, List, [], ◌∷◌, IsOk}
use Rattle.byte_formats.specs.Types.{Text}
use Rattle.journal_core.specs.Folds.{state_after}
use Rattle.command_plans.specs.Kinds.{Kinds}
use Rattle.command_plans.specs.Plans.{Journal, makes, opens}

module _ (k : Kinds) where
  -- These records make a party of this kind.
  abbrev pub AreOfKind : k.Kind → List Text → Type 0
  AreOfKind kind list = IsOk (state_after (k.fold kind) list)

  -- They make one of the kind of the first of these journals.
  abbrev pub AreOfFirst : List (Journal k) → List Text → Type 0
  AreOfFirst [] list = ⊥
  AreOfFirst (opens kind beside name ∷ rest) list = AreOfKind kind list
  AreOfFirst (makes kind name ∷ rest) list = AreOfKind kind list

-- There is no second journal.
abbrev pub has_one_at_most : {k : Kinds} → List (Journal k) → Bool
has_one_at_most [] = true
has_one_at_most (first ∷ []) = true
has_one_at_most (first ∷ (second ∷ rest)) = false
