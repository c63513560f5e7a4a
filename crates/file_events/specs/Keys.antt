-- The one-time keys that the records of a cosigner use.
use Rattle.std.specs.Prelude.{◌≡◌, ℕ, ◌+◌, ◌/◌, ◌%◌, ◌^◌, List, [], ◌∷◌, ◌++◌, Option, None, Some}
use Rattle.std.specs.Prelude.{option_map, slice_get}
use Rattle.byte_formats.specs.Types.{Text}

-- A one-time key: of the upper tree, by its number, or of a lower tree, by the number of the tree
-- and its own.
pub data KeyUse : Type 0 where
  upper : ℕ → KeyUse
  lower : ℕ → ℕ → KeyUse

-- The keys, with one before them where there is one.
abbrev pub with_use : Option KeyUse → List KeyUse → List KeyUse
with_use None keys = keys
with_use (Some key) keys = key ∷ keys

-- Which key a record uses, by the records before it and itself.
module _ (use_of : List Text → Text → Option KeyUse) where
  -- The keys that these records use after others, in their order.
  abbrev pub uses_after : List Text → List Text → List KeyUse
  uses_after prefix [] = []
  uses_after prefix (body ∷ bodies) =
      with_use (use_of prefix body) (uses_after (prefix ++ body ∷ []) bodies)

  -- No key stands twice among those of the records.
  abbrev pub UsesOnce : List Text → Type 0
  UsesOnce list = (i j : ℕ) (key : KeyUse) → slice_get (uses_after [] list) i ≡ Some key
      → slice_get (uses_after [] list) j ≡ Some key → i ≡ j

-- The keys of a cosigner with one tree, by the number that a record has as a signature: the first
-- record of its journal has none.
abbrev pub one_level : (Text → Option ℕ) → List Text → Text → Option KeyUse
one_level number_of [] body = None
one_level number_of (first ∷ list) body = option_map (lower 0) (number_of body)

-- The numbers of the records that have one, in their order.
abbrev pub with_number : Option ℕ → List ℕ → List ℕ
with_number None numbers = numbers
with_number (Some number) numbers = number ∷ numbers

abbrev pub numbers_in : (Text → Option ℕ) → List Text → List ℕ
numbers_in number_of [] = []
numbers_in number_of (body ∷ bodies) =
    with_number (number_of body) (numbers_in number_of bodies)

-- Where the numbers after the first record count up from 0, no key is used twice.
abbrev pub OneLevelUsesOnce : Type 0
OneLevelUsesOnce = (number_of : Text → Option ℕ) (first : Text) (bodies : List Text)
    → ((i number : ℕ) → slice_get (numbers_in number_of bodies) i ≡ Some number → number ≡ i)
    → UsesOnce (one_level number_of) (first ∷ bodies)

-- The key of a record in two levels, by its number as a signature or as a lower tree: signatures
-- are numbered through, and each lower tree has so many of them.
abbrev pub either_use : ℕ → Option ℕ → Option ℕ → Option KeyUse
either_use size None None = None
either_use size None (Some tree) = Some (upper tree)
either_use size (Some number) tree = Some (lower (number / size) (number % size))

-- The keys of a cosigner with two levels, whose lower trees have this height.
abbrev pub two_levels : ℕ → (Text → Option ℕ) → (Text → Option ℕ) → List Text → Text
    → Option KeyUse
two_levels low sign_of tree_of [] body = None
two_levels low sign_of tree_of (first ∷ list) body =
    either_use (2 ^ low) (sign_of body) (tree_of body)

-- The numbers count up by one from the first.
abbrev pub CountUpFrom : ℕ → List ℕ → Type 0
CountUpFrom first numbers =
    (i number : ℕ) → slice_get numbers i ≡ Some number → number ≡ first + i

-- Where the numbers of signatures after the first record count up, and so do those of lower trees,
-- no key is used twice.
abbrev pub TwoLevelsUseOnce : Type 0
TwoLevelsUseOnce = (low signs trees : ℕ) (sign_of tree_of : Text → Option ℕ) (first : Text)
    (bodies : List Text) → CountUpFrom signs (numbers_in sign_of bodies)
    → CountUpFrom trees (numbers_in tree_of bodies)
    → UsesOnce (two_levels low sign_of tree_of) (first ∷ bodies)
