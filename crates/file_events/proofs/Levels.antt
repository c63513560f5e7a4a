-- With one tree no key is used twice where the numbers of the records count up.
use Rattle.std.proofs.Common.{◌≡◌, ℕ, List, [], ◌∷◌, ◌++◌, Option, None, Some, refl, sym, ap, ◌∙◌}
use Rattle.std.proofs.Common.{map, option_map, slice_get}
use Rattle.std.proofs.lemmas.Option.{same_Some, slice_get-map}
use Rattle.byte_formats.specs.Types.{Text}
use Rattle.file_events.specs.Keys.{KeyUse, OneLevelUsesOnce, lower, numbers_in, one_level}
use Rattle.file_events.specs.Keys.{uses_after, with_number, with_use}

use_is : (number : Option ℕ) (numbers : List ℕ)
    → with_use (option_map (lower 0) number) (map (lower 0) numbers)
    ≡ map (lower 0) (with_number number numbers)
use_is None numbers = refl
use_is (Some number) numbers = refl

-- the key of a number
number_is : (found : Option ℕ) (key : KeyUse) → option_map (lower 0) found ≡ Some key
    → (number : ℕ) × ((found ≡ Some number) × (lower 0 number ≡ key))
number_is None key is = absurd cc
number_is (Some number) key is = (number, (refl, same_Some (lower 0 number) key is))

lower_is : (n m : ℕ) → lower 0 n ≡ lower 0 m → n ≡ m
lower_is n m is = cc

module _ (number_of : Text → Option ℕ) (first : Text) where
  uses_are : (prefix bodies : List Text)
      → uses_after (one_level number_of) (first ∷ prefix) bodies
      ≡ map (lower 0) (numbers_in number_of bodies)
  uses_are prefix [] = refl
  uses_are prefix (body ∷ bodies) =
      ap (with_use (option_map (lower 0) (number_of body))) (uses_are (prefix ++ body ∷ []) bodies)
      ∙ use_is (number_of body) (numbers_in number_of bodies)

  number_at : (bodies : List Text) (i : ℕ) (key : KeyUse)
      → slice_get (uses_after (one_level number_of) [] (first ∷ bodies)) i ≡ Some key
      → (number : ℕ) × ((slice_get (numbers_in number_of bodies) i ≡ Some number)
      × (lower 0 number ≡ key))
  number_at bodies i key is =
      let there : slice_get (map (lower 0) (numbers_in number_of bodies)) i ≡ Some key
      = ap (λ (keys : List KeyUse). slice_get keys i) (sym (uses_are [] bodies)) ∙ is in
      number_is (slice_get (numbers_in number_of bodies) i) key
      (sym (slice_get-map (lower 0) (numbers_in number_of bodies) i) ∙ there)

pub one_level_once : OneLevelUsesOnce
one_level_once number_of first bodies counted i j key at_i at_j =
    let a = number_at number_of first bodies i key at_i in
    let b = number_at number_of first bodies j key at_j in
    let same = lower_is a.0 b.0 (a.1.1 ∙ sym b.1.1) in
    sym (counted i a.0 a.1.0) ∙ (same ∙ counted j b.0 b.1.0)
