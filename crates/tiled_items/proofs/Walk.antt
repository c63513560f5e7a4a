-- The record that has an item, by the place of the block in which the item is.
use Rattle.std.proofs.Common.{◌≡◌, ℕ, zero, suc, ◌+◌, ◌-◌, ◌*◌, ◌<◌, ◌≤◌, List, [], ◌∷◌, ◌++◌}
use Rattle.std.proofs.Common.{length, nat_lt, Bool, true, false, refl, ap, sym, subst, ◌∙◌, arith}
use Rattle.std.proofs.Common.{slice_index_or}
use Rattle.std.proofs.lemmas.Bool.{ltb-true}
use Rattle.std.proofs.lemmas.Bool.Decides.{nat_tests}
use Rattle.std.proofs.lemmas.List.{length-append, length-replicate}
use Rattle.std.specs.Prelude.{flat_map, replicate}
use Rattle.byte_formats.specs.Types.{Text}
use Rattle.journal_core.specs.Format.{following}
use Rattle.tiled_items.specs.Blocks.{begun_at, block_places_after}
use Rattle.tiled_items.specs.Blocks.{blocks_begun, blocks_of, no_item_place}
use Rattle.tiled_items.specs.declared.held.ItemPlace.{ItemPlace}
use Rattle.tiled_items.proofs.Blocks.{blocks_more}

at : List ItemPlace → ℕ → ItemPlace
at places i = slice_index_or places i no_item_place

-- ---- an element of two lists

pub at_first : (xs ys : List ItemPlace) (i : ℕ) → i < length xs
    → slice_index_or (xs ++ ys) i no_item_place ≡ slice_index_or xs i no_item_place
at_first [] ys i there = absurd (omega (arith, there))
at_first (x ∷ xs) ys zero there = refl
at_first (x ∷ xs) ys (suc i) there = at_first xs ys i (omega (arith, there))

pub at_second : (xs ys : List ItemPlace) (i : ℕ)
    → slice_index_or (xs ++ ys) (length xs + i) no_item_place ≡ slice_index_or ys i no_item_place
at_second [] ys i = ap (λ (n : ℕ). slice_index_or ys n no_item_place) (omega arith)
at_second (x ∷ xs) ys i =
    ap (λ (n : ℕ). slice_index_or (x ∷ (xs ++ ys)) n no_item_place) (next (length xs))
    ∙ at_second xs ys i
  where
    next : (n : ℕ) → suc n + i ≡ suc (n + i)
    next n = omega arith

pub at_copy : (n : ℕ) (place : ItemPlace) (i : ℕ) → i < n
    → slice_index_or (replicate n place) i no_item_place ≡ place
at_copy zero place i there = absurd (omega (arith, there))
at_copy (suc n) place zero there = refl
at_copy (suc n) place (suc i) there = at_copy n place i (omega (arith, there))

-- ---- the place of a block

module _ (begin : List (Text × Text)) (added : Text → List (Text × Text)) where
  -- The place is of a record among these, which begins no later than a block.
  pub record IsOfBlock (place first : ℕ) (bodies : List Text) (block : ℕ) (found : ItemPlace)
      : Type 0 where
    pub front : List Text
    pub body : Text
    pub back : List Text
    pub split : bodies ≡ front ++ body ∷ back
    pub place_is : found.place ≡ following place front
    pub first_is : found.first ≡ first + length (flat_map added front)
    pub before : found.first ≤ 256 * block

  pub block_in : (place first : ℕ) (bodies : List Text) (j : ℕ)
      → j < length (block_places_after begin added place first bodies)
      → IsOfBlock place first bodies (blocks_of first + j)
      (slice_index_or (block_places_after begin added place first bodies) j no_item_place)
  unfolding block_places_after
  block_in place first [] j there = absurd (omega (arith, there))
  block_in place first (body ∷ bodies) j there =
      by_test (nat_lt j more) refl
      (block_in (place + 5 + length body) (first + length (added body)) bodies)
    where
      more : ℕ
      more = blocks_begun first (length (added body))

      here : List ItemPlace
      here = begun_at place first (length (added body))

      rest : List ItemPlace
      rest =
          block_places_after begin added (place + 5 + length body) (first + length (added body))
          bodies

      long : length here ≡ more
      long = length-replicate {A = ItemPlace} more (record { place = place; first = first })

      by_test : (b : Bool) → nat_lt j more ≡ b
          → ((i : ℕ) → i < length rest → IsOfBlock (place + 5 + length body)
          (first + length (added body)) bodies (blocks_of (first + length (added body)) + i)
          (slice_index_or rest i no_item_place))
          → IsOfBlock place first (body ∷ bodies) (blocks_of first + j)
          (slice_index_or (here ++ rest) j no_item_place)
      by_test true is later =
          let less = ltb-true j more is in
          let same : slice_index_or (here ++ rest) j no_item_place
          ≡ record { place = place; first = first } =
          at_first here rest j (omega (arith, less, long))
          ∙ at_copy more (record { place = place; first = first }) j less in
          subst (IsOfBlock place first (body ∷ bodies) (blocks_of first + j)) (sym same) (record {
            front = [];
            body = body;
            back = bodies;
            split = refl;
            place_is = refl;
            first_is = omega arith;
            before = omega arith;
          })
      by_test false is later =
          let not_less : more ≤ j = grind (arith, nat_tests) in
          let sum : j ≡ length here + (j - length here) = omega (arith, not_less, long) in
          let total = length-append here rest in
          let i = j - length here in
          let inside : i < length rest = omega (arith, there, total, sum, not_less, long) in
          let so = later i inside in
          let blocks = blocks_more first (length (added body)) in
          let number : blocks_of (first + length (added body)) + i ≡ blocks_of first + j =
          omega (arith, blocks, sum, long, not_less) in
          let items = length-append (added body) (flat_map added so.front) in
          let same : slice_index_or (here ++ rest) j no_item_place
          ≡ slice_index_or rest i no_item_place =
          ap (λ (n : ℕ). slice_index_or (here ++ rest) n no_item_place) sum
          ∙ at_second here rest i in
          subst (IsOfBlock place first (body ∷ bodies) (blocks_of first + j)) (sym same) (record {
            front = body ∷ so.front;
            body = so.body;
            back = so.back;
            split = ap (λ (l : List Text). body ∷ l) so.split;
            place_is = so.place_is;
            first_is = let was = so.first_is in omega (arith, was, items);
            before = subst (λ (n : ℕ). (slice_index_or rest i no_item_place).first ≤ 256 * n) number
                so.before;
          })
