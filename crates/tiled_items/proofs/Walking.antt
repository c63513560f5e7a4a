-- An item that is looked for from the place of its block on is found.
use Rattle.std.proofs.Common.{◌≡◌, ℕ, zero, suc, ◌+◌, ◌-◌, ◌/◌, ◌<◌, ◌≤◌, ◌==◌, List, [], ◌∷◌}
use Rattle.std.proofs.Common.{◌++◌, length, nat_lt, Bool, true, false, refl, ap, sym, subst, ◌∙◌}
use Rattle.std.proofs.Common.{arith, slice_index_or, ne_eqb, append_assoc, Option, Some, None}
use Rattle.std.proofs.Common.{IfSome, option_map}
use Rattle.std.proofs.lemmas.Bool.{eq-eqb, ltb-true}
use Rattle.std.proofs.lemmas.Bool.Decides.{nat_tests}
use Rattle.std.proofs.lemmas.Grind.{flat_map-append}
use Rattle.std.proofs.lemmas.List.{append-nil, length-append, length-replicate}
use Rattle.std.specs.Prelude.{flat_map, if◌then◌else◌}
use Rattle.byte_formats.specs.Types.{Hash, HashFunction, Text}
use Rattle.journal_core.specs.Format.{following}
use Rattle.tiled_items.specs.Blocks.{all_items, begun_at, block_places, block_places_after}
use Rattle.tiled_items.specs.Blocks.{blocks_begun, blocks_of, no_item_place}
use Rattle.tiled_items.specs.Held.{ItemsAreHeld}
use Rattle.tiled_items.specs.Walk.{IsRecordBodyAt, IsWalk, StepsTo, record_items}
use Rattle.tiled_items.specs.declared.held.ItemPlace.{ItemPlace}
use Rattle.tiled_items.proofs.Blocks.{blocks_first, blocks_more}
use Rattle.tiled_items.proofs.Walk.{at_copy, at_first, at_second, block_in}

abbrev Item : Type 0
Item = Text × Text

abbrev item : List Item → ℕ → Item
item items i = slice_index_or items i ([], [])

-- ---- an element of two lists

item_first : (xs ys : List Item) (i : ℕ) → i < length xs → item (xs ++ ys) i ≡ item xs i
item_first [] ys i there = absurd (omega (arith, there))
item_first (x ∷ xs) ys zero there = refl
item_first (x ∷ xs) ys (suc i) there = item_first xs ys i (omega (arith, there))

item_second : (xs ys : List Item) (i : ℕ) → item (xs ++ ys) (length xs + i) ≡ item ys i
item_second [] ys i = ap (item ys) (omega arith)
item_second (x ∷ xs) ys i =
    ap (item (x ∷ (xs ++ ys))) (next (length xs)) ∙ item_second xs ys i
  where
    next : (n : ℕ) → suc n + i ≡ suc (n + i)
    next n = omega arith

-- ---- offsets

pub following_from : (place : ℕ) (list : List Text) → place ≤ following place list
following_from place [] = omega arith
following_from place (body ∷ bodies) =
    let rest = following_from (place + 5 + length body) bodies in omega (arith, rest)

following_both : (place : ℕ) (front back : List Text)
    → following place (front ++ back) ≡ following (following place front) back
following_both place [] back = refl
following_both place (body ∷ front) back =
    following_both (place + 5 + length body) front back

module _ (begin : List Item) (added : Text → List Item) where
  -- the items of a record behind others
  items_behind : (front : List Text) (body : Text) (back : List Text) (place : ℕ)
      → place ≡ following 16 front
      → all_items begin added (front ++ body ∷ back)
      ≡ all_items begin added front ++ (record_items begin added place body ++ flat_map added back)
  items_behind [] body back place is =
      ap (λ (b : Bool). (if b then begin else added body) ++ flat_map added back)
      (sym (eq-eqb place 16 is))
  items_behind (f ∷ front) body back place is =
      let far = following_from (21 + length f) front in
      let other : (place == 16) ≡ false = ne_eqb place 16 (λ same. omega (arith, far, is, same)) in
      ap (λ (l : List Item). begin ++ l) (flat_map-append added front (body ∷ back))
      ∙ sym (append_assoc begin (flat_map added front) (added body ++ flat_map added back))
      ∙ ap (λ (b : Bool). (begin ++ flat_map added front)
      ++ ((if b then begin else added body) ++ flat_map added back)) (sym other)

  module _ (list : List Text) (index place left : ℕ)
      (walk : IsWalk begin added list index place left)
      (inside : index < length (all_items begin added list)) (read : Text)
      (is : IsRecordBodyAt place read list) where
    -- there is a record, and it is what was read
    pub record IsThere : Type 0 where
      pub back : List Text
      pub split : list ≡ walk.front ++ read ∷ back

    there_by : (back : List Text) → walk.back ≡ back → IsThere
    there_by [] none =
        let whole : list ≡ walk.front =
        walk.split ∙ ap (λ (l : List Text). walk.front ++ l) none ∙ append-nil walk.front in
        let same = ap (λ (l : List Text). length (all_items begin added l)) whole in
        let count = walk.left_is in
        absurd (omega (arith, inside, same, count))
    there_by (body ∷ back) some =
        let split : list ≡ walk.front ++ body ∷ back =
        walk.split ∙ ap (λ (l : List Text). walk.front ++ l) some in
        let body_is : read ≡ body = is walk.front body back split walk.place_is in
        record {
          back = back;
          split = split ∙ ap (λ (b : Text). walk.front ++ b ∷ back) (sym body_is);
        }

    is_there : IsThere
    is_there = there_by walk.back refl

    items_are : all_items begin added list ≡ all_items begin added walk.front
        ++ (record_items begin added place read ++ flat_map added is_there.back)
    items_are =
        ap (all_items begin added) is_there.split
        ∙ items_behind walk.front read is_there.back place walk.place_is

    -- the item is among those of the record
    pub walk_found : left < length (record_items begin added place read)
        → item (record_items begin added place read) left ≡ item (all_items begin added list) index
    walk_found here =
        let before = all_items begin added walk.front in
        let these = record_items begin added place read in
        let count : length before + left ≡ index = let was = walk.left_is in omega (arith, was) in
        sym (ap (λ (l : List Item). item l index) items_are
        ∙ ap (item (before ++ (these ++ flat_map added is_there.back))) (sym count)
        ∙ item_second before (these ++ flat_map added is_there.back) left
        ∙ item_first these (flat_map added is_there.back) left here)

    -- or behind it
    pub walk_on : length (record_items begin added place read) ≤ left
        → IsWalk begin added list index (place + 5 + length read)
        (left - length (record_items begin added place read))
    walk_on past =
        let one = items_behind walk.front read [] place walk.place_is in
        let more = ap length one ∙ length-append (all_items begin added walk.front)
        (record_items begin added place read ++ []) in
        let alone = ap length (append-nil (record_items begin added place read)) in
        let was = walk.left_is in
        record {
          front = walk.front ++ read ∷ [];
          back = is_there.back;
          split = is_there.split
              ∙ sym (append_assoc walk.front (read ∷ []) is_there.back);
          place_is = ap (λ (n : ℕ). n + 5 + length read) walk.place_is
              ∙ sym (following_both 16 walk.front (read ∷ []));
          left_is = omega (arith, past, more, alone, was);
        }

  -- ---- a step, where the records are known

  pub step_found : (o : Option (List Text)) (place left : ℕ) (read : Text) (leading : List Item)
      (x : Item) → IfSome o (IsRecordBodyAt place read)
      → leading ≡ record_items begin added place read → left < length leading
      → x ≡ item leading left
      → IfSome o (λ list. (index : ℕ) → IsWalk begin added list index place left
      → index < length (all_items begin added list)
      → x ≡ item (all_items begin added list) index)
  step_found None place left read leading x is are here same = tt
  step_found (Some list) place left read leading x is are here same = λ index walk inside.
      same ∙ ap (λ (l : List Item). item l left) are
      ∙ walk_found list index place left walk inside read is
      (subst (λ (l : List Item). left < length l) are here)

  pub step_on : (o : Option (List Text)) (place left : ℕ) (read : Text) (leading : List Item)
      (count next : ℕ) → IfSome o (IsRecordBodyAt place read)
      → leading ≡ record_items begin added place read → count ≡ length leading → count ≤ left
      → next ≡ place + 5 + length read
      → IfSome o (λ list. (index : ℕ) → IsWalk begin added list index place left
      → index < length (all_items begin added list)
      → IsWalk begin added list index next (left - count))
  step_on None place left read leading count next is are counted past there = tt
  step_on (Some list) place left read leading count next is are counted past there =
      λ index walk inside.
      let size : count ≡ length (record_items begin added place read) = counted ∙ ap length are in
      subst (λ (n : ℕ). IsWalk begin added list index n (left - count)) (sym there)
      (subst (λ (n : ℕ). IsWalk begin added list index (place + 5 + length read) (left - n))
      (sym size) (walk_on list index place left walk inside read is
      (omega (arith, past, size))))

  -- steps one after the other
  pub steps_on : (o now : Option (List Text)) (index start behind place left : ℕ) (x : Item)
      (next : Option (ℕ × ℕ)) → now ≡ o
      → IfSome o (λ list. IsWalk begin added list index start behind
      → index < length (all_items begin added list) → IsWalk begin added list index place left)
      → IfSome now (λ list. (i : ℕ) → IsWalk begin added list i place left
      → i < length (all_items begin added list) → StepsTo begin added list i x next)
      → IfSome o (λ list. IsWalk begin added list index start behind
      → index < length (all_items begin added list) → StepsTo begin added list index x next)
  steps_on o now index start behind place left x next same walks steps =
      each o walks (subst (λ p. IfSome p (λ list. (i : ℕ) → IsWalk begin added list i place left
      → i < length (all_items begin added list) → StepsTo begin added list i x next)) same steps)
    where
      each : (p : Option (List Text))
          → IfSome p (λ list. IsWalk begin added list index start behind
          → index < length (all_items begin added list) → IsWalk begin added list index place left)
          → IfSome p (λ list. (i : ℕ) → IsWalk begin added list i place left
          → i < length (all_items begin added list) → StepsTo begin added list i x next)
          → IfSome p (λ list. IsWalk begin added list index start behind
          → index < length (all_items begin added list) → StepsTo begin added list index x next)
      each None one two = tt
      each (Some list) one two = λ walk inside. two index (one walk inside) inside

  -- ---- the place of a block

  -- there are as many places as blocks
  places_count : (place first : ℕ) (bodies : List Text)
      → blocks_of first + length (block_places_after begin added place first bodies)
      ≡ blocks_of (first + length (flat_map added bodies))
  unfolding block_places_after
  places_count place first [] =
      let none : first ≡ first + 0 = omega arith in
      let same : blocks_of first + 0 ≡ blocks_of first = omega arith in
      same ∙ ap blocks_of none
  places_count place first (body ∷ bodies) =
      let here = begun_at place first (length (added body)) in
      let rest =
      block_places_after begin added (place + 5 + length body) (first + length (added body))
      bodies in
      let long = length-append here rest in
      let copied = length-replicate {A = ItemPlace} (blocks_begun first (length (added body)))
      (record { place = place; first = first }) in
      let more = blocks_more first (length (added body)) in
      let later = places_count (place + 5 + length body) (first + length (added body)) bodies in
      let items = length-append (added body) (flat_map added bodies) in
      let sum : first + length (added body) + length (flat_map added bodies)
      ≡ first + length (added body ++ flat_map added bodies) = omega (arith, items) in
      let both : blocks_of first + length (here ++ rest)
      ≡ blocks_of (first + length (added body)) + length rest = omega (arith, long, copied, more) in
      both ∙ later ∙ ap blocks_of sum

  abbrev place_for : List Text → ℕ → ItemPlace
  place_for list index = slice_index_or (block_places begin added list) (index / 256) no_item_place

  -- From the place of the block of an item on the item is found.
  pub walk_begins : (list : List Text) (index : ℕ) → 1 ≤ length list
      → index < length (all_items begin added list)
      → (IsWalk begin added list index (place_for list index).place
      (index - (place_for list index).first)) × ((place_for list index).first ≤ index)
  walk_begins [] index some inside = absurd (omega (arith, some))
  walk_begins (body ∷ bodies) index some inside = by_test (nat_lt (index / 256) (length here)) refl
    where
      here : List ItemPlace
      here = begun_at 16 0 (length begin)

      rest : List ItemPlace
      rest = block_places_after begin added (21 + length body) (length begin) bodies

      long : length here ≡ blocks_of (length begin)
      long =
          length-replicate {A = ItemPlace} (blocks_begun 0 (length begin))
          (record { place = 16; first = 0 })
          ∙ blocks_first (length begin)

      Wanted : ItemPlace → Type 0
      Wanted found = (IsWalk begin added (body ∷ bodies) index found.place (index - found.first))
          × (found.first ≤ index)

      by_test : (b : Bool) → nat_lt (index / 256) (length here) ≡ b
          → Wanted (slice_index_or (here ++ rest) (index / 256) no_item_place)
      by_test true is =
          let less = ltb-true (index / 256) (length here) is in
          let count = blocks_first (length begin) in
          let same : slice_index_or (here ++ rest) (index / 256) no_item_place
          ≡ record { place = 16; first = 0 } =
          at_first here rest (index / 256) less
          ∙ at_copy (blocks_begun 0 (length begin)) (record { place = 16; first = 0 }) (index / 256)
          (omega (arith, less, long, count)) in
          subst Wanted (sym same) (
            record {
              front = [];
              back = body ∷ bodies;
              split = refl;
              place_is = refl;
              left_is = omega arith;
            },
            omega arith,
          )
      by_test false is =
          let not_less : length here ≤ index / 256 = grind (arith, nat_tests) in
          let i = index / 256 - length here in
          let all = length-append begin (flat_map added bodies) in
          let count = places_count (21 + length body) (length begin) bodies in
          let there : i < length rest = omega (arith, inside, all, count, long, not_less) in
          let so = block_in begin added (21 + length body) (length begin) bodies i there in
          let sum : index / 256 ≡ length here + i = omega (arith, not_less) in
          let same : slice_index_or (here ++ rest) (index / 256) no_item_place
          ≡ slice_index_or rest i no_item_place =
          ap (λ (n : ℕ). slice_index_or (here ++ rest) n no_item_place) sum
          ∙ at_second here rest i in
          let first = so.first_is in
          let before = so.before in
          let within : (slice_index_or rest i no_item_place).first ≤ index =
          omega (arith, before, long, sum) in
          let items = length-append begin (flat_map added so.front) in
          subst Wanted (sym same) (
            record {
              front = body ∷ so.front;
              back = so.body ∷ so.back;
              split = ap (λ (l : List Text). body ∷ l) so.split;
              place_is = so.place_is;
              left_is = omega (arith, within, first, items);
            },
            within,
          )

  -- ---- an item, by what is held

  same_place : (places : List ItemPlace) (i : ℕ) (p q : ItemPlace) → i < length places
      → slice_index_or places i p ≡ slice_index_or places i q
  same_place [] i p q there = absurd (omega (arith, there))
  same_place (x ∷ places) zero p q there = refl
  same_place (x ∷ places) (suc i) p q there = same_place places i p q (omega (arith, there))

  pub item_so : (h : HashFunction) (size : ℕ) (places : List ItemPlace)
      (leaves : Option (List Hash)) (o : Option (List Text)) (index : ℕ) (start : ItemPlace)
      (x : Item) → IfSome o (ItemsAreHeld begin added h size places leaves) → index < size
      → index / 256 < length places → start ≡ slice_index_or places (index / 256) start
      → IfSome o (λ list. IsWalk begin added list index start.place (index - start.first)
      → index < length (all_items begin added list) → x ≡ item (all_items begin added list) index)
      → IfSome (option_map (all_items begin added) o) (λ items. x ≡ item items index)
  item_so h size places leaves None index start x held inside there is found = tt
  item_so h size places leaves (Some list) index start x held inside there is found =
      let all = held.all in
      let within : index < length (all_items begin added list) = omega (arith, inside, all) in
      let same : start ≡ place_for list index =
      is ∙ same_place places (index / 256) start no_item_place there
      ∙ ap (λ (l : List ItemPlace). slice_index_or l (index / 256) no_item_place) held.places_are in
      found (subst (λ (p : ItemPlace). IsWalk begin added list index p.place (index - p.first))
      (sym same) (walk_begins list index held.some within).0) within
