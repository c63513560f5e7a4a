-- The places of blocks, with a record more.
use Rattle.std.proofs.Common.{◌≡◌, ℕ, zero, suc, ◌+◌, ◌≤◌, List, [], ◌∷◌, ◌++◌}
use Rattle.std.proofs.Common.{length, ap, sym, subst, ◌∙◌, arith}
use Rattle.std.proofs.lemmas.Grind.{flat_map-append}
use Rattle.std.proofs.lemmas.List.{append-nil, append_assoc, length-append, length-replicate}
use Rattle.std.specs.Prelude.{flat_map, replicate}
use Rattle.byte_formats.specs.Types.{Text}
use Rattle.journal_core.specs.Format.{following}
use Rattle.tiled_items.specs.Blocks.{PlacesAreBelow, all_items, begun_at, block_places}
use Rattle.tiled_items.specs.Blocks.{block_places_after, blocks_begun, blocks_of}
use Rattle.tiled_items.specs.declared.held.ItemPlace.{ItemPlace}

-- ---- how many

pub blocks_more : (first count : ℕ)
    → blocks_of first + blocks_begun first count ≡ blocks_of (first + count)
blocks_more first count = omega arith

pub blocks_first : (count : ℕ) → blocks_begun 0 count ≡ blocks_of count
blocks_first count = omega arith

-- ---- before an end

-- every one of them
abbrev EachBelow : List ItemPlace → ℕ → Type 0
EachBelow [] end = Unit {0}
EachBelow (p ∷ places) end = (p.place + 5 ≤ end) × EachBelow places end

each_below : (places : List ItemPlace) (end : ℕ) → PlacesAreBelow places end → EachBelow places end
each_below [] end below = tt
each_below (p ∷ places) end below =
    (below 0 (omega arith), each_below places end (λ i there. below (suc i) (omega (arith, there))))

all_below : (places : List ItemPlace) (end : ℕ) → EachBelow places end → PlacesAreBelow places end
all_below [] end each i there = absurd (omega (arith, there))
all_below (p ∷ places) end each zero there = each.0
all_below (p ∷ places) end each (suc i) there =
    all_below places end each.1 i (omega (arith, there))

each_later : (places : List ItemPlace) (end later : ℕ) → end ≤ later → EachBelow places end
    → EachBelow places later
each_later [] end later more each = tt
each_later (p ∷ places) end later more each =
    let first = each.0 in (omega (arith, first, more), each_later places end later more each.1)

each_both : (xs ys : List ItemPlace) (end : ℕ) → EachBelow xs end → EachBelow ys end
    → EachBelow (xs ++ ys) end
each_both [] ys end first second = second
each_both (p ∷ xs) ys end first second = (first.0, each_both xs ys end first.1 second)

each_copy : (n : ℕ) (place : ItemPlace) (end : ℕ) → place.place + 5 ≤ end
    → EachBelow (replicate n place) end
each_copy zero place end there = tt
each_copy (suc n) place end there = (there, each_copy n place end there)

-- the places of a record more
pub below_next : (places places' : List ItemPlace) (place first count later : ℕ)
    → PlacesAreBelow places (place + 1) → places' ≡ places ++ begun_at place first count
    → place + 5 ≤ later → PlacesAreBelow places' later
below_next places places' place first count later below are there =
    subst (λ (l : List ItemPlace). PlacesAreBelow l later) (sym are)
    (all_below (places ++ begun_at place first count) later
    (each_both places (begun_at place first count) later
    (each_later places (place + 1) later (omega (arith, there))
    (each_below places (place + 1) below))
    (each_copy (blocks_begun first count) (record { place = place; first = first }) later there)))

pub blocks_next : (places places' : List ItemPlace) (place first count : ℕ)
    → length places ≡ blocks_of first → places' ≡ places ++ begun_at place first count
    → length places' ≡ blocks_of (first + count)
blocks_next places places' place first count counted are =
    let long = ap length are ∙ length-append places (begun_at place first count) in
    let copied = length-replicate {A = ItemPlace} (blocks_begun first count)
    (record { place = place; first = first }) in
    let more = blocks_more first count in
    long ∙ ap (λ (n : ℕ). length places + n) copied
    ∙ ap (λ (n : ℕ). n + blocks_begun first count) counted ∙ more

-- ---- of records

module _ (begin : List (Text × Text)) (added : Text → List (Text × Text)) where
  places_more : (place first : ℕ) (bodies : List Text) (body : Text)
      → block_places_after begin added place first (bodies ++ body ∷ [])
      ≡ block_places_after begin added place first bodies
      ++ begun_at (following place bodies) (first + length (flat_map added bodies))
      (length (added body))
  unfolding block_places_after
  places_more place first [] body =
      let none : first ≡ first + 0 = omega arith in
      append-nil (begun_at place first (length (added body)))
      ∙ ap (λ (n : ℕ). begun_at place n (length (added body))) none
  places_more place first (b ∷ bodies) body =
      let size = length-append (added b) (flat_map added bodies) in
      let sum : first + length (added b) + length (flat_map added bodies)
      ≡ first + length (added b ++ flat_map added bodies) = omega (arith, size) in
      let next = place + 5 + length b in
      let rest = block_places_after begin added next (first + length (added b)) bodies in
      ap (λ (l : List ItemPlace). begun_at place first (length (added b)) ++ l)
      (places_more next (first + length (added b)) bodies body
      ∙ ap (λ (n : ℕ). rest ++ begun_at (following next bodies) n (length (added body))) sum)
      ∙ sym (append_assoc (begun_at place first (length (added b))) rest
      (begun_at (following next bodies) (first + length (added b ++ flat_map added bodies))
      (length (added body))))

  -- ---- of a journal, which has a record at least

  pub all_more : (list : List Text) (body : Text) → 1 ≤ length list
      → all_items begin added (list ++ body ∷ []) ≡ all_items begin added list ++ added body
  all_more [] body has = absurd (omega (arith, has))
  all_more (b ∷ bodies) body has =
      ap (λ (l : List (Text × Text)). begin ++ l) (flat_map-append added bodies (body ∷ [])
      ∙ ap (λ (l : List (Text × Text)). flat_map added bodies ++ l) (append-nil (added body)))
      ∙ sym (append_assoc begin (flat_map added bodies) (added body))

  pub places_next : (list : List Text) (body : Text) → 1 ≤ length list
      → block_places begin added (list ++ body ∷ [])
      ≡ block_places begin added list ++ begun_at (following 16 list)
      (length (all_items begin added list)) (length (added body))
  places_next [] body has = absurd (omega (arith, has))
  places_next (b ∷ bodies) body has =
      let next = 21 + length b in
      let size = length-append begin (flat_map added bodies) in
      ap (λ (l : List ItemPlace). begun_at 16 0 (length begin) ++ l)
      (places_more next (length begin) bodies body
      ∙ ap (λ (n : ℕ). block_places_after begin added next (length begin) bodies
      ++ begun_at (following next bodies) n (length (added body))) (sym size))
      ∙ sym (append_assoc (begun_at 16 0 (length begin))
      (block_places_after begin added next (length begin) bodies)
      (begun_at (following next bodies) (length (begin ++ flat_map added bodies))
      (length (added body))))
