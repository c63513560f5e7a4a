-- The first bad tile is reported: the search of an outcome finds the tile that an opening refuses,
-- and none where an opening finds all.
use Rattle.std.proofs.Common.{◌≡◌, ◌⊎◌, ◌≤◌, ◌<◌, ◌+◌, ◌*◌, ◌/◌, ◌^◌, inl, inr, ℕ, zero, suc, List}
use Rattle.std.proofs.Common.{[], ◌∷◌, ◌++◌, Bool, true, false, Option, None, Some, refl}
use Rattle.std.proofs.Common.{nat_lt, if◌then◌else◌, sym, subst, ap, ◌∙◌, arith}
use Rattle.std.proofs.lemmas.Bool.{and_from, and_parts, le-leb, le-ltb, leb-true, lt-ltb}
use Rattle.std.proofs.lemmas.Bool.{ltb-false, ltb-true, cases_Bool}
use Rattle.std.proofs.lemmas.Slice.Eq.{bytes_eq-Decides}
use Rattle.std.proofs.Math.Nat.{mul-le-mul_right}
use Rattle.std.proofs.lemmas.Option.{same_Some}
use Rattle.byte_formats.proofs.Digits.{power_pos}
use Rattle.byte_formats.specs.Types.{Hash, HashFunction, Text}
use Rattle.disk_core.specs.Disk.{part}
use Rattle.tile_store.proofs.Bytes.{length-part}
use Rattle.tile_store.proofs.Numbers.{full-low, same-number}
use Rattle.tile_store.specs.Causes.{IsFirstBad, IsNewTile, StandsIn}
use Rattle.tile_store.specs.Contents.{hash_in}
use Rattle.tile_store.specs.Layout.{IsFull, tile_at, tile_number}
use Rattle.tree_core.specs.Path.{part_of}
use Rattle.tree_core.specs.Tree.{root_of}
use Rattle.mtc_tiled.specs.BadTiles.{first_bad_tile, first_missing, full_tiles, has_hashes}
use Rattle.mtc_tiled.specs.BadTiles.{has_tile, sooner_of, tiles_at}

order : (a b : ℕ) → (a < b) ⊎ ((a ≡ b) ⊎ (b < a))
order a b = elim (cases_Bool (nat_lt a b)) [
  | inl lower ↦ inl (ltb-true a b lower)
  | inr not ↦ elim (cases_Bool (nat_lt b a)) [
    | inl higher ↦ inr (inr (ltb-true b a higher))
    | inr neither ↦
        (let one = ltb-false a b not in let two = ltb-false b a neither in
        inr (inl (omega (arith, one, two))))
  ]
]

-- ---- whether a file has a tile

module _ (h : HashFunction) (leaves : List Hash) (level place : ℕ) (tile : Text) where
  abbrev HasHash : ℕ → Type 0
  HasHash i = hash_in i tile ≡ root_of h (part_of leaves ((256 * place + i) * 256 ^ level)
      ((256 * place + i + 1) * 256 ^ level))

  hashes_true : (count : ℕ) → ((i : ℕ) → i < count → HasHash i)
      → has_hashes h leaves level place tile count ≡ true
  unfolding has_hashes
  hashes_true zero all = refl
  hashes_true (suc i) all = and_from _ _ ((bytes_eq-Decides _ _).1 (all i (omega arith)))
      (hashes_true i (λ j less. all j (omega (arith, less))))

  last_or_less : (i j : ℕ) → j < suc i → (j ≡ i) ⊎ (j < i)
  last_or_less i j less = elim (order j i) [
    | inl lower ↦ inr lower
    | inr (inl same) ↦ inl same
    | inr (inr more) ↦ absurd (omega (arith, less, more))
  ]

  true_hashes : (count : ℕ) → has_hashes h leaves level place tile count ≡ true
      → (i : ℕ) → i < count → HasHash i
  unfolding has_hashes
  true_hashes zero is i less = absurd (omega (arith, less))
  true_hashes (suc count) is i less =
      let both = and_parts _ _ is in
      elim (last_or_less count i less) [
        | inl same ↦ subst HasHash (sym same) ((bytes_eq-Decides _ _).0 both.0)
        | inr lower ↦ true_hashes count both.1 i lower
      ]

module _ (h : HashFunction) (leaves : List Hash) (bytes : Text) where
  stands_true : (level place : ℕ) → StandsIn h leaves bytes level place
      → has_tile h leaves bytes level place ≡ true
  unfolding has_tile
  stands_true level place is = and_from _ _ (le-leb _ _ is.there)
      (hashes_true h leaves level place (part (tile_at level place) 8192 bytes) 256 is.tile.hashes)

  true_stands : (level place : ℕ) → has_tile h leaves bytes level place ≡ true
      → StandsIn h leaves bytes level place
  unfolding has_tile
  true_stands level place is =
      let both = and_parts _ _ is in
      let there = leb-true _ _ both.0 in
      record {
        there = there;
        tile = record {
          size = length-part (tile_at level place) 8192 bytes there;
          hashes = true_hashes h leaves level place (part (tile_at level place) 8192 bytes) 256
              both.1;
        };
      }

-- ---- the tiles that are full

abbrev Every : (ℕ × ℕ → Type 0) → List (ℕ × ℕ) → Type 0
Every P [] = Unit {0}
Every P (tile ∷ tiles) = P tile × Every P tiles

abbrev IsAmong : ℕ × ℕ → List (ℕ × ℕ) → Type 0
IsAmong tile [] = ⊥
IsAmong tile (other ∷ others) = (other ≡ tile) ⊎ IsAmong tile others

module _ (P : ℕ × ℕ → Type 0) where
  every_both : (first second : List (ℕ × ℕ)) → Every P first → Every P second
      → Every P (first ++ second)
  every_both [] second all more = more
  every_both (tile ∷ tiles) second all more = (all.0, every_both tiles second all.1 more)

  every_at : (level count : ℕ) → ((place : ℕ) → place < count → P (level, place))
      → Every P (tiles_at level count)
  unfolding tiles_at
  every_at level zero all = tt
  every_at level (suc place) all =
      (all place (omega arith), every_at level place (λ p less. all p (omega (arith, less))))

  -- each of them, where it is so of each full one
  every_full : (size : ℕ) → ((level place : ℕ) → level ≤ 2 → IsFull size level place
      → P (level, place)) → Every P (full_tiles size)
  unfolding full_tiles
  every_full size all =
      every_both _ _ (every_at 0 _ (λ place less. all 0 place (omega arith) (omega (arith, less))))
      (every_both _ _
      (every_at 1 _ (λ place less. all 1 place (omega arith) (omega (arith, less))))
      (every_at 2 _ (λ place less. all 2 place (omega arith) (omega (arith, less)))))

among_first : (tile : ℕ × ℕ) (first second : List (ℕ × ℕ)) → IsAmong tile first
    → IsAmong tile (first ++ second)
among_first tile [] second is = absurd is
among_first tile (other ∷ others) second is = elim is [
  | inl same ↦ inl same
  | inr later ↦ inr (among_first tile others second later)
]

among_second : (tile : ℕ × ℕ) (first second : List (ℕ × ℕ)) → IsAmong tile second
    → IsAmong tile (first ++ second)
among_second tile [] second is = is
among_second tile (other ∷ others) second is = inr (among_second tile others second is)

among_at : (level count place : ℕ) → place < count → IsAmong (level, place) (tiles_at level count)
unfolding tiles_at
among_at level zero place less = absurd (omega (arith, less))
among_at level (suc count) place less = elim (order place count) [
  | inl lower ↦ inr (among_at level count place lower)
  | inr (inl same) ↦ inl (ap (λ (p : ℕ). (level, p)) (sym same))
  | inr (inr more) ↦ absurd (omega (arith, less, more))
]

-- a full one is among them
among_full : (size level place : ℕ) → level < 3 → IsFull size level place
    → IsAmong (level, place) (full_tiles size)
unfolding full_tiles
among_full size zero place low full =
    among_first _ (tiles_at 0 (size / 256)) _ (among_at 0 _ place (omega arith))
among_full size (suc zero) place low full =
    among_second _ (tiles_at 0 (size / 256)) _
    (among_first _ (tiles_at 1 (size / 65536)) _ (among_at 1 _ place (omega arith)))
among_full size (suc (suc zero)) place low full =
    among_second _ (tiles_at 0 (size / 256)) _
    (among_second _ (tiles_at 1 (size / 65536)) _ (among_at 2 _ place (omega arith)))
among_full size (suc (suc (suc level))) place low full = absurd (omega (arith, low))

-- ---- the first one that isn't there

some_none : (tile : ℕ × ℕ) → Some tile ≡ None → ⊥
some_none tile is = absurd cc

cond_some : (b : Bool) (x y : ℕ × ℕ) → (if b then Some x else Some y) ≡ None → ⊥
cond_some true x y is = some_none x is
cond_some false x y is = some_none y is

sooner_some : (tile : ℕ × ℕ) (found : Option (ℕ × ℕ)) → sooner_of tile found ≡ None → ⊥
sooner_some tile None is = some_none tile is
sooner_some tile (Some other) is = cond_some _ other tile is

module _ (has : ℕ → ℕ → Bool) where
  cond_true : (b : Bool) (x y : Option (ℕ × ℕ)) → b ≡ true → (if b then x else y) ≡ x
  cond_true true x y is = refl
  cond_true false x y is = absurd cc

  cond_false : (b : Bool) (x y : Option (ℕ × ℕ)) → b ≡ false → (if b then x else y) ≡ y
  cond_false true x y is = absurd cc
  cond_false false x y is = refl

  none_missing : (tiles : List (ℕ × ℕ)) → Every (λ tile. has tile.0 tile.1 ≡ true) tiles
      → first_missing has tiles ≡ None
  unfolding first_missing
  none_missing [] all = refl
  none_missing (tile ∷ tiles) all =
      cond_true (has tile.0 tile.1) _ _ all.0 ∙ none_missing tiles all.1

  -- none is missing only where each is there
  here_first : (tile : ℕ × ℕ) (tiles : List (ℕ × ℕ)) → first_missing has (tile ∷ tiles) ≡ None
      → (has tile.0 tile.1 ≡ true) × (first_missing has tiles ≡ None)
  unfolding first_missing
  here_first tile tiles none = elim (cases_Bool (has tile.0 tile.1)) [
    | inl here ↦ (here, sym (cond_true _ _ _ here) ∙ none)
    | inr gone ↦ absurd (sooner_some tile (first_missing has tiles)
        (sym (cond_false _ _ _ gone) ∙ none))
  ]

  missing_none : (tile : ℕ × ℕ) (tiles : List (ℕ × ℕ)) → first_missing has tiles ≡ None
      → IsAmong tile tiles → has tile.0 tile.1 ≡ true
  missing_none tile [] none there = absurd there
  missing_none tile (first ∷ tiles) none there = elim there [
    | inl same ↦ subst (λ (t : ℕ × ℕ). has t.0 t.1 ≡ true) same (here_first first tiles none).0
    | inr later ↦ missing_none tile tiles (here_first first tiles none).1 later
  ]

  module _ (tile : ℕ × ℕ) where
    abbrev number : ℕ × ℕ → ℕ
    number t = tile_number t.0 t.1

    -- it stands, or becomes full later, or is the tile
    abbrev IsLater : ℕ × ℕ → Type 0
    IsLater other = has other.0 other.1 ≡ false
        → (number tile < number other) ⊎ (other ≡ tile)

    abbrev IsNoSooner : Option (ℕ × ℕ) → Type 0
    IsNoSooner found = (other : ℕ × ℕ) → found ≡ Some other
        → (number tile < number other) ⊎ (other ≡ tile)

    one_case : (first : ℕ × ℕ) → (number tile < number first) ⊎ (first ≡ tile)
        → IsNoSooner (Some first)
    one_case first later other is = elim later [
      | inl more ↦
          inl (subst (λ (t : ℕ × ℕ). number tile < number t) (same_Some first other is) more)
      | inr same ↦ inr (sym (same_Some first other is) ∙ same)
    ]

    sooner_case : (first : ℕ × ℕ) (found : Option (ℕ × ℕ))
        → (number tile < number first) ⊎ (first ≡ tile) → IsNoSooner found
        → IsNoSooner (sooner_of first found)
    sooner_case first None later no_sooner other is = one_case first later other is
    sooner_case first (Some found) later no_sooner other is =
        elim (cases_Bool (nat_lt (number found) (number first))) [
          | inl lower ↦ no_sooner other (sym (cond_true _ (Some found) (Some first) lower) ∙ is)
          | inr not ↦ one_case first later other
              (sym (cond_false _ (Some found) (Some first) not) ∙ is)
        ]

    no_sooner_in : (tiles : List (ℕ × ℕ)) → Every IsLater tiles
        → IsNoSooner (first_missing has tiles)
    unfolding first_missing
    no_sooner_in [] all = λ other is. absurd cc
    no_sooner_in (first ∷ tiles) all = elim (cases_Bool (has first.0 first.1)) [
      | inl there ↦ subst IsNoSooner (sym (cond_true _ _ _ there)) (no_sooner_in tiles all.1)
      | inr missing ↦ subst IsNoSooner (sym (cond_false _ _ _ missing))
          (sooner_case first (first_missing has tiles) (all.0 missing) (no_sooner_in tiles all.1))
    ]

    -- the tile before those that are no sooner
    before_all : (found : Option (ℕ × ℕ)) → IsNoSooner found → sooner_of tile found ≡ Some tile
    before_all None no_sooner = refl
    before_all (Some found) no_sooner = elim (no_sooner found refl) [
      | inl more ↦ cond_false (nat_lt (number found) (number tile)) (Some found) (Some tile)
          (le-ltb (number found) (number tile) (omega (arith, more)))
      | inr same ↦ cond_false (nat_lt (number found) (number tile)) (Some found) (Some tile)
          (le-ltb (number found) (number tile) (let is = ap number same in omega (arith, is)))
    ]

    -- one that is no sooner before the tile
    following_first : (first : ℕ × ℕ) → (number tile < number first) ⊎ (first ≡ tile)
        → sooner_of first (Some tile) ≡ Some tile
    following_first first later = elim later [
      | inl more ↦ cond_true (nat_lt (number tile) (number first)) (Some tile) (Some first)
          (lt-ltb (number tile) (number first) more)
      | inr same ↦ cond_false (nat_lt (number tile) (number first)) (Some tile) (Some first)
          (le-ltb (number tile) (number first) (let is = ap number same in omega (arith, is)))
          ∙ ap Some same
    ]

    is_first : (tiles : List (ℕ × ℕ)) → has tile.0 tile.1 ≡ false → Every IsLater tiles
        → IsAmong tile tiles → first_missing has tiles ≡ Some tile
    unfolding first_missing
    is_first [] missing all there = absurd there
    is_first (first ∷ tiles) missing all there = elim there [
      | inl same ↦
          (let gone : has first.0 first.1 ≡ false =
          subst (λ (t : ℕ × ℕ). has t.0 t.1 ≡ false) (sym same) missing in
          cond_false _ _ _ gone
          ∙ ap (λ (t : ℕ × ℕ). sooner_of t (first_missing has tiles)) same
          ∙ before_all (first_missing has tiles) (no_sooner_in tiles all.1))
      | inr later ↦
          (let found = is_first tiles missing all.1 later in
          elim (cases_Bool (has first.0 first.1)) [
            | inl here ↦ cond_true _ _ _ here ∙ found
            | inr gone ↦ cond_false _ _ _ gone ∙ ap (sooner_of first) found
                ∙ following_first first (all.0 gone)
          ])
    ]

-- ---- of a tree

not_both : (b : Bool) → b ≡ true → b ≡ false → ⊥
not_both b there missing = absurd cc

pub none_full : (level place : ℕ) → IsFull 0 level place → ⊥
none_full level place full =
    let power = power_pos 256 (level + 1) (omega arith) in
    let up = mul-le-mul_right {m = 1} {n = place + 1} (256 ^ (level + 1)) (omega arith) in
    omega (arith, power, up, full)

module _ (h : HashFunction) (leaves : List Hash) (size : ℕ) (tiles : Text) where
  -- the file has each tile that the leaves up to this size fill
  abbrev pub HasTilesTo : Type 0
  HasTilesTo = (level place : ℕ) → IsNewTile 0 size level place
      → StandsIn h leaves tiles level place

  new_tile : (level place : ℕ) → IsFull size level place → IsNewTile 0 size level place
  new_tile level place full = record {
    full = full;
    other = λ none. none_full level place none;
  }

  -- the tile isn't there
  missing_is : (level place : ℕ) → IsFirstBad h leaves tiles 0 size level place
      → has_tile h leaves tiles level place ≡ false
  missing_is level place bad = elim (cases_Bool (has_tile h leaves tiles level place)) [
    | inl there ↦ absurd (bad.bad (true_stands h leaves tiles level place there))
    | inr missing ↦ missing
  ]

  -- and each other one that isn't becomes full later
  later_is : (level place : ℕ) → level < 3 → IsFirstBad h leaves tiles 0 size level place
      → (l p : ℕ) → l ≤ 2 → IsFull size l p
      → IsLater (has_tile h leaves tiles) (level, place) (l, p)
  later_is level place low bad l p less full missing =
      elim (order (tile_number l p) (tile_number level place)) [
        | inl sooner ↦ absurd (not_both (has_tile h leaves tiles l p)
            (stands_true h leaves tiles l p (bad.first l p (new_tile l p full) sooner)) missing)
        | inr (inl same) ↦
            (let is = same-number l p level place less (omega (arith, low)) same in
            inr (ap (λ (x : ℕ). (x, p)) is.0 ∙ ap (λ (x : ℕ). (level, x)) is.1))
        | inr (inr later) ↦ inl later
      ]

  -- it has all
  pub none_bad : HasTilesTo → first_bad_tile h leaves size tiles ≡ None
  unfolding first_bad_tile
  none_bad all = none_missing (has_tile h leaves tiles) (full_tiles size)
      (every_full _ size (λ level place low full.
      stands_true h leaves tiles level place (all level place (new_tile level place full))))

  -- and only then there is no bad one
  pub has_all : size < 2 ^ 32 → first_bad_tile h leaves size tiles ≡ None → HasTilesTo
  unfolding first_bad_tile
  has_all few none level place new =
      true_stands h leaves tiles level place
      (missing_none (has_tile h leaves tiles) (level, place) (full_tiles size) none
      (among_full size level place (full-low size level place few new.full) new.full))

  -- this is the first one that it has not
  pub bad_is : (level place : ℕ) → size < 2 ^ 32
      → IsFirstBad h leaves tiles 0 size level place
      → first_bad_tile h leaves size tiles ≡ Some (level, place)
  unfolding first_bad_tile
  bad_is level place few bad =
      let low = full-low size level place few bad.new.full in
      is_first (has_tile h leaves tiles) (level, place) (full_tiles size)
      (missing_is level place bad)
      (every_full _ size (later_is level place low bad))
      (among_full size level place low bad.new.full)
