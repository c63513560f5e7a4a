-- A hash of a row is the root over its part of the leaves.
use Rattle.std.proofs.Common.{◌≡◌, ℕ, zero, suc, ◌+◌, ◌*◌, ◌-◌, ◌/◌, ◌^◌, ◌<◌, ◌≤◌, List, [], ◌∷◌}
use Rattle.std.proofs.Common.{length, get_or, take, drop, sym, ◌∙◌, ap, refl, subst, arith}
use Rattle.std.proofs.Math.Nat.{div-div-eq-div-mul, div-mul-le_self, lt_of_not-le, mul-le-mul_right}
use Rattle.std.proofs.Math.Nat.{pow-succ', zero-div}
use Rattle.std.proofs.Math.Seq.{drop-cons}
use Rattle.std.proofs.lemmas.List.{get_or-drop, get_or-take, length-drop, length-take}
use Rattle.std.proofs.lemmas.Nat.{le-div, pow_pos}
use Rattle.byte_formats.specs.Types.{Hash, HashFunction}
use Rattle.tree_cache.proofs.Pairs.{drop-paired, length-paired, part-paired, take-paired}
use Rattle.tree_cache.specs.Cached.{AreFulls}
use Rattle.tree_cache.proofs.Filled.{count-rows, rows-full}
use Rattle.tree_cache.proofs.Pushes.{long-of}
use Rattle.tree_cache.specs.Rows.{AreFullRowsOf, AreLong, AreRowsOf, AreSound, IsRowAt, IsRowOf}
use Rattle.tree_cache.specs.Rows.{RowState, RowsState, count_of, filled_of, gone_at, gone_in}
use Rattle.tree_cache.specs.Rows.{first_length, levels_of, paired, row_count}
use Rattle.tree_core.proofs.Powers.{split_unique}
use Rattle.tree_core.proofs.Roots.{root_of-none, root_of-one, root_of-split}
use Rattle.tree_core.specs.Path.{part_of}
use Rattle.tree_core.specs.Split.{split_of}
use Rattle.tree_core.specs.Tree.{pair_hash, root_of}
use Rattle.tree_proofs.proofs.Parts.{part-length, part_of-take}

-- the root over two leaves
root_of-two : (h : List ℕ → List ℕ) (xs : List (List ℕ)) → length xs ≡ 2
    → root_of h xs ≡ root_of h (paired h xs)
unfolding paired
root_of-two h [] two = let none : ⊥ = omega arith in absurd none
root_of-two h (x ∷ []) two = let none : ⊥ = omega arith in absurd none
root_of-two h (x ∷ y ∷ []) two =
    root_of-split h (x ∷ y ∷ []) (omega arith)
    ∙ ap (λ k. pair_hash h (root_of h (take k (x ∷ y ∷ []))) (root_of h (drop k (x ∷ y ∷ []))))
    (split_unique 2 0 (omega arith) (omega arith))
    ∙ ap (λ l. pair_hash h l (root_of h (y ∷ []))) (root_of-one h x)
    ∙ ap (pair_hash h x) (root_of-one h y)
    ∙ sym (root_of-one h (pair_hash h x y))
root_of-two h (x ∷ y ∷ z ∷ rest) two = let none : ⊥ = omega arith in absurd none

-- the root over a full subtree is that over the pairs of its leaves
root_of-paired : (h : List ℕ → List ℕ) (level : ℕ) (xs : List (List ℕ))
    → length xs ≡ 2 * 2 ^ level → root_of h xs ≡ root_of h (paired h xs)
root_of-paired h zero xs size = root_of-two h xs size
root_of-paired h (suc level) xs size =
    let double : 2 ^ suc level ≡ 2 * 2 ^ level = pow-succ' 2 level in
    let positive = pow_pos level in
    let pairs = length-paired h xs in
    let prefix = length-take (2 * 2 ^ level) xs in
    let back = length-drop (2 * 2 ^ level) xs in
    let split : split_of (length xs) ≡ 2 * 2 ^ level =
    split_unique (length xs) (suc level) (omega arith) (omega arith) ∙ double in
    let above : split_of (length (paired h xs)) ≡ 2 ^ level =
    split_unique (length (paired h xs)) level (omega arith) (omega arith) in
    root_of-split h xs (omega arith)
    ∙ ap (λ k. pair_hash h (root_of h (take k xs)) (root_of h (drop k xs))) split
    ∙ ap (λ l. pair_hash h l (root_of h (drop (2 * 2 ^ level) xs)))
    (root_of-paired h level (take (2 * 2 ^ level) xs) (omega arith)
    ∙ ap (root_of h) (take-paired h (2 ^ level) (2 * 2 ^ level) xs refl))
    ∙ ap (pair_hash h (root_of h (take (2 ^ level) (paired h xs))))
    (root_of-paired h level (drop (2 * 2 ^ level) xs) (omega arith)
    ∙ ap (root_of h) (drop-paired h (2 ^ level) (2 * 2 ^ level) xs refl))
    ∙ ap (λ k. pair_hash h (root_of h (take k (paired h xs))) (root_of h (drop k (paired h xs))))
    (sym above)
    ∙ sym (root_of-split h (paired h xs) (omega arith))

-- the row of a level over these hashes
row_of : HashFunction → ℕ → List Hash → List Hash
row_of h zero hashes = hashes
row_of h (suc level) hashes = row_of h level (paired h hashes)

length-row_of : (h : List ℕ → List ℕ) (level : ℕ) (xs : List (List ℕ))
    → length (row_of h level xs) ≡ length xs / 2 ^ level
unfolding row_of
length-row_of h zero xs = omega arith
length-row_of h (suc level) xs =
    length-row_of h level (paired h xs)
    ∙ ap (λ n. n / 2 ^ level) (length-paired h xs)
    ∙ div-div-eq-div-mul (length xs) 2 (2 ^ level)
    ∙ ap (λ d. length xs / d) (sym (pow-succ' 2 level))

-- the part of one leaf
pub part-one : (xs : List (List ℕ)) (place : ℕ) → place < length xs
    → part_of xs place (place + 1) ≡ get_or xs place [] ∷ []
part-one xs place within =
    let size : (place + 1) - place ≡ 1 = omega arith in
    ap (λ n. take n (drop place xs)) size
    ∙ ap (take 1) (drop-cons xs place [] within)

-- the root over a part of the pairs is that over the leaves below them
root-pairs : (h : List ℕ → List ℕ) (level : ℕ) (xs : List (List ℕ)) (place : ℕ)
    → (place + 1) * 2 ^ suc level ≤ length xs
    → root_of h (part_of (paired h xs) (place * 2 ^ level) ((place + 1) * 2 ^ level))
    ≡ root_of h (part_of xs (place * 2 ^ suc level) ((place + 1) * 2 ^ suc level))
root-pairs h level xs place within =
    let double : 2 ^ suc level ≡ 2 * 2 ^ level = pow-succ' 2 level in
    let from : place * 2 ^ suc level ≡ 2 * (place * 2 ^ level) =
    ap (λ p. place * p) double ∙ omega arith in
    let to : (place + 1) * 2 ^ suc level ≡ 2 * ((place + 1) * 2 ^ level) =
    ap (λ p. (place + 1) * p) double ∙ omega arith in
    let part = part-length xs (place * 2 ^ suc level) ((place + 1) * 2 ^ suc level) within in
    ap (root_of h) (sym (part-paired h xs (place * 2 ^ level) ((place + 1) * 2 ^ level)
    (place * 2 ^ suc level) ((place + 1) * 2 ^ suc level) from to))
    ∙ sym (root_of-paired h level
    (part_of xs (place * 2 ^ suc level) ((place + 1) * 2 ^ suc level)) (omega arith))

root-row_of : (h : List ℕ → List ℕ) (level : ℕ) (xs : List (List ℕ)) (place : ℕ)
    → (place + 1) * 2 ^ level ≤ length xs
    → get_or (row_of h level xs) place []
    ≡ root_of h (part_of xs (place * 2 ^ level) ((place + 1) * 2 ^ level))
unfolding row_of
root-row_of h zero xs place within =
    let from : place * 2 ^ 0 ≡ place = omega arith in
    let to : (place + 1) * 2 ^ 0 ≡ place + 1 = omega arith in
    sym (root_of-one h (get_or xs place []))
    ∙ ap (root_of h) (sym (part-one xs place (omega arith)))
    ∙ ap (λ a. root_of h (part_of xs a (place + 1))) (sym from)
    ∙ ap (λ b. root_of h (part_of xs (place * 2 ^ 0) b)) (sym to)
root-row_of h (suc level) xs place within =
    let double : 2 ^ suc level ≡ 2 * 2 ^ level = pow-succ' 2 level in
    let size = length-paired h xs in
    let to : (place + 1) * 2 ^ suc level ≡ 2 * ((place + 1) * 2 ^ level) =
    ap (λ p. (place + 1) * p) double ∙ omega arith in
    root-row_of h level (paired h xs) place (omega arith) ∙ root-pairs h level xs place within

-- so the row of a level has the hashes of the full subtrees of that level
row_of-fulls : (h : List ℕ → List ℕ) (level : ℕ) (xs hashes : List (List ℕ))
    → hashes ≡ row_of h level xs → AreFulls h level xs hashes
row_of-fulls h level xs hashes is = record {
  all = ap length is ∙ length-row_of h level xs;
  each = λ place inside.
      let size : length hashes ≡ length xs / 2 ^ level =
      ap length is ∙ length-row_of h level xs in
      let below = div-mul-le_self (length xs) (2 ^ level) in
      let up = mul-le-mul_right {m = place + 1} {n = length xs / 2 ^ level} (2 ^ level)
      (omega arith) in
      ap (λ row. get_or row place []) is ∙ root-row_of h level xs place (omega arith);
}

-- rows by their levels
row_at : (h : List ℕ → List ℕ) (level : ℕ) (hashes : List (List ℕ)) (rows : List RowState)
    (row : RowState) → AreFullRowsOf h hashes rows → level < length rows
    → row ≡ get_or rows level row → IsRowOf (row_of h level hashes) row
unfolding AreFullRowsOf row_of
row_at h level hashes [] row are inside is = let none : ⊥ = omega arith in absurd none
row_at h zero hashes (first ∷ rows) row are inside is =
    subst (IsRowOf hashes) (sym is) are.0
row_at h (suc level) hashes (first ∷ rows) row are inside is =
    row_at h level (paired h hashes) rows row are.1 (omega arith) is

gone-row : (level : ℕ) (rows : List RowState) (row : RowState) → level < length rows
    → row ≡ get_or rows level row → gone_in rows level ≡ row.gone
unfolding gone_in
gone-row level [] row inside is = let none : ⊥ = omega arith in absurd none
gone-row zero (first ∷ rows) row inside is = sym (ap (λ r. r.gone) is)
gone-row (suc level) (first ∷ rows) row inside is = gone-row level rows row (omega arith) is

pub gone-level : (level : ℕ) (r : RowsState) (row : RowState) → IsRowAt r level row
    → gone_at r level ≡ row.gone
unfolding gone_at
gone-level zero r row at = sym (ap (λ r. r.gone) at.is)
gone-level (suc level) r row at =
    let inside = at.inside in gone-row level r.above row (omega arith) at.is

-- where all nodes are made a row has the hashes of its level
pub row-fulls : (h : List ℕ → List ℕ) (level : ℕ) (leaves : List (List ℕ)) (r : RowsState)
    (row : RowState) (hashes : List (List ℕ)) → IsRowAt r level row → hashes ≡ row.kept
    → AreRowsOf h leaves r → filled_of r ≡ count_of r → gone_at r level ≡ 0
    → AreFulls h level leaves hashes
row-fulls h level leaves r row hashes at same are all whole =
    let full = row_at h level leaves (levels_of r) row (rows-full h leaves r are all) at.inside
    at.is in
    row_of-fulls h level leaves hashes
    (same ∙ full.kept ∙ ap (λ g. drop g (row_of h level leaves))
    (sym (gone-level level r row at) ∙ whole))

-- a node that is made is in its row the root over its part of the leaves
row-root : (h : List ℕ → List ℕ) (level : ℕ) (hashes : List (List ℕ)) (row : RowState)
    (place : ℕ) → IsRowOf (row_of h level hashes) row → row.gone ≤ place
    → (place + 1) * 2 ^ level ≤ length hashes
    → get_or row.kept (place - row.gone) []
    ≡ root_of h (part_of hashes (place * 2 ^ level) ((place + 1) * 2 ^ level))
row-root h level hashes row place is following within =
    let sum : row.gone + (place - row.gone) ≡ place = omega arith in
    ap (λ l. get_or l (place - row.gone) []) is.kept
    ∙ get_or-drop row.gone (row_of h level hashes) (place - row.gone) []
    ∙ ap (λ i. get_or (row_of h level hashes) i []) sum
    ∙ root-row_of h level hashes place within

kept-root : (h : List ℕ → List ℕ) (level : ℕ) (leaves : List (List ℕ)) (r : RowsState)
    (row : RowState) (place : ℕ) → IsRowAt r level row → AreRowsOf h leaves r
    → row.gone ≤ place → (place + 1) * 2 ^ level ≤ filled_of r
    → get_or row.kept (place - row.gone) []
    ≡ root_of h (part_of leaves (place * 2 ^ level) ((place + 1) * 2 ^ level))
unfolding row_of
kept-root h zero leaves r row place at are following within =
    let count = count-rows h leaves r are in
    row-root h 0 leaves row place (subst (IsRowOf leaves) (sym at.is) are.first) following
    (omega arith)
kept-root h (suc level) leaves r row place at are following within =
    let inside = at.inside in
    let pairs = take (first_length r.above) (paired h leaves) in
    let count = count-rows h leaves r are in
    let size = length-paired h leaves in
    let cut = length-take (first_length r.above) (paired h leaves) in
    let double : 2 ^ suc level ≡ 2 * 2 ^ level = pow-succ' 2 level in
    let to : (place + 1) * 2 ^ suc level ≡ 2 * ((place + 1) * 2 ^ level) =
    ap (λ p. (place + 1) * p) double ∙ omega arith in
    let order = mul-le-mul_right {m = place} {n = place + 1} (2 ^ level) (omega arith) in
    row-root h level (take (first_length r.above) (paired h leaves)) row place
    (row_at h level (take (first_length r.above) (paired h leaves)) r.above row are.above
    (omega arith) at.is) following (omega arith)
    ∙ ap (root_of h) (part_of-take (paired h leaves) (place * 2 ^ level)
    ((place + 1) * 2 ^ level) (first_length r.above) order (omega arith))
    ∙ root-pairs h level leaves place (omega arith)

-- so many hashes of a row, from an index on
pub kept-roots : (h : List ℕ → List ℕ) (level : ℕ) (leaves : List (List ℕ)) (r : RowsState)
    (row : RowState) (from count place : ℕ) (hashes : List (List ℕ)) → IsRowAt r level row
    → hashes ≡ take count (drop (from - row.gone) row.kept) → AreRowsOf h leaves r
    → row.gone ≤ from → (from + count) * 2 ^ level ≤ filled_of r → place < count
    → get_or hashes place []
    ≡ root_of h (part_of leaves ((from + place) * 2 ^ level) ((from + place + 1) * 2 ^ level))
kept-roots h level leaves r row from count place hashes at same are following within below =
    let up = mul-le-mul_right {m = from + place + 1} {n = from + count} (2 ^ level)
    (omega arith) in
    let sum : (from - row.gone) + place ≡ (from + place) - row.gone = omega arith in
    ap (λ l. get_or l place []) same
    ∙ get_or-take count (drop (from - row.gone) row.kept) place [] below
    ∙ get_or-drop (from - row.gone) row.kept place []
    ∙ ap (λ i. get_or row.kept i []) sum
    ∙ kept-root h level leaves r row (from + place) at are (omega arith) (omega arith)

-- how long a row is
row-long : (level count : ℕ) (rows : List RowState) (row : RowState) → AreLong count rows
    → level < length rows → row ≡ get_or rows level row → row_count row ≡ count / 2 ^ level
unfolding AreLong
row-long level count [] row long inside is = let none : ⊥ = omega arith in absurd none
row-long zero count (first ∷ rows) row long inside is =
    let one : count / 2 ^ 0 ≡ count = omega arith in
    ap row_count is ∙ long.0.all ∙ sym one
row-long (suc level) count (first ∷ rows) row long inside is =
    row-long level (count / 2) rows row long.1 (omega arith) is
    ∙ div-div-eq-div-mul count 2 (2 ^ level)
    ∙ ap (λ d. count / d) (sym (pow-succ' 2 level))

-- it has the nodes that are made
pub level-long : (level some : ℕ) (r : RowsState) (row : RowState) → IsRowAt r level row
    → AreSound r → some * 2 ^ level ≤ filled_of r → some ≤ row_count row
level-long zero some r row at sound within =
    subst (λ n. some ≤ n) (sym (ap row_count at.is)) (omega arith)
level-long (suc level) some r row at sound within =
    let inside = at.inside in
    let double : some * 2 ^ suc level ≡ 2 * (some * 2 ^ level) =
    ap (λ p. some * p) (pow-succ' 2 level) ∙ omega arith in
    let many = le-div some (first_length r.above) (2 ^ level) (pow_pos level) (omega arith) in
    let all = row-long level (first_length r.above) r.above row sound.long (omega arith) at.is in
    omega arith

-- above the last row there are none
over : (level count : ℕ) (rows : List RowState) → AreLong count rows → length rows ≤ level
    → count / 2 ^ level ≡ 0
unfolding AreLong
over level count [] long outside =
    ap (λ n. n / 2 ^ level) long ∙ zero-div (2 ^ level)
over zero count (first ∷ rows) long outside = let none : ⊥ = omega arith in absurd none
over (suc level) count (first ∷ rows) long outside =
    ap (λ d. count / d) (pow-succ' 2 level)
    ∙ sym (div-div-eq-div-mul count 2 (2 ^ level))
    ∙ over level (count / 2) rows long.1 (omega arith)

pub no-fulls : (h : List ℕ → List ℕ) (level : ℕ) (leaves : List (List ℕ)) (r : RowsState)
    (hashes : List (List ℕ)) → length (levels_of r) ≤ level → length hashes ≡ 0
    → AreRowsOf h leaves r → filled_of r ≡ count_of r → AreFulls h level leaves hashes
no-fulls h level leaves r hashes outside none are all = record {
  all = none ∙ sym (over level (length leaves) (levels_of r)
      (long-of h leaves (levels_of r) (rows-full h leaves r are all)) outside);
  each = λ place inside. let no : ⊥ = omega arith in absurd no;
}

-- a level that has some of the nodes that are made has a row
pub level-inside : (level some : ℕ) (r : RowsState) → AreSound r → 1 ≤ some
    → some * 2 ^ level ≤ filled_of r → level < length (levels_of r)
level-inside zero some r sound one within = omega arith
level-inside (suc level) some r sound one within =
    let double : some * 2 ^ suc level ≡ 2 * (some * 2 ^ level) =
    ap (λ p. some * p) (pow-succ' 2 level) ∙ omega arith in
    let many = le-div some (first_length r.above) (2 ^ level) (pow_pos level) (omega arith) in
    let below : level < length r.above = lt_of_not-le (λ outside.
    let none = over level (first_length r.above) r.above sound.long outside in omega arith) in
    omega arith

pub root-none : (h : List ℕ → List ℕ) (leaves : List (List ℕ)) → length leaves ≡ 0
    → root_of h leaves ≡ h []
root-none h [] none = root_of-none h
root-none h (x ∷ rest) none = let no : ⊥ = omega arith in absurd no
