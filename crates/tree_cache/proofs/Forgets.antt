-- Rows whose nodes in full tiles are gone.
use Rattle.std.proofs.Common.{◌≡◌, ℕ, zero, suc, ◌+◌, ◌-◌, ◌*◌, ◌/◌, ◌%◌, ◌^◌, ◌<◌, ◌≤◌}
use Rattle.std.proofs.Common.{List, [], ◌∷◌, length, take, drop, ◌++◌, sym, ◌∙◌, ap, refl}
use Rattle.std.proofs.Common.{◌⊎◌, ⊎_elim, subst, arith}
use Rattle.std.proofs.Math.Nat.{div-div-eq-div-mul, div-eq_of_lt, div-mul-le_self}
use Rattle.std.proofs.Math.Nat.{pow-le-pow_right, pow-succ'}
use Rattle.std.proofs.lemmas.Bool.{cases_lt}
use Rattle.std.proofs.lemmas.List.{drop-drop, length-drop}
use Rattle.std.proofs.lemmas.Nat.{pow-add, pow_pos}
use Rattle.tree_cache.proofs.Pushes.{count-long, written-whole}
use Rattle.tree_cache.specs.Rows.{AreFullRowsOf, AreLong, AreRowsOf, AreSound, HoldUpTo, IsLong}
use Rattle.tree_cache.specs.Rows.{IsRowOf, RowState, RowsState, count_of, filled_of, gone_at}
use Rattle.tree_cache.specs.Rows.{gone_in}
use Rattle.tree_cache.specs.Rows.{first_length, paired, row_count}
use Rattle.tree_cache.specs.Tiled.{CanForget, CanForgetAll, HasForgotten, gone_of}

-- a power of 256 as one of 2
eights : (k : ℕ) → 256 ^ k ≡ 2 ^ (8 * k)
eights zero = refl
eights (suc k) =
    let sum : 8 * suc k ≡ 8 + 8 * k = omega arith in
    pow-succ' 256 k ∙ ap (λ p. 256 * p) (eights k) ∙ sym (pow-add 2 8 (8 * k))
    ∙ ap (λ n. 2 ^ n) (sym sum)

pub bytes-of : (k : ℕ) → 2 ^ (8 * k) ≡ 256 ^ k
bytes-of k = sym (eights k)

-- a shift of one by at most eight bits drops nothing
pub one-shifted : (k : ℕ) → k ≤ 8 → 1 * 2 ^ k % 18446744073709551616 ≡ 2 ^ k
one-shifted k few =
    let most : 2 ^ k ≤ 2 ^ 8 = pow-le-pow_right {n = 2} (omega arith) few in
    omega arith

pub gone-even : (size level : ℕ) → gone_of size level % 2 ≡ 0
gone-even size level =
    let one : 8 - level % 8 ≡ suc (7 - level % 8) = omega arith in
    let double : 2 ^ (8 - level % 8) ≡ 2 * 2 ^ (7 - level % 8) =
    ap (λ n. 2 ^ n) one ∙ pow-succ' 2 (7 - level % 8) in
    let all : gone_of size level
    ≡ 2 * (size / 256 ^ (level / 8 + 1) * 2 ^ (7 - level % 8)) =
    ap (λ p. size / 256 ^ (level / 8 + 1) * p) double ∙ omega arith in
    omega arith

-- no more are gone than there are
pub gone-within : (size level : ℕ) → gone_of size level ≤ size / 2 ^ level
gone-within size level =
    let sum : 8 * (level / 8 + 1) ≡ level + (8 - level % 8) = omega arith in
    let parts : 256 ^ (level / 8 + 1) ≡ 2 ^ level * 2 ^ (8 - level % 8) =
    eights (level / 8 + 1) ∙ ap (λ n. 2 ^ n) sum ∙ pow-add 2 level (8 - level % 8) in
    let all : size / 256 ^ (level / 8 + 1) ≡ size / 2 ^ level / 2 ^ (8 - level % 8) =
    ap (λ d. size / d) parts
    ∙ sym (div-div-eq-div-mul size (2 ^ level) (2 ^ (8 - level % 8))) in
    subst (λ q. q * 2 ^ (8 - level % 8) ≤ size / 2 ^ level) (sym all)
    (div-mul-le_self (size / 2 ^ level) (2 ^ (8 - level % 8)))

-- one row
pub row-forgotten : (hashes : List (List ℕ)) (gone : ℕ) (old new : RowState) → CanForget gone old
    → HasForgotten gone old new → gone % 2 ≡ 0 → IsRowOf hashes old → IsRowOf hashes new
row-forgotten hashes gone old new can done even is =
    let before = can.before in
    let within : gone ≤ old.gone + length old.kept = can.within in
    let size : length old.kept ≡ length hashes - old.gone =
    ap length is.kept ∙ length-drop old.gone hashes in
    let prefix = is.within in
    let sum : old.gone + (gone - old.gone) ≡ gone = omega arith in
    record {
      kept = done.kept ∙ ap (drop (gone - old.gone)) is.kept
          ∙ drop-drop (gone - old.gone) old.gone hashes
          ∙ ap (λ g. drop g hashes) (sum ∙ sym done.gone_is);
      within = let same = done.gone_is in omega arith;
      even = ap (λ g. g % 2) done.gone_is ∙ even;
    }

pub length-forgotten : (gone : ℕ) (old new : RowState) → CanForget gone old
    → HasForgotten gone old new → row_count new ≡ row_count old
length-forgotten gone old new can done =
    let before = can.before in
    let within : gone ≤ old.gone + length old.kept = can.within in
    let same = done.gone_is in
    let size : length new.kept ≡ length old.kept - (gone - old.gone) =
    ap length done.kept ∙ length-drop (gone - old.gone) old.kept in
    omega arith

-- and those above it
pub can-row : (size level : ℕ) (rows : List RowState) (row : RowState) (above : List RowState)
    → rows ≡ row ∷ above → CanForgetAll size level rows → CanForget (gone_of size level) row
unfolding CanForgetAll
can-row size level rows row above is can =
    let here : CanForgetAll size level (row ∷ above) = subst (CanForgetAll size level) is can in
    here.0

pub can-above : (size level : ℕ) (rows : List RowState) (row : RowState) (above : List RowState)
    → rows ≡ row ∷ above → CanForgetAll size level rows → CanForgetAll size (level + 1) above
unfolding CanForgetAll
can-above size level rows row above is can =
    let here : CanForgetAll size level (row ∷ above) = subst (CanForgetAll size level) is can in
    here.1

pub same-forgotten : (size level : ℕ) (rows : List RowState) (row new : RowState)
    (above raised : List RowState) → rows ≡ row ∷ above → CanForgetAll size level rows
    → HasForgotten (gone_of size level) row new
    → ((h : List ℕ → List ℕ) (leaves : List (List ℕ)) → AreFullRowsOf h leaves above
    → AreFullRowsOf h leaves raised)
    → (h : List ℕ → List ℕ) (leaves : List (List ℕ)) → AreFullRowsOf h leaves rows
    → AreFullRowsOf h leaves (new ∷ raised)
unfolding AreFullRowsOf
same-forgotten size level rows row new above raised is can done up h leaves are =
    let here : AreFullRowsOf h leaves (row ∷ above) = subst (AreFullRowsOf h leaves) is are in (
      row-forgotten leaves (gone_of size level) row new (can-row size level rows row above is can)
          done (gone-even size level) here.0,
      up h (paired h leaves) here.1,
    )

pub long-forgotten : (size level : ℕ) (rows : List RowState) (row new : RowState)
    (above raised : List RowState) → rows ≡ row ∷ above → CanForgetAll size level rows
    → HasForgotten (gone_of size level) row new
    → ((count : ℕ) → AreLong count above → AreLong count raised)
    → (count : ℕ) → AreLong count rows → AreLong count (new ∷ raised)
unfolding AreLong
long-forgotten size level rows row new above raised is can done up count long =
    let here : AreLong count (row ∷ above) = subst (AreLong count) is long in
    let one : IsLong count new = record {
      all = length-forgotten (gone_of size level) row new
          (can-row size level rows row above is can) done ∙ here.0.all;
      even = ap (λ g. g % 2) done.gone_is ∙ gone-even size level;
    } in
    (one, up (count / 2) here.1)

pub holds-forgotten : (size level : ℕ) (rows : List RowState) (row new : RowState)
    (above raised : List RowState) → rows ≡ row ∷ above → CanForgetAll size level rows
    → HasForgotten (gone_of size level) row new
    → ((capacity : ℕ) → HoldUpTo capacity above → HoldUpTo capacity raised)
    → (capacity : ℕ) → HoldUpTo capacity rows → HoldUpTo capacity (new ∷ raised)
unfolding HoldUpTo
holds-forgotten size level rows row new above raised is can done up capacity holds =
    let here : HoldUpTo capacity (row ∷ above) = subst (HoldUpTo capacity) is holds in
    let fits = here.0 in
    let spare = done.spare in
    let all = length-forgotten (gone_of size level) row new
    (can-row size level rows row above is can) done in
    (omega arith, up (capacity / 2) here.1)

pub gone-forgotten : (size level : ℕ) (rows : List RowState) (row new : RowState)
    (above raised : List RowState) → rows ≡ row ∷ above
    → HasForgotten (gone_of size level) row new
    → ((at : ℕ) → at < length above → gone_in raised at ≡ gone_of size (level + 1 + at))
    → (at : ℕ) → at < length rows → gone_in (new ∷ raised) at ≡ gone_of size (level + at)
unfolding gone_in
gone-forgotten size level rows row new above raised is done up zero inside =
    let same : level ≡ level + 0 = omega arith in
    done.gone_is ∙ ap (gone_of size) same
gone-forgotten size level rows row new above raised is done up (suc at) inside =
    let count : length rows ≡ suc (length above) = ap length is in
    let same : level + 1 + at ≡ level + suc at = omega arith in
    up at (omega arith) ∙ ap (gone_of size) same

pub can-none : (size level : ℕ) (rows : List RowState) → length rows ≡ 0
    → CanForgetAll size level rows
unfolding CanForgetAll
can-none size level [] none = tt
can-none size level (row ∷ rows) none = let no : ⊥ = omega arith in absurd no

-- rows of at least so many leaves can drop what stands in the tiles that these fill
pub can-from : (size level count : ℕ) (rows : List RowState) → AreLong count rows
    → size / 2 ^ level ≤ count
    → ((at : ℕ) → gone_in rows at ≤ gone_of size (level + at)) → CanForgetAll size level rows
unfolding CanForgetAll AreLong gone_in
can-from size level count [] long within before = tt
can-from size level count (row ∷ rows) long within before =
    let none : level + 0 ≡ level = omega arith in
    let all : row.gone + length row.kept ≡ count = long.0.all in
    let most = gone-within size level in
    let half : size / 2 ^ (level + 1) ≡ size / 2 ^ level / 2 =
    ap (λ d. size / d) (pow-add 2 level 1)
    ∙ sym (div-div-eq-div-mul size (2 ^ level) 2) in (
      record {
        before = subst (λ l. row.gone ≤ gone_of size l) none (before 0);
        within = omega arith;
      },
      can-from size (level + 1) (count / 2) rows long.1 (omega arith)
          (λ at. let next : level + suc at ≡ level + 1 + at = omega arith in
          subst (λ l. gone_in rows at ≤ gone_of size l) next (before (suc at))),
    )

-- above the rows none is gone, and none stands in tiles
pub gone-over : (rows : List RowState) (level : ℕ) → length rows ≤ level → gone_in rows level ≡ 0
unfolding gone_in
gone-over [] level outside = refl
gone-over (row ∷ rows) zero outside = let no : ⊥ = omega arith in absurd no
gone-over (row ∷ rows) (suc level) outside = gone-over rows level (omega arith)

-- fewer leaves than stand below a node of a level fill none of its tiles
none-under : (size level : ℕ) → size < 2 ^ level → gone_of size level ≡ 0
none-under size level few =
    let none : size / 2 ^ level ≡ 0 = div-eq_of_lt {n = size} {m = 2 ^ level} few in
    let most = gone-within size level in
    omega arith

no-hashes : (rows : List RowState) → length rows ≡ 0 → first_length rows ≡ 0
no-hashes [] none = refl
no-hashes (row ∷ rows) none = let no : ⊥ = omega arith in absurd no

-- Rows of leaves.

pub gone-first : (size : ℕ) → gone_of size 0 ≤ size
gone-first size =
    let most = gone-within size 0 in
    let one : size / 2 ^ 0 ≡ size = omega arith in
    omega arith

module _ (size : ℕ) (r : RowsState) (sound : AreSound r) (few : size < 2 ^ 32)
    (within : size ≤ filled_of r) where
  pub can-first : ((level : ℕ) → gone_at r level ≤ gone_of size level)
      → CanForget (gone_of size 0) r.first
  unfolding gone_at
  can-first before =
      let most = gone-first size in
      record { before = before 0; within = omega arith }

  pub can-nodes : ((level : ℕ) → gone_at r level ≤ gone_of size level)
      → CanForgetAll size 1 r.above
  unfolding gone_at
  can-nodes before =
      can-from size 1 (first_length r.above) r.above sound.long (omega arith)
      (λ at. let next : suc at ≡ 1 + at = omega arith in
      subst (λ l. gone_in r.above at ≤ gone_of size l) next (before (suc at)))

  none-left : (level : ℕ) → length r.above ≤ level → gone_of size (suc level) ≡ 0
  none-left level outside =
      ⊎_elim
      (λ (empty : length r.above ≡ 0).
      let none = no-hashes r.above empty in
      let double : 2 ^ suc level ≡ 2 * 2 ^ level = pow-succ' 2 level in
      let positive = pow_pos level in
      none-under size (suc level) (omega arith))
      (λ (whole : length r.above ≡ 63).
      let high : 32 ≤ suc level = omega arith in
      let up : 2 ^ 32 ≤ 2 ^ suc level = pow-le-pow_right {n = 2} (omega arith) high in
      none-under size (suc level) (omega arith))
      sound.levels

  gone-all : (first : RowState) (above : List RowState) → length above ≡ length r.above
      → first.gone ≡ gone_of size 0
      → ((at : ℕ) → at < length r.above → gone_in above at ≡ gone_of size (1 + at))
      → (level : ℕ)
      → gone_at (record { first = first; above = above; capacity = r.capacity }) level
      ≡ gone_of size level
  unfolding gone_at
  gone-all first above count here gone zero = here
  gone-all first above count here gone (suc at) =
      ⊎_elim
      (λ (inside : at < length r.above).
      let next : 1 + at ≡ suc at = omega arith in
      gone at inside ∙ ap (gone_of size) next)
      (λ (outside : length r.above ≤ at).
      gone-over above at (omega arith) ∙ sym (none-left at outside))
      (cases_lt at (length r.above))

-- nodes dropped from rows
pub record IsForgotten (size : ℕ) (old new : RowsState) : Type 0 where
  pub sound : AreSound new
  pub rows_of : (h : List ℕ → List ℕ) (leaves : List (List ℕ)) → AreRowsOf h leaves old
      → AreRowsOf h leaves new
  pub count : count_of new ≡ count_of old
  pub filled : filled_of new ≡ filled_of old
  pub gone : (level : ℕ) → gone_at new level ≡ gone_of size level

forgotten : (size : ℕ) (old : RowsState) (first : RowState) (above : List RowState)
    → AreSound old → size < 2 ^ 32 → size ≤ filled_of old
    → ((level : ℕ) → gone_at old level ≤ gone_of size level)
    → HasForgotten (gone_of size 0) old.first first → length above ≡ length old.above
    → ((h : List ℕ → List ℕ) (hashes : List (List ℕ)) → AreFullRowsOf h hashes old.above
    → AreFullRowsOf h hashes above)
    → ((count : ℕ) → AreLong count old.above → AreLong count above)
    → ((capacity : ℕ) → HoldUpTo capacity old.above → HoldUpTo capacity above)
    → ((at : ℕ) → at < length old.above → gone_in above at ≡ gone_of size (1 + at))
    → IsForgotten size old (record { first = first; above = above; capacity = old.capacity })
forgotten size old first above sound few within before done count rows long holds gone =
    let can = can-first size old sound few within before in
    let same = length-forgotten (gone_of size 0) old.first first can done in
    let longer = long (first_length old.above) sound.long in
    let nodes : first_length above ≡ first_length old.above =
    count-long (first_length old.above) above longer in
    let most = gone-first size in
    let even = gone-even size 0 in
    let here = done.gone_is in
    let spare = done.spare in
    let made = sound.made in
    let leaves = sound.leaves in
    let inside = sound.within in
    record {
      sound = record {
        levels = subst (λ n. (n ≡ 0) ⊎ (n ≡ 63)) (sym count) sound.levels;
        even = omega arith;
        long = subst (λ n. AreLong n above) (sym nodes) longer;
        made = omega arith;
        following = omega arith;
        leaves = omega arith;
        nodes = holds (old.capacity / 2) sound.nodes;
        within = omega arith;
      };
      rows_of = λ h leaves are. record {
        first = row-forgotten leaves (gone_of size 0) old.first first can done even are.first;
        above = subst (λ n. AreFullRowsOf h (take n (paired h leaves)) above) (sym nodes)
            (rows h (take (first_length old.above) (paired h leaves)) are.above);
      };
      count = same;
      filled = omega arith;
      gone = gone-all size old sound few within first above count here gone;
    }

-- through the slice of the vector of the rows above the leaves
pub forgotten_whole : (size : ℕ) (old : RowsState) (first : RowState)
    (slice new : List RowState) (len : ℕ) → AreSound old → size < 2 ^ 32
    → size ≤ filled_of old → ((level : ℕ) → gone_at old level ≤ gone_of size level)
    → HasForgotten (gone_of size 0) old.first first → slice ≡ old.above
    → len ≡ length old.above → length new ≡ length slice
    → ((h : List ℕ → List ℕ) (hashes : List (List ℕ)) → AreFullRowsOf h hashes slice
    → AreFullRowsOf h hashes new)
    → ((count : ℕ) → AreLong count slice → AreLong count new)
    → ((capacity : ℕ) → HoldUpTo capacity slice → HoldUpTo capacity new)
    → ((at : ℕ) → at < length slice → gone_in new at ≡ gone_of size (1 + at))
    → IsForgotten size old (record {
      first = first;
      above = take len (new ++ drop (length new) old.above);
      capacity = old.capacity;
    })
forgotten_whole size old first slice new len sound few within before done is same count rows long
    holds gone =
    let equal : length new ≡ length old.above = count ∙ ap length is in
    subst (λ a. IsForgotten size old (record {
      first = first;
      above = a;
      capacity = old.capacity;
    })) (sym (written-whole len new old.above same equal))
    (forgotten size old first new sound few within before done equal
    (λ h hashes are. rows h hashes (subst (AreFullRowsOf h hashes) (sym is) are))
    (λ n are. long n (subst (AreLong n) (sym is) are))
    (λ n fits. holds n (subst (HoldUpTo n) (sym is) fits))
    (subst (λ l. (at : ℕ) → at < length l → gone_in new at ≡ gone_of size (1 + at)) is gone))
