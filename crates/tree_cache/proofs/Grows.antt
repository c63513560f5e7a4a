-- Rows that were given more capacity, and rows of no hashes.
use Rattle.std.proofs.Common.{◌≡◌, ℕ, zero, suc, ◌+◌, ◌*◌, ◌/◌, ◌%◌, ◌^◌, ◌<◌, ◌≤◌, inl}
use Rattle.std.proofs.Common.{List, [], ◌∷◌, length, take, drop}
use Rattle.std.proofs.Common.{sym, ◌∙◌, ap, refl, subst, arith}
use Rattle.std.proofs.Math.Nat.{pow-succ'}
use Rattle.tree_cache.proofs.Pushes.{gone-on}
use Rattle.tree_cache.specs.Rows.{AreFullRowsOf, AreLong, AreRowsOf, AreSound, HaveGrown}
use Rattle.tree_cache.specs.Rows.{HaveLevels}
use Rattle.tree_cache.specs.Rows.{HaveNone, HoldUpTo, IsEmpty, IsLong, IsRowOf, NodesHaveGrown}
use Rattle.tree_cache.specs.Rows.{RowState, RowsState, count_of, gone_at, gone_in}
use Rattle.tree_cache.specs.Rows.{first_length, paired, row_count}

pub grown-same : (rows : List RowState) → NodesHaveGrown rows rows
grown-same rows = record {
  count = refl;
  gone = λ level. refl;
  same = λ h leaves are. are;
  long = λ count long. long;
  kept = λ capacity holds. holds;
}

-- a row with the same hashes
row-same : (hashes : List (List ℕ)) (row grown : RowState) → grown.gone ≡ row.gone
    → grown.kept ≡ row.kept → IsRowOf hashes row → IsRowOf hashes grown
row-same hashes row grown gone same is = record {
  kept = same ∙ is.kept ∙ ap (λ g. drop g hashes) (sym gone);
  within = let within = is.within in omega arith;
  even = ap (λ g. g % 2) gone ∙ is.even;
}

long-same : (count : ℕ) (row grown : RowState) → grown.gone ≡ row.gone
    → grown.kept ≡ row.kept → IsLong count row → IsLong count grown
long-same count row grown gone same is =
    let size : length grown.kept ≡ length row.kept = ap length same in
    let all : row.gone + length row.kept ≡ count = is.all in
    record { all = omega arith; even = ap (λ g. g % 2) gone ∙ is.even }

pub grown-row : (rows : List RowState) (row grown : RowState) (above raised : List RowState)
    → rows ≡ row ∷ above → grown.gone ≡ row.gone → grown.kept ≡ row.kept
    → row.spare ≤ grown.spare → NodesHaveGrown above raised → NodesHaveGrown rows (grown ∷ raised)
unfolding AreFullRowsOf AreLong HoldUpTo
grown-row rows row grown above raised is gone same spare up = record {
  count = let size : length grown.kept ≡ length row.kept = ap length same in
      let all : row_count grown ≡ row_count row = omega arith in
      all ∙ sym (ap first_length is);
  gone = gone-on rows row grown above raised is gone up.gone;
  same = λ h leaves are.
      let here : AreFullRowsOf h leaves (row ∷ above) = subst (AreFullRowsOf h leaves) is are in
      (row-same leaves row grown gone same here.0, up.same h (paired h leaves) here.1);
  long = λ count long.
      let here : AreLong count (row ∷ above) = subst (AreLong count) is long in
      (long-same count row grown gone same here.0, up.long (count / 2) here.1);
  kept = λ capacity holds.
      let here : HoldUpTo capacity (row ∷ above) = subst (HoldUpTo capacity) is holds in
      let fits : capacity ≤ row.gone + length row.kept + row.spare = here.0 in
      let size : length grown.kept ≡ length row.kept = ap length same in
      (omega arith, up.kept (capacity / 2) here.1);
}

pub grown-on : (a b c : List RowState) → NodesHaveGrown a b → NodesHaveGrown b c
    → NodesHaveGrown a c
grown-on a b c one two = record {
  count = two.count ∙ one.count;
  gone = λ level. two.gone level ∙ one.gone level;
  same = λ h leaves are. two.same h leaves (one.same h leaves are);
  long = λ count long. two.long count (one.long count long);
  kept = λ capacity holds. two.kept capacity (one.kept capacity holds);
}

pub holds-more : (row : RowState) (above : List RowState) (capacity : ℕ)
    → capacity ≤ row.gone + length row.kept + row.spare → HoldUpTo (capacity / 2) above
    → HoldUpTo capacity (row ∷ above)
unfolding HoldUpTo
holds-more row above capacity fits up = (fits, up)

pub holds-none : (rows : List RowState) (capacity : ℕ) → length rows ≡ 0
    → capacity < 2 ^ length rows
    → HoldUpTo capacity rows
unfolding HoldUpTo
holds-none [] capacity none small = omega arith
holds-none (row ∷ rows) capacity none small = let no : ⊥ = omega arith in absurd no

pub half-below : (capacity : ℕ) (rows : List RowState) (row : RowState) (above : List RowState)
    → rows ≡ row ∷ above → capacity < 2 ^ length rows → capacity / 2 < 2 ^ length above
half-below capacity rows row above is small =
    let size : length rows ≡ suc (length above) = ap length is in
    let double : 2 ^ length rows ≡ 2 * 2 ^ length above =
    ap (λ n. 2 ^ n) size ∙ pow-succ' 2 (length above) in
    omega arith

-- Rows of no hashes.

full-none : (rows : List RowState) → HaveNone rows → (h : List ℕ → List ℕ) → AreFullRowsOf h [] rows
unfolding AreFullRowsOf paired
full-none [] none h = refl
full-none (row ∷ rows) none h =
    let empty = none 0 row (omega arith) in (
      record {
        kept = empty.kept ∙ sym (ap (λ g. drop g []) empty.gone);
        within = let gone = empty.gone in omega arith;
        even = ap (λ g. g % 2) empty.gone;
      },
      full-none rows (λ k d inside. none (suc k) d (omega arith)) h,
    )

long-none : (rows : List RowState) → HaveNone rows → AreLong 0 rows
unfolding AreLong
long-none [] none = refl
long-none (row ∷ rows) none =
    let empty = none 0 row (omega arith) in
    let gone : row.gone ≡ 0 = empty.gone in
    let size : length row.kept ≡ 0 = ap length empty.kept in (
      record { all = omega arith; even = ap (λ g. g % 2) gone },
      long-none rows (λ k d inside. none (suc k) d (omega arith)),
    )

holds-zero : (rows : List RowState) → HoldUpTo 0 rows
unfolding HoldUpTo
holds-zero [] = refl
holds-zero (row ∷ rows) = (omega arith, holds-zero rows)

count-none : (rows : List RowState) → HaveNone rows → first_length rows ≡ 0
count-none [] none = refl
count-none (row ∷ rows) none =
    let empty = none 0 row (omega arith) in
    let gone : row.gone ≡ 0 = empty.gone in
    let size : length row.kept ≡ 0 = ap length empty.kept in
    omega arith

gone-none : (rows : List RowState) → HaveNone rows → (level : ℕ) → gone_in rows level ≡ 0
unfolding gone_in
gone-none [] none level = refl
gone-none (row ∷ rows) none zero = let empty = none 0 row (omega arith) in empty.gone
gone-none (row ∷ rows) none (suc level) =
    gone-none rows (λ k d inside. none (suc k) d (omega arith)) level

pub grown-none : (old rows : List RowState) → length old ≡ 0 → HaveNone rows
    → NodesHaveGrown old rows
unfolding AreFullRowsOf AreLong HoldUpTo gone_in
grown-none (row ∷ old) rows is none = let no : ⊥ = omega arith in absurd no
grown-none [] rows is none = record {
  count = count-none rows none;
  gone = gone-none rows none;
  same = λ h leaves are. subst (λ l. AreFullRowsOf h l rows) (sym are) (full-none rows none h);
  long = λ count long. subst (λ n. AreLong n rows) (sym long) (long-none rows none);
  kept = λ capacity holds. subst (λ n. HoldUpTo n rows) (sym holds) (holds-zero rows);
}

-- Rows of leaves.

pub gone-grown : (old new : RowsState) → new.first.gone ≡ old.first.gone
    → ((level : ℕ) → gone_in new.above level ≡ gone_in old.above level) → (level : ℕ)
    → gone_at new level ≡ gone_at old level
unfolding gone_at
gone-grown old new first up zero = first
gone-grown old new first up (suc level) = up level

pub rows-grown : (old new : RowsState) → new.first.gone ≡ old.first.gone
    → new.first.kept ≡ old.first.kept → NodesHaveGrown old.above new.above → HaveGrown old new
rows-grown old new gone kept up = record {
  first = kept;
  count = let size = ap length kept in omega arith;
  filled = let size = ap length kept in let count = up.count in omega arith;
  gone = gone-grown old new gone up.gone;
  same = λ h leaves are. record {
    first = row-same leaves old.first new.first gone kept are.first;
    above = subst (λ n. AreFullRowsOf h (take n (paired h leaves)) new.above) (sym up.count)
        (up.same h (take (first_length old.above) (paired h leaves)) are.above);
  };
}

pub sound-grown : (old new : RowsState) → AreSound old → new.first.gone ≡ old.first.gone
    → new.first.kept ≡ old.first.kept → NodesHaveGrown old.above new.above
    → HaveLevels new.above → new.capacity ≤ count_of new + new.first.spare
    → HoldUpTo (new.capacity / 2) new.above → count_of old ≤ new.capacity → AreSound new
sound-grown old new sound gone kept up levels leaves nodes within =
    let size = ap length kept in
    let count = up.count in
    let made = sound.made in
    let following = sound.following in
    record {
      levels = levels;
      even = ap (λ g. g % 2) gone ∙ sound.even;
      long = subst (λ n. AreLong n new.above) (sym up.count)
          (up.long (first_length old.above) sound.long);
      made = omega arith;
      following = omega arith;
      leaves = leaves;
      nodes = nodes;
      within = omega arith;
    }

-- rows of no leaves
pub rows-none : (h : List ℕ → List ℕ) (r : RowsState) → IsEmpty r.first → r.above ≡ []
    → AreRowsOf h [] r
unfolding AreFullRowsOf paired
rows-none h r empty none = record {
  first = record {
    kept = empty.kept ∙ sym (ap (λ g. drop g []) empty.gone);
    within = let gone = empty.gone in omega arith;
    even = ap (λ g. g % 2) empty.gone;
  };
  above = subst (λ a. AreFullRowsOf h (take (first_length a) (paired h [])) a) (sym none) refl;
}

pub whole-none : (r : RowsState) → IsEmpty r.first → r.above ≡ [] → (level : ℕ)
    → gone_at r level ≡ 0
unfolding gone_at gone_in
whole-none r empty none zero = empty.gone
whole-none r empty none (suc level) = ap (λ a. gone_in a level) none

pub sound-none : (r : RowsState) → IsEmpty r.first → r.above ≡ [] → r.capacity ≡ 0 → AreSound r
unfolding AreLong HoldUpTo
sound-none r empty none capacity =
    let gone = empty.gone in
    let kept = ap length empty.kept in
    let above = ap first_length none in
    record {
      levels = inl (ap length none);
      even = ap (λ g. g % 2) empty.gone;
      long = subst (λ a. AreLong (first_length a) a) (sym none) refl;
      made = omega arith;
      following = omega arith;
      leaves = omega arith;
      nodes = subst (λ a. HoldUpTo (r.capacity / 2) a) (sym none) (ap (λ n. n / 2) capacity);
      within = omega arith;
    }
