-- Rows with one hash more.
use Rattle.std.proofs.Common.{◌≡◌, ℕ, zero, suc, ◌+◌, ◌-◌, ◌/◌, ◌%◌, ◌^◌, ◌<◌, ◌≤◌}
use Rattle.std.proofs.Common.{List, [], ◌∷◌, ◌++◌, length, take, drop}
use Rattle.std.proofs.Common.{get_or, sym, ◌∙◌, ap, refl, subst, arith}
use Rattle.std.proofs.Math.ListN.{get_or-append}
use Rattle.std.proofs.Math.Seq.{get_or-append_seam, take-append_seam}
use Rattle.std.proofs.lemmas.List.{drop-append-le, get_or-drop, length-drop, length_push}
use Rattle.tree_cache.proofs.Pairs.{length-paired, paired-alone, paired-joined}
use Rattle.tree_cache.specs.Rows.{AreFullRowsOf, AreLong, HaveCapacity, HaveCount, HavePushed}
use Rattle.tree_cache.specs.Rows.{HoldUpTo, IsLong, IsRowOf, RowState, first_length, gone_in}
use Rattle.tree_cache.specs.Rows.{paired, row_count}
use Rattle.tree_core.specs.Tree.{pair_hash}

-- a row of some hashes is as long as these
pub is-long : (hashes : List (List ℕ)) (row : RowState) → IsRowOf hashes row
    → IsLong (length hashes) row
is-long hashes row is =
    let size : length row.kept ≡ length hashes - row.gone =
    ap length is.kept ∙ length-drop row.gone hashes in
    let within = is.within in
    record { all = omega arith; even = is.even }

pub long-of : (h : List ℕ → List ℕ) (leaves : List (List ℕ)) (rows : List RowState)
    → AreFullRowsOf h leaves rows → AreLong (length leaves) rows
unfolding AreFullRowsOf AreLong
long-of h leaves [] are = ap length are
long-of h leaves (row ∷ rows) are = (
  is-long leaves row are.0,
  subst (λ n. AreLong n rows) (length-paired h leaves) (long-of h (paired h leaves) rows are.1),
)

-- no rows at all have no capacity
pub capacity-some : (rows : List RowState) → HaveCapacity rows → length rows ≡ 0 → ⊥
unfolding AreLong HoldUpTo
capacity-some [] has none =
    let below = has.below in
    let count = has.long in
    let capacity = has.holds in
    omega arith
capacity-some (row ∷ rows) has none = omega arith

-- a row has capacity where the rows have
pub capacity-spare : (rows : List RowState) (row : RowState) (above : List RowState)
    → rows ≡ row ∷ above → HaveCapacity rows → 0 < row.spare
unfolding AreLong HoldUpTo
capacity-spare rows row above is has =
    let here : HaveCapacity (row ∷ above) = subst HaveCapacity is has in
    let below = here.below in
    let size : row.gone + length row.kept ≡ here.count = here.long.0.all in
    let capacity : here.capacity ≤ row.gone + length row.kept + row.spare = here.holds.0 in
    omega arith

-- the rows above have capacity for the parent of a pair
pub capacity-above : (rows : List RowState) (row : RowState) (above : List RowState) (count : ℕ)
    → rows ≡ row ∷ above → HaveCapacity rows → count ≡ length row.kept + 1 → count % 2 ≡ 0
    → HaveCapacity above
unfolding AreLong HoldUpTo
capacity-above rows row above count is has more even =
    let here : HaveCapacity (row ∷ above) = subst HaveCapacity is has in
    let below = here.below in
    let size : row.gone + length row.kept ≡ here.count = here.long.0.all in
    let gone : row.gone % 2 ≡ 0 = here.long.0.even in
    record {
      count = here.count / 2;
      capacity = here.capacity / 2;
      long = here.long.1;
      holds = here.holds.1;
      below = omega arith;
    }

-- the number of a row, and the rows above it
pub counted-row : (rows : List RowState) (row : RowState) (above : List RowState)
    → rows ≡ row ∷ above → HaveCount rows → row_count row < 2 ^ 64
unfolding AreLong
counted-row rows row above is counted =
    let here : HaveCount (row ∷ above) = subst HaveCount is counted in
    let few = here.few in
    let all = here.long.0.all in
    omega arith

pub counted-above : (rows : List RowState) (row : RowState) (above : List RowState)
    → rows ≡ row ∷ above → HaveCount rows → HaveCount above
unfolding AreLong
counted-above rows row above is counted =
    let here : HaveCount (row ∷ above) = subst HaveCount is counted in
    let few = here.few in
    record { count = here.count / 2; few = omega arith; long = here.long.1 }

-- one hash more at the end of a row
pub row-pushed : (hashes : List (List ℕ)) (hash : List ℕ) (row pushed : RowState)
    → pushed.gone ≡ row.gone → pushed.kept ≡ row.kept ++ hash ∷ [] → IsRowOf hashes row
    → IsRowOf (hashes ++ hash ∷ []) pushed
row-pushed hashes hash row pushed gone more is =
    let within = is.within in
    let even = is.even in
    let size = length_push hashes hash in
    record {
      kept = more ∙ ap (λ l. l ++ hash ∷ []) is.kept
          ∙ sym (drop-append-le row.gone hashes (hash ∷ []) within)
          ∙ ap (λ g. drop g (hashes ++ hash ∷ [])) (sym gone);
      within = omega arith;
      even = ap (λ g. g % 2) gone ∙ even;
    }

-- what is gone stays gone
pub gone-on : (rows : List RowState) (row pushed : RowState) (above raised : List RowState)
    → rows ≡ row ∷ above → pushed.gone ≡ row.gone
    → ((level : ℕ) → gone_in raised level ≡ gone_in above level)
    → (level : ℕ) → gone_in (pushed ∷ raised) level ≡ gone_in rows level
unfolding gone_in
gone-on rows row pushed above raised is same up zero = same ∙ sym (ap (λ r. gone_in r 0) is)
gone-on rows row pushed above raised is same up (suc level) =
    up level ∙ sym (ap (λ r. gone_in r (suc level)) is)

-- the last two hashes of a row with one more are the last of it and the one more
last-two : (leaves : List (List ℕ)) (hash : List ℕ) (row pushed : RowState) (last : ℕ)
    → IsRowOf leaves row → pushed.kept ≡ row.kept ++ hash ∷ [] → 2 ≤ length pushed.kept
    → last + 1 ≡ length leaves
    → (get_or pushed.kept (length pushed.kept - 2) [] ≡ get_or leaves last [])
    × (get_or pushed.kept (length pushed.kept - 1) [] ≡ hash)
last-two leaves hash row pushed last is more two end =
    let long = is-long leaves row is in
    let size : row.gone + length row.kept ≡ length leaves = long.all in
    let one : length pushed.kept ≡ length row.kept + 1 =
    ap length more ∙ length_push row.kept hash in
    let at : row.gone + (length pushed.kept - 2) ≡ last = omega arith in
    let seam : length pushed.kept - 1 ≡ length row.kept = omega arith in (
      ap (λ l. get_or l (length pushed.kept - 2) []) more
          ∙ get_or-append row.kept (hash ∷ []) [] (length pushed.kept - 2) (omega arith)
          ∙ ap (λ l. get_or l (length pushed.kept - 2) []) is.kept
          ∙ get_or-drop row.gone leaves (length pushed.kept - 2) []
          ∙ ap (λ i. get_or leaves i []) at,
      ap (λ l. get_or l (length pushed.kept - 1) []) more
          ∙ ap (λ i. get_or (row.kept ++ hash ∷ []) i []) seam
          ∙ get_or-append_seam row.kept hash [] [],
    )

-- one hash more in a row, and the rows above it
module _ (rows : List RowState) (row pushed : RowState) (above : List RowState) (hash : List ℕ)
    (is : rows ≡ row ∷ above) (gone : pushed.gone ≡ row.gone)
    (more : pushed.kept ≡ row.kept ++ hash ∷ []) (spare : row.spare ≤ pushed.spare + 1) where
  row-more : (count : ℕ) → IsLong count row → IsLong (count + 1) pushed
  row-more count long =
      let size : row.gone + length row.kept ≡ count = long.all in
      let one = ap length more ∙ length_push row.kept hash in
      record { all = omega arith; even = ap (λ g. g % 2) gone ∙ long.even }

  holds-on : (raised : List RowState)
      → ((capacity : ℕ) → HoldUpTo capacity above → HoldUpTo capacity raised)
      → (capacity : ℕ) → HoldUpTo capacity rows → HoldUpTo capacity (pushed ∷ raised)
  unfolding HoldUpTo
  holds-on raised up capacity holds =
      let here : HoldUpTo capacity (row ∷ above) = subst (HoldUpTo capacity) is holds in
      let fits : capacity ≤ row.gone + length row.kept + row.spare = here.0 in
      let one = ap length more ∙ length_push row.kept hash in
      (omega arith, up (capacity / 2) here.1)

  -- which has no sibling yet
  pub pushed-alone : (h : List ℕ → List ℕ) → length pushed.kept % 2 ≡ 1
      → HavePushed h hash rows (pushed ∷ above)
  unfolding AreFullRowsOf AreLong
  pushed-alone h odd =
      let one = ap length more ∙ length_push row.kept hash in
      record {
        pushed = λ hashes are.
            let here : AreFullRowsOf h hashes (row ∷ above) = subst (AreFullRowsOf h hashes) is are
            in
            let long = is-long hashes row here.0 in
            let size : row.gone + length row.kept ≡ length hashes = long.all in
            let even : row.gone % 2 ≡ 0 = long.even in (
              row-pushed hashes hash row pushed gone more here.0,
              subst (λ l. AreFullRowsOf h l above)
                  (sym (paired-alone h hashes hash (omega arith))) here.1,
            );
        long = λ count long.
            let here : AreLong count (row ∷ above) = subst (AreLong count) is long in
            let size : row.gone + length row.kept ≡ count = here.0.all in
            let even : row.gone % 2 ≡ 0 = here.0.even in
            let half : count / 2 ≡ (count + 1) / 2 = omega arith in
            (row-more count here.0, subst (λ n. AreLong n above) half here.1);
        gone = gone-on rows row pushed above above is gone (λ level. refl);
        holds = holds-on above (λ capacity holds. holds);
      }

  -- which is the sibling of the last one
  pub pushed-joined : (h : List ℕ → List ℕ) (raised : List RowState) (parent : List ℕ)
      → length pushed.kept % 2 ≡ 0
      → parent ≡ pair_hash h (get_or pushed.kept (length pushed.kept - 2) [])
      (get_or pushed.kept (length pushed.kept - 1) []) → HavePushed h parent above raised
      → HavePushed h hash rows (pushed ∷ raised)
  unfolding AreFullRowsOf AreLong
  pushed-joined h raised parent even parent_is up =
      let one = ap length more ∙ length_push row.kept hash in
      record {
        pushed = λ hashes are.
            let here : AreFullRowsOf h hashes (row ∷ above) = subst (AreFullRowsOf h hashes) is are
            in
            let long = is-long hashes row here.0 in
            let size : row.gone + length row.kept ≡ length hashes = long.all in
            let whole : row.gone % 2 ≡ 0 = long.even in
            let two = last-two hashes hash row pushed (length hashes - 1) here.0 more (omega arith)
            (omega arith) in
            let joined : parent ≡ pair_hash h (get_or hashes (length hashes - 1) []) hash =
            parent_is
            ∙ ap (λ l. pair_hash h l (get_or pushed.kept (length pushed.kept - 1) [])) two.0
            ∙ ap (pair_hash h (get_or hashes (length hashes - 1) [])) two.1 in
            let pairs : paired h (hashes ++ hash ∷ []) ≡ paired h hashes ++ parent ∷ [] =
            paired-joined h hashes hash (length hashes - 1) (omega arith) (omega arith)
            ∙ ap (λ p. paired h hashes ++ p ∷ []) (sym joined) in (
              row-pushed hashes hash row pushed gone more here.0,
              subst (λ l. AreFullRowsOf h l raised) (sym pairs)
                  (up.pushed (paired h hashes) here.1),
            );
        long = λ count long.
            let here : AreLong count (row ∷ above) = subst (AreLong count) is long in
            let size : row.gone + length row.kept ≡ count = here.0.all in
            let whole : row.gone % 2 ≡ 0 = here.0.even in
            let half : count / 2 + 1 ≡ (count + 1) / 2 = omega arith in
            let above = up.long (count / 2) here.1 in
            (row-more count here.0, subst (λ n. AreLong n raised) half above);
        gone = gone-on rows row pushed above raised is gone up.gone;
        holds = holds-on raised up.holds;
      }

-- a vector whose slice was written has what was written
pub written-whole : (len : ℕ) (new items : List RowState) → len ≡ length items
    → length new ≡ length items → take len (new ++ drop (length new) items) ≡ new
written-whole len new items is same =
    ap (λ n. take n (new ++ drop (length new) items)) (is ∙ sym same)
    ∙ take-append_seam new (drop (length new) items)

pub count-long : (count : ℕ) (rows : List RowState) → AreLong count rows → first_length rows ≡ count
unfolding AreLong
count-long count [] long = sym long
count-long count (row ∷ rows) long = long.0.all
