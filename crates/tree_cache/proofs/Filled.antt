-- Rows of leaves, of which the nodes over the first are made.
use Rattle.std.proofs.Common.{◌≡◌, ℕ, suc, ◌+◌, ◌*◌, ◌-◌, ◌/◌, ◌%◌, ◌<◌, ◌≤◌, ◌⊎◌, List, []}
use Rattle.std.proofs.Common.{◌∷◌, ◌++◌, length, get_or, take, drop, ⊎_elim, sym, ◌∙◌, ap, refl}
use Rattle.std.proofs.Common.{subst, arith}
use Rattle.std.proofs.Math.Seq.{take-length, take-suc}
use Rattle.std.proofs.lemmas.Bool.{cases_lt}
use Rattle.std.proofs.lemmas.List.{get_or-drop, length_push, length-take, take-append-le}
use Rattle.tree_cache.proofs.Grows.{gone-grown}
use Rattle.tree_cache.proofs.Pairs.{length-paired, paired-alone, paired-at, paired-joined}
use Rattle.tree_cache.proofs.Pushes.{count-long, is-long, long-of, row-pushed, written-whole}
use Rattle.tree_cache.specs.Rows.{AreAllOf, AreFullRowsOf, AreLong, ArePairsFilled, AreRowsOf}
use Rattle.tree_cache.specs.Rows.{AreSound, CanReach, HaveFilled, HaveGrown, HaveLevels}
use Rattle.tree_cache.specs.Rows.{HavePushed, HoldUpTo, IsRowOf, RowState}
use Rattle.tree_cache.specs.Rows.{RowsState, count_of, filled_of, first_row, gone_at}
use Rattle.tree_cache.specs.Rows.{first_length, paired, row_count}
use Rattle.tree_core.specs.Tree.{pair_hash}

-- the rows of some leaves have so many hashes, with those that are gone
pub count-rows : (h : List ℕ → List ℕ) (leaves : List (List ℕ)) (r : RowsState)
    → AreRowsOf h leaves r → count_of r ≡ length leaves
count-rows h leaves r are = let long = is-long leaves r.first are.first in long.all

-- there are no more nodes than pairs
above-within : (h : List ℕ → List ℕ) (leaves : List (List ℕ)) (r : RowsState)
    → AreRowsOf h leaves r → first_length r.above ≤ length (paired h leaves)
above-within h leaves r are =
    let cut = length-take (first_length r.above) (paired h leaves) in
    let all = count-long (length (take (first_length r.above) (paired h leaves))) r.above
    (long-of h (take (first_length r.above) (paired h leaves)) r.above are.above) in
    omega arith

-- the first row keeps the leaves that are not gone
pub first-is : (h : List ℕ → List ℕ) (leaves : List (List ℕ)) (r : RowsState)
    → AreRowsOf h leaves r → first_row r ≡ drop (gone_at r 0) leaves
unfolding gone_at
first-is h leaves r are = are.first.kept

-- one leaf more leaves the first pairs as they are
pairs-pushed : (h : List ℕ → List ℕ) (leaves : List (List ℕ)) (leaf : List ℕ) (n : ℕ)
    → n ≤ length (paired h leaves)
    → take n (paired h (leaves ++ leaf ∷ [])) ≡ take n (paired h leaves)
pairs-pushed h leaves leaf n within =
    ⊎_elim
    (λ (even : length leaves % 2 < 1).
    ap (take n) (paired-alone h leaves leaf (omega arith)))
    (λ (odd : 1 ≤ length leaves % 2).
    ap (take n) (paired-joined h leaves leaf (length leaves - 1) (omega arith) (omega arith))
    ∙ take-append-le n (paired h leaves) _ within)
    (cases_lt (length leaves % 2) 1)

pub rows-pushed : (h : List ℕ → List ℕ) (leaves : List (List ℕ)) (old new : RowsState)
    (leaf : List ℕ) → new.first.gone ≡ old.first.gone
    → new.first.kept ≡ old.first.kept ++ leaf ∷ [] → new.above ≡ old.above
    → AreRowsOf h leaves old → AreRowsOf h (leaves ++ leaf ∷ []) new
rows-pushed h leaves old new leaf gone more same are =
    let within = above-within h leaves old are in
    record {
      first = row-pushed leaves leaf old.first new.first gone more are.first;
      above = subst
          (λ a. AreFullRowsOf h (take (first_length a) (paired h (leaves ++ leaf ∷ []))) a)
          (sym same)
          (subst (λ l. AreFullRowsOf h l old.above)
          (sym (pairs-pushed h leaves leaf (first_length old.above) within)) are.above);
    }

-- nodes over more of the leaves
pub rows-filled : (h : List ℕ → List ℕ) (leaves : List (List ℕ)) (old new : RowsState)
    → new.first ≡ old.first
    → ((hashes : List (List ℕ)) → IsRowOf hashes old.first
    → AreFullRowsOf h (take (first_length old.above) (paired h hashes)) old.above
    → AreFullRowsOf h (take (first_length new.above) (paired h hashes)) new.above)
    → AreRowsOf h leaves old → AreRowsOf h leaves new
rows-filled h leaves old new same filled are = record {
  first = subst (IsRowOf leaves) (sym same) are.first;
  above = filled leaves are.first are.above;
}

-- one node more above a row
pub pair-filled : (h : List ℕ → List ℕ) (hashes : List (List ℕ)) (row : RowState) (n : ℕ)
    (parent : List ℕ) → IsRowOf hashes row → row.gone ≤ 2 * n → 2 * n + 2 ≤ row_count row
    → parent ≡ pair_hash h (get_or row.kept (2 * n - row.gone) [])
    (get_or row.kept (2 * n - row.gone + 1) [])
    → take n (paired h hashes) ++ parent ∷ [] ≡ take (n + 1) (paired h hashes)
pair-filled h hashes row n parent is gone within hash =
    let long = is-long hashes row is in
    let all : row.gone + length row.kept ≡ length hashes = long.all in
    let pairs = length-paired h hashes in
    let left : row.gone + (2 * n - row.gone) ≡ 2 * n = omega arith in
    let right : row.gone + (2 * n - row.gone + 1) ≡ 2 * n + 1 = omega arith in
    let one : get_or row.kept (2 * n - row.gone) [] ≡ get_or hashes (2 * n) [] =
    ap (λ l. get_or l (2 * n - row.gone) []) is.kept
    ∙ get_or-drop row.gone hashes (2 * n - row.gone) [] ∙ ap (λ i. get_or hashes i []) left in
    let other : get_or row.kept (2 * n - row.gone + 1) [] ≡ get_or hashes (2 * n + 1) [] =
    ap (λ l. get_or l (2 * n - row.gone + 1) []) is.kept
    ∙ get_or-drop row.gone hashes (2 * n - row.gone + 1) []
    ∙ ap (λ i. get_or hashes i []) right in
    let last : parent ≡ get_or (paired h hashes) n [] =
    hash ∙ ap (λ a. pair_hash h a (get_or row.kept (2 * n - row.gone + 1) [])) one
    ∙ ap (pair_hash h (get_or hashes (2 * n) [])) other
    ∙ sym (paired-at h hashes n (omega arith)) in
    let next : suc n ≡ n + 1 = omega arith in
    ap (λ p. take n (paired h hashes) ++ p ∷ []) last
    ∙ sym (take-suc (paired h hashes) n [] (omega arith))
    ∙ ap (λ k. take k (paired h hashes)) next

-- nodes over the pairs of a row
pub filling-none : (h : List ℕ → List ℕ) (row : RowState) (from : ℕ) (rows : List RowState)
    → AreLong from rows → ArePairsFilled h row from from rows rows
filling-none h row from rows long = record {
  filled = λ hashes is are. are;
  long = long;
  gone = λ level. refl;
  holds = λ capacity holds. holds;
}

pub filling-more : (h : List ℕ → List ℕ) (row : RowState) (from n : ℕ) (parent : List ℕ)
    (old mid new : List RowState) → ArePairsFilled h row from n old mid → row.gone ≤ 2 * n
    → 2 * n + 2 ≤ row_count row
    → parent ≡ pair_hash h (get_or row.kept (2 * n - row.gone) [])
    (get_or row.kept (2 * n - row.gone + 1) [])
    → HavePushed h parent mid new → ArePairsFilled h row from (n + 1) old new
filling-more h row from n parent old mid new sofar following within hash up =
    record {
      filled = λ hashes is are.
          subst (λ l. AreFullRowsOf h l new)
          (pair-filled h hashes row n parent is following within hash)
          (up.pushed (take n (paired h hashes)) (sofar.filled hashes is are));
      long = up.long n sofar.long;
      gone = λ level. up.gone level ∙ sofar.gone level;
      holds = λ capacity fits. up.holds capacity (sofar.holds capacity fits);
    }

-- where all nodes are made the rows are full
pub rows-full : (h : List ℕ → List ℕ) (leaves : List (List ℕ)) (r : RowsState)
    → AreRowsOf h leaves r → filled_of r ≡ count_of r
    → AreFullRowsOf h leaves (r.first ∷ r.above)
unfolding AreFullRowsOf
rows-full h leaves r are all =
    let within = above-within h leaves r are in
    let count = count-rows h leaves r are in
    let pairs = length-paired h leaves in
    let whole : first_length r.above ≡ length (paired h leaves) = omega arith in (
      are.first,
      subst (λ l. AreFullRowsOf h l r.above)
          (ap (λ n. take n (paired h leaves)) whole ∙ take-length (paired h leaves)) are.above,
    )

pub filled-same : (h : List ℕ → List ℕ) (r : RowsState) → HaveFilled h r r
filled-same h r = record {
  first = refl;
  count = refl;
  capacity = refl;
  gone = λ level. refl;
  same = λ leaves are. are;
  more = omega arith;
}

pub filled-on : (h : List ℕ → List ℕ) (a b c : RowsState) → HaveFilled h a b → HaveFilled h b c
    → HaveFilled h a c
filled-on h a b c one two = record {
  first = two.first ∙ one.first;
  count = two.count ∙ one.count;
  capacity = two.capacity ∙ one.capacity;
  gone = λ level. two.gone level ∙ one.gone level;
  same = λ leaves are. two.same leaves (one.same leaves are);
  more = let first = one.more in let second = two.more in omega arith;
}

-- Rows with one leaf more, or with nodes over more of them.

pub sound-pushed : (old new : RowsState) (leaf : List ℕ) → AreSound old
    → count_of old < old.capacity → new.first.gone ≡ old.first.gone
    → new.first.kept ≡ old.first.kept ++ leaf ∷ [] → old.first.spare ≤ new.first.spare + 1
    → new.above ≡ old.above → new.capacity ≡ old.capacity → AreSound new
sound-pushed old new leaf sound below gone more spare same capacity =
    let size = ap length more ∙ length_push old.first.kept leaf in
    let nodes = ap first_length same in
    let made = sound.made in
    let following = sound.following in
    let leaves = sound.leaves in
    let within = sound.within in
    record {
      levels = subst HaveLevels (sym same) sound.levels;
      even = ap (λ g. g % 2) gone ∙ sound.even;
      long = subst (λ a. AreLong (first_length a) a) (sym same) sound.long;
      made = omega arith;
      following = omega arith;
      leaves = omega arith;
      nodes = subst (HoldUpTo (new.capacity / 2)) (sym same)
          (subst (λ n. HoldUpTo (n / 2) old.above) (sym capacity) sound.nodes);
      within = omega arith;
    }

-- as many nodes as are asked for need no memory
pub can-reach : (r : RowsState) (to : ℕ) → AreSound r → to ≤ r.capacity / 2
    → CanReach (first_length r.above) to r.above
can-reach r to sound within = record {
  capacity = r.capacity / 2;
  long = sound.long;
  holds = sound.nodes;
  within = within;
}

pub record IsFilled (h : List ℕ → List ℕ) (to : ℕ) (old new : RowsState) : Type 0 where
  pub sound : AreSound new
  pub rows : HaveFilled h old new
  pub made : first_length new.above ≡ to

filled-above : (h : List ℕ → List ℕ) (old : RowsState) (above : List RowState) (to : ℕ)
    → AreSound old → first_length old.above ≤ to → 2 * to ≤ count_of old
    → length above ≡ length old.above
    → ArePairsFilled h old.first (first_length old.above) to old.above above
    → IsFilled h to old (record { first = old.first; above = above; capacity = old.capacity })
filled-above h old above to sound from within count is =
    let nodes : first_length above ≡ to = count-long to above is.long in
    let following = sound.following in
    record {
      sound = record {
        levels = subst (λ n. (n ≡ 0) ⊎ (n ≡ 63)) (sym count) sound.levels;
        even = sound.even;
        long = subst (λ n. AreLong n above) (sym nodes) is.long;
        made = omega arith;
        following = omega arith;
        leaves = sound.leaves;
        nodes = is.holds (old.capacity / 2) sound.nodes;
        within = sound.within;
      };
      rows = record {
        first = refl;
        count = refl;
        capacity = refl;
        gone = gone-grown old (record {
          first = old.first;
          above = above;
          capacity = old.capacity;
        }) refl is.gone;
        same = λ leaves are. record {
          first = are.first;
          above = subst (λ n. AreFullRowsOf h (take n (paired h leaves)) above) (sym nodes)
              (is.filled leaves are.first are.above);
        };
        more = omega arith;
      };
      made = nodes;
    }

-- through the slice of the vector of the rows above the leaves
pub filled_whole : (h : List ℕ → List ℕ) (old : RowsState) (slice new : List RowState)
    (len to : ℕ) → AreSound old → first_length old.above ≤ to → 2 * to ≤ count_of old
    → slice ≡ old.above → len ≡ length old.above → length new ≡ length slice
    → ArePairsFilled h old.first (first_length old.above) to slice new
    → IsFilled h to old (record {
      first = old.first;
      above = take len (new ++ drop (length new) old.above);
      capacity = old.capacity;
    })
filled_whole h old slice new len to sound from within is same count filling =
    let equal : length new ≡ length old.above = count ∙ ap length is in
    subst (λ a. IsFilled h to old (record {
      first = old.first;
      above = a;
      capacity = old.capacity;
    })) (sym (written-whole len new old.above same equal))
    (filled-above h old new to sound from within equal
    (subst (λ s. ArePairsFilled h old.first (first_length old.above) to s new) is filling))

-- All rows of some leaves.

pub all-none : (h : List ℕ → List ℕ) (r : RowsState) → AreRowsOf h [] r
    → ((level : ℕ) → gone_at r level ≡ 0) → first_row r ≡ [] → AreAllOf h (first_row r) r
all-none h r are whole none = record {
  rows_of = subst (λ l. AreRowsOf h l r) (sym none) are;
  whole = whole;
  filled = let count = count-rows h [] r are in omega arith;
}

-- more capacity, or one leaf more and all nodes over it
pub all-grown : (h : List ℕ → List ℕ) (old new : RowsState) → AreAllOf h (first_row old) old
    → HaveGrown old new → AreAllOf h (first_row new) new
all-grown h old new all grown = record {
  rows_of = subst (λ l. AreRowsOf h l new) (sym grown.first)
      (grown.same h (first_row old) all.rows_of);
  whole = λ level. grown.gone level ∙ all.whole level;
  filled = grown.filled ∙ all.filled ∙ sym grown.count;
}

module _ (h : List ℕ → List ℕ) (leaf : List ℕ) (old mid new : RowsState)
    (all : AreAllOf h (first_row old) old)
    (pushed : (leaves : List (List ℕ)) → AreRowsOf h leaves old
    → AreRowsOf h (leaves ++ leaf ∷ []) mid)
    (gone : (level : ℕ) → gone_at mid level ≡ gone_at old level) (filled : HaveFilled h mid new)
  where
    rows-new : AreRowsOf h (first_row old ++ leaf ∷ []) new
    rows-new = filled.same (first_row old ++ leaf ∷ []) (pushed (first_row old) all.rows_of)

    pub first-pushed : first_row new ≡ first_row old ++ leaf ∷ []
    first-pushed =
        first-is h (first_row old ++ leaf ∷ []) new rows-new
        ∙ ap (λ g. drop g (first_row old ++ leaf ∷ [])) (filled.gone 0 ∙ gone 0 ∙ all.whole 0)

    pub all-pushed : count_of mid ≤ filled_of new → AreAllOf h (first_row new) new
    all-pushed most = record {
      rows_of = subst (λ l. AreRowsOf h l new) (sym first-pushed) rows-new;
      whole = λ level. filled.gone level ∙ gone level ∙ all.whole level;
      filled = let same = filled.count in omega arith;
    }
