-- The tables of the subtrees of landmarks.
use Rattle.std.proofs.Common.{◌≡◌, ℕ, ◌+◌, ◌-◌, ◌^◌, ◌<◌, ◌≤◌, List, [], ◌∷◌, ◌++◌, get_or, Option}
use Rattle.std.proofs.Common.{None, Some, Ok, refl, sym, ap, subst, ◌∙◌, arith}
use Rattle.std.specs.Prelude.{map}
use Rattle.std.specs.List.{concat, range_with_len}
use Rattle.std.proofs.lemmas.List.{append-nil, map-append}
use Rattle.std.proofs.lemmas.List.Folds.{concat-append}
use Rattle.std.proofs.lemmas.List.FromFn.{map-range_with_len_more}
use Rattle.byte_formats.specs.Types.{HashFunction, Text}
use Rattle.landmarks.proofs.BothWays.{list_again, list_read}
use Rattle.landmarks.specs.Landmarks.{LandmarkList, active_count, active_of, landmark_size}
use Rattle.landmarks.specs.Landmarks.{subtrees_of}
use Rattle.landmarks.specs.Texts.{list_of}
use Rattle.tree_core.specs.Cover.{CoversInterval}
use Rattle.tree_core.specs.declared.spans.Cover.{Cover}
use Rattle.tree_core.specs.declared.spans.Span.{Span}
use Rattle.mtc_relying.specs.SubtreeTables.{AreInOrder, AreSubtreesOf, EndBy, spans_of}
use Rattle.mtc_relying.specs.TrustOutcome.{cover_tables, landmark_tables, subtree_table, tables_of}

-- one landmark more
pub tables_more : (h : HashFunction) (entries : List Text) (l : LandmarkList) (count number : ℕ)
    → (active_of l).start + count ≡ number
    → tables_of h entries l (count + 1)
    ≡ tables_of h entries l count ++ landmark_tables h entries l number
tables_more h entries l count number is =
    let tables = landmark_tables h entries l in
    let before = map tables (range_with_len (active_of l).start count) in
    ap concat (map-range_with_len_more tables (active_of l).start count number is)
    ∙ concat-append before (tables number ∷ [])
    ∙ ap (λ last. concat before ++ last) (append-nil (tables number))

-- ---- subtrees in their order

pub end-joined : (n : ℕ) (first others : List Span) → EndBy n first → EndBy n others
    → EndBy n (first ++ others)
end-joined n [] others all more = more
end-joined n (span ∷ first) others all more = (all.0, end-joined n first others all.1 more)

pub end-above : (n m : ℕ) (spans : List Span) → n ≤ m → EndBy n spans → EndBy m spans
end-above n m [] up all = tt
end-above n m (span ∷ rest) up all =
    let end = all.0 in (omega arith, end-above n m rest up all.1)

order-joined : (n m : ℕ) (first others : List Span) → n ≤ m → EndBy m first → AreInOrder n first
    → AreInOrder m others → AreInOrder n (first ++ others)
order-joined n m [] [] up ended order more = tt
order-joined n m [] (span ∷ rest) up ended order more =
    let above = more.1.0 in (more.0, (omega arith, more.1.1))
order-joined n m (span ∷ first) others up ended order more =
    (order.0, (order.1.0, order-joined span.end m first others ended.0 ended.1 order.1.1 more))

-- those of a cover
record AreOfCover (start end : ℕ) (cover : Cover) : Type 0 where
  order : AreInOrder start (spans_of cover)
  ended : EndBy end (spans_of cover)
  some : start < end

of_cover : (start end : ℕ) (first : Span) (second : Option Span)
    → CoversInterval start end (record { first = first; second = second })
    → AreOfCover start end (record { first = first; second = second })
of_cover start end first None is =
    let holds = is.holds in
    let last = is.rest in
    record {
      order = (is.first, (is.holds, tt));
      ended = (omega arith, tt);
      some = omega arith;
    }
of_cover start end first (Some second) is =
    let holds = is.holds in
    let next = is.rest.0 in
    let last = is.rest.1.0 in
    let some = is.rest.1.1.inhabited in
    record {
      order = (is.first, (is.holds, (is.rest.1.1, (omega arith, tt))));
      ended = (omega arith, (omega arith, tt));
      some = omega arith;
    }

cover_text : (h : HashFunction) (entries : List Text) (first : Span) (second : Option Span)
    → concat (map (subtree_table h entries)
    (spans_of (record { first = first; second = second })))
    ≡ cover_tables h entries (record { first = first; second = second })
cover_text h entries first None = refl
cover_text h entries first (Some second) =
    ap (λ t. subtree_table h entries first ++ t) (append-nil (subtree_table h entries second))

-- ---- those of landmarks

-- the subtrees of the active landmarks before this one
pub record AreSoFar (l : LandmarkList) (number : ℕ) (spans : List Span) : Type 0 where
  pub below : number ≤ (active_of l).end
  pub order : AreInOrder 0 spans
  pub within : EndBy (landmark_size l (number - 1)) spans
  pub tables : (h : HashFunction) (entries : List Text)
      → concat (map (subtree_table h entries) spans)
      ≡ tables_of h entries l (number - (active_of l).start)

pub so_far-none : (l : LandmarkList) (number : ℕ) (spans : List Span)
    → number ≡ (active_of l).start → spans ≡ [] → AreSoFar l number spans
so_far-none l number spans from none =
    subst (AreSoFar l number) (sym none) (record {
      below = omega (arith, from);
      order = tt;
      within = tt;
      tables = λ h entries.
          let count : 0 ≡ number - (active_of l).start = omega (arith, from) in
          ap (tables_of h entries l) count;
    })

pub so_far-more : (l : LandmarkList) (number : ℕ) (before spans : List Span) (cover : Cover)
    → AreSoFar l number before → (active_of l).start ≤ number → number < (active_of l).end
    → cover ≡ subtrees_of l number
    → CoversInterval (landmark_size l (number - 1)) (landmark_size l number) cover
    → spans ≡ before ++ spans_of cover → AreSoFar l (number + 1) spans
so_far-more l number before spans cover so_far from before_end is covers joined =
    let these = of_cover _ _ cover.first cover.second covers in
    let some = these.some in
    let next : number + 1 - 1 ≡ number = omega arith in
    subst (AreSoFar l (number + 1)) (sym joined) (record {
      below = omega (arith, before_end);
      order = order-joined 0 (landmark_size l (number - 1)) before (spans_of cover) (omega arith)
          so_far.within so_far.order these.order;
      within = subst (λ n. EndBy (landmark_size l n) (before ++ spans_of cover)) (sym next)
          (end-joined _ before (spans_of cover)
          (end-above _ _ before (omega arith) so_far.within) these.ended);
      tables = λ h entries.
          let table = subtree_table h entries in
          let count : ℕ = number - (active_of l).start in
          let more : count + 1 ≡ number + 1 - (active_of l).start = omega (arith, from) in
          ap concat (map-append table before (spans_of cover))
          ∙ concat-append (map table before) (map table (spans_of cover))
          ∙ ap (λ t. t ++ concat (map table (spans_of cover))) (so_far.tables h entries)
          ∙ ap (λ t. tables_of h entries l count ++ t)
          (cover_text h entries cover.first cover.second ∙ ap (cover_tables h entries) is)
          ∙ sym (tables_more h entries l count number (omega (arith, from)))
          ∙ ap (tables_of h entries l) more;
    })

pub so_far-all : (l : LandmarkList) (number : ℕ) (spans : List Span) → AreSoFar l number spans
    → (active_of l).end ≤ number → active_count l ≤ l.last → AreSubtreesOf l spans
so_far-all l number spans so_far all few =
    let last : number ≡ l.last + 1 = omega (arith, all, so_far.below) in
    let first : l.last - (number - 1) ≡ 0 = omega (arith, last) in
    let count : number - (active_of l).start ≡ active_count l = omega (arith, last, few) in
    record {
      order = so_far.order;
      within = subst (λ n. EndBy (get_or l.sizes n 0) spans) first so_far.within;
      tables = λ h entries. so_far.tables h entries ∙ ap (tables_of h entries l) count;
    }

-- the log's size doesn't matter to what is read
pub any_size : (text : Text) (most size : ℕ) (l : LandmarkList) → list_of text most size ≡ Ok l
    → list_of text most (2 ^ 64 - 1) ≡ Ok l
any_size text most size l is =
    let read = list_read text most size l is in
    let small = read.1.0.small 0 in
    subst (λ t. list_of t most (2 ^ 64 - 1) ≡ Ok l) (sym read.0)
    (list_again most (2 ^ 64 - 1) l read.1.0 (record {
      few = read.1.1.few;
      within = omega arith;
    }))
