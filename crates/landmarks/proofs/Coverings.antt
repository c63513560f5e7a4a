-- The least landmark above an index, and its subtree.
use Rattle.std.proofs.Common.{◌≡◌, ◌≢◌, ℕ, zero, suc, ◌+◌, ◌-◌, ◌<◌, ◌≤◌, List, [], ◌∷◌}
use Rattle.std.proofs.Common.{length, get_or, cond, Option, Some, None, ap, arith, subst, sym}
use Rattle.std.proofs.Common.{⊎_elim}
use Rattle.std.specs.Prelude.{nat_lt, MatchOption}
use Rattle.std.specs.List.{count_by}
use Rattle.std.proofs.lemmas.Bool.{cases_lt, cond_both, ltb-false, ltb-true}
use Rattle.std.proofs.lemmas.List.Sums.{sum_by-cons}
use Rattle.tree_core.specs.Cover.{CoversInterval}
use Rattle.tree_core.specs.Laws.{IsSubtree}
use Rattle.tree_core.specs.declared.spans.Cover.{Cover}
use Rattle.tree_core.specs.declared.spans.Span.{Span}
use Rattle.landmarks.specs.Landmarks.{IsCovering, IsLandmarks, IsLeastAbove, LandmarkList}
use Rattle.landmarks.specs.Landmarks.{above_count, or_second, part_with, landmark_size}

-- the first p of the sizes are above the index, and no others
record AreAbove (index p : ℕ) (sizes : List ℕ) : Type 0 where
  within : p ≤ length sizes
  above : (i : ℕ) → i < p → index < get_or sizes i 0
  below : (i : ℕ) → p ≤ i → get_or sizes i 0 ≤ index

one_above : (index p size : ℕ) (sizes : List ℕ) → index < size → AreAbove index p sizes
    → AreAbove index (1 + p) (size ∷ sizes)
one_above index p size sizes high others = record {
  within = let few = others.within in omega arith;
  above = above;
  below = below;
}
  where
    above : (i : ℕ) → i < 1 + p → index < get_or (size ∷ sizes) i 0
    above zero here = high
    above (suc i) here = others.above i (omega arith)

    below : (i : ℕ) → 1 + p ≤ i → get_or (size ∷ sizes) i 0 ≤ index
    below zero here = absurd (omega arith)
    below (suc i) here = others.below i (omega arith)

none_above : (index p size : ℕ) (sizes : List ℕ) → size ≤ index
    → (1 < length (size ∷ sizes) → get_or sizes 0 0 < size) → AreAbove index p sizes
    → AreAbove index p (size ∷ sizes)
none_above index p size sizes low falls others = record {
  within = let few = others.within in omega arith;
  above = λ i here. absurd (omega (arith, none));
  below = below;
}
  where
    none : p ≡ 0
    none = ⊎_elim
        (λ (some : 0 < p).
        let few = others.within in
        let high = others.above 0 some in let step = falls (omega arith) in absurd (omega arith))
        (λ (le : p ≤ 0). omega arith)
        (cases_lt 0 p)

    below : (i : ℕ) → p ≤ i → get_or (size ∷ sizes) i 0 ≤ index
    below zero here = low
    below (suc i) here = others.below i (omega (arith, none))

are_above : (index : ℕ) (sizes : List ℕ)
    → ((i : ℕ) → i + 1 < length sizes → get_or sizes (i + 1) 0 < get_or sizes i 0)
    → AreAbove index (count_by (λ size. nat_lt index size) sizes) sizes
are_above index [] falls = record {
  within = omega arith;
  above = λ i here. absurd (omega arith);
  below = λ i here. omega arith;
}
are_above index (size ∷ sizes) falls =
    let following : (i : ℕ) → i + 1 < length sizes → get_or sizes (i + 1) 0 < get_or sizes i 0 =
    λ i more.
    let step = falls (i + 1) (omega arith) in
    let place : i + 1 ≡ suc i = omega arith in
    let next : i + 1 + 1 ≡ suc (i + 1) = omega arith in
    let upper : get_or (size ∷ sizes) (i + 1) 0 ≡ get_or sizes i 0 =
    ap (λ k. get_or (size ∷ sizes) k 0) place in
    let lower : get_or (size ∷ sizes) (i + 1 + 1) 0 ≡ get_or sizes (i + 1) 0 =
    ap (λ k. get_or (size ∷ sizes) k 0) next in
    omega arith in
    let others = are_above index sizes following in
    let p : ℕ = count_by (λ s. nat_lt index s) sizes in
    let P : ℕ → Type 0 = λ k. AreAbove index k (size ∷ sizes) in
    let same : p ≡ 0 + p = omega arith in
    subst P (sym (sum_by-cons (λ s. cond (nat_lt index s) 1 0) size sizes))
    (cond_both (nat_lt index size) 1 0 (λ k. P (k + p))
    (λ e. one_above index p size sizes (ltb-true _ _ e) others)
    (λ e. subst P same (none_above index p size sizes (ltb-false _ _ e) (falls 0) others)))

-- the landmark found is the least above the index
pub least_above : (l : LandmarkList) (index p : ℕ) → IsLandmarks l → p ≡ above_count l index
    → p ≢ 0 → p < length l.sizes → IsLeastAbove l index (l.last + 1 - p)
least_above l index p known p_is some few =
    let count = are_above index l.sizes known.falls in
    let numbered = known.numbered in
    let place : l.last - (l.last + 1 - p) ≡ p - 1 = omega arith in
    let before : l.last - (l.last + 1 - p - 1) ≡ p = omega arith in
    let high = count.above (p - 1) (omega arith) in
    let low = count.below p (omega arith) in
    let size : landmark_size l (l.last + 1 - p) ≡ get_or l.sizes (p - 1) 0 =
    ap (λ k. get_or l.sizes k 0) place in
    let size_before : landmark_size l (l.last + 1 - p - 1) ≡ get_or l.sizes p 0 =
    ap (λ k. get_or l.sizes k 0) before in
    record {
      active = record { from = omega arith; below = omega arith };
      above = omega arith;
      least = omega arith;
    }

-- where none is found there is none
pub none_least : (l : LandmarkList) (index p number : ℕ) → IsLandmarks l
    → p ≡ above_count l index → (0 < p → length l.sizes ≤ p) → IsLeastAbove l index number → ⊥
none_least l index p number known p_is out least =
    let count = are_above index l.sizes known.falls in
    let numbered = known.numbered in
    let from = least.active.from in
    let below = least.active.below in
    let above = least.above in
    let low = least.least in
    let place : l.last - (number - 1) ≡ l.last - number + 1 = omega arith in
    let size_before : landmark_size l (number - 1) ≡ get_or l.sizes (l.last - number + 1) 0 =
    ap (λ k. get_or l.sizes k 0) place in
    let first : l.last - number < p =
    ⊎_elim
    (λ (lt : l.last - number < p). lt)
    (λ (le : p ≤ l.last - number). let under = count.below (l.last - number) (omega arith) in
    absurd (omega arith))
    (cases_lt (l.last - number) p) in
    let second : p ≤ l.last - number + 1 =
    ⊎_elim
    (λ (lt : l.last - number + 1 < p). let over = count.above (l.last - number + 1) (omega arith) in
    absurd (omega arith))
    (λ (le : p ≤ l.last - number + 1). le)
    (cases_lt (l.last - number + 1) p) in
    let far = out (omega arith) in
    absurd (omega arith)

-- the subtree of a cover that holds the entry
record IsPart (end index : ℕ) (span : Span) : Type 0 where
  subtree : IsSubtree span.start span.end
  from : span.start ≤ index
  below : index < span.end
  within : span.end ≤ end

second_part : (start end index : ℕ) (first : Span) (second : Option Span)
    → first.end ≤ index → index < end
    → MatchOption second (first.end ≡ end)
    (λ s. (s.start ≡ first.end) × ((s.end ≡ end) × IsSubtree s.start s.end))
    → IsPart end index (or_second second first)
second_part start end index first None following within last = absurd (omega arith)
second_part start end index first (Some second) following within parts = record {
  subtree = parts.1.1;
  from = omega (arith, parts.0);
  below = omega (arith, parts.1.0);
  within = omega (arith, parts.1.0);
}

part_of_cover : (start end index : ℕ) (cover : Cover) → CoversInterval start end cover
    → start ≤ index → index < end → cover.first.end ≤ end
    → IsPart end index (part_with cover index)
part_of_cover start end index cover covers from below first_within =
    cond_both (nat_lt index cover.first.end) cover.first (or_second cover.second cover.first)
    (IsPart end index)
    (λ e. let begins = covers.begins in record {
      subtree = covers.first;
      from = omega arith;
      below = ltb-true _ _ e;
      within = first_within;
    })
    (λ e. second_part start end index cover.first cover.second (ltb-false _ _ e) below covers.rest)

first_ends : (end : ℕ) (first : Span) (second : Option Span)
    → MatchOption second (first.end ≡ end)
    (λ s. (s.start ≡ first.end) × ((s.end ≡ end) × IsSubtree s.start s.end))
    → first.end ≤ end
first_ends end first None last = omega arith
first_ends end first (Some second) parts =
    let some = parts.1.1.inhabited in omega (arith, parts.0, parts.1.0)

pub is_covering : (l : LandmarkList) (index number : ℕ) (cover : Cover) (span : Span)
    → IsLeastAbove l index number
    → CoversInterval (landmark_size l (number - 1)) (landmark_size l number) cover
    → span ≡ part_with cover index → IsCovering l index span
is_covering l index number cover span least covers span_is =
    let end : ℕ = landmark_size l number in
    let part = subst (IsPart end index) (sym span_is)
    (part_of_cover (landmark_size l (number - 1)) end index cover covers least.least least.above
    (first_ends end cover.first cover.second covers.rest)) in
    record {
      number = number;
      least = least;
      subtree = part.subtree;
      from = part.from;
      below = part.below;
      within = part.within;
    }
