-- The subtree that covers an entry is one of the log, and holds the entry. It should stand in
-- authority_core; that the cover of an interval covers it in tree_core.
use Rattle.std.proofs.Common.{◌≡◌, ◌⊎◌, inl, inr, ℕ, suc, ◌+◌, ◌-◌, ◌^◌, ◌<◌, ◌==◌, ◌||◌, Bool}
use Rattle.std.proofs.Common.{true, false, length, None, Some, refl, sym, subst}
use Rattle.std.proofs.Common.{if◌then◌else◌, arith}
use Rattle.std.proofs.lemmas.Bool.{eqb-false, or_parts}
use Rattle.std.proofs.lemmas.Bool.Decides.{eqb_tells}
use Rattle.std.proofs.lemmas.List.Sums.{count_by-le-length}
use Rattle.std.proofs.lemmas.Option.{none-some, same_Some}
use Rattle.std.specs.Prelude.{◌≢◌, bit_and, bit_xor, nat_lt}
use Rattle.byte_formats.proofs.Values.{map_some}
use Rattle.tree_core.specs.Cover.{CoversInterval, bit_length, clear_low, cover_of}
use Rattle.tree_core.specs.declared.spans.Span.{Span}
use Rattle.tree_core.proofs.Covers.{cover_of-one, cover_of-two, covers_found, covers_one}
use Rattle.landmarks.specs.Landmarks.{IsCovering, IsLandmarks, IsLeastAbove, LandmarkList}
use Rattle.landmarks.specs.Landmarks.{above_count}
use Rattle.landmarks.specs.Landmarks.{landmark_size, landmarks_of, least_of, part_with}
use Rattle.landmarks.specs.Landmarks.{subtrees_of}
use Rattle.landmarks.proofs.Coverings.{is_covering, least_above}
use Rattle.landmarks.proofs.Sizes.{are_landmarks}
use Rattle.issuance_log.specs.Folds.{LogView}
use Rattle.issuance_log.specs.Sound.{HasSoundNumbers}
use Rattle.authority_core.specs.Certificates.{HoldsEntry, covering_in}
use Rattle.authority_core.proofs.Marks.{bounded, covered, strictly}

-- ---- the cover of an interval

pub covers : (start end : ℕ) → start < end → end < 2 ^ 64
    → CoversInterval start end (cover_of start end)
covers start end before fits = go (eqb_tells (end - start) 1)
  where
    go : ((((end - start) == 1) ≡ true) × (end - start ≡ 1))
        ⊎ ((((end - start) == 1) ≡ false) × (end - start ≢ 1))
        → CoversInterval start end (cover_of start end)
    go (inl one) = subst (CoversInterval start end) (sym (cover_of-one start end one.1))
        (covers_one start end one.1)
    go (inr more) =
        let split : ℕ = bit_length (bit_xor start (end - 1)) - 1 in
        let left : ℕ = bit_length (2 ^ split - 1 - bit_and start (2 ^ split - 1)) in
        let from : ℕ = clear_low start left in
        let middle : ℕ = clear_low (end - 1) split in
        subst (CoversInterval start end)
        (cover_of-two start end split left from middle more.1 refl refl refl refl)
        (covers_found start end split left from middle before more.1 fits refl refl refl refl)

-- ---- the least landmark above an entry

otherwise : (b : Bool) (x y : ℕ) → (if b then None else Some x) ≡ Some y → (b ≡ false) × (x ≡ y)
otherwise true x y is = absurd (none-some y is)
otherwise false x y is = (refl, same_Some x y is)

covering_at : (l : LandmarkList) (index number : ℕ) (span : Span) → IsLandmarks l
    → least_of l index ≡ Some number → part_with (subtrees_of l number) index ≡ span
    → IsCovering l index span
unfolding least_of
covering_at l index number span known found is =
    let count : ℕ = above_count l index in
    let least = otherwise ((count == 0) || (count == length l.sizes)) (l.last + 1 - count) number
    found in
    let tests = or_parts (count == 0) (count == length l.sizes) least.0 in
    let some = eqb-false count 0 tests.0 in
    let not_all = eqb-false count (length l.sizes) tests.1 in
    let most = count_by-le-length (λ size. nat_lt index size) l.sizes in
    let below : count < length l.sizes = omega arith in
    let above = subst (IsLeastAbove l index) least.1
    (least_above l index count known refl some below) in
    let small = known.small (l.last - number) in
    is_covering l index number (subtrees_of l number) span above
    (covers (landmark_size l (number - 1)) (landmark_size l number)
    (omega (arith, above.least, above.above)) (omega (arith, small))) (sym is)

-- ---- in a log

are_known : (v : LogView) → HasSoundNumbers v
    → IsLandmarks (landmarks_of v.marks v.settings.max_active)
unfolding landmarks_of
are_known v numbers =
    are_landmarks v.marks v.settings.max_active _ refl (strictly 0 v.size v.marks numbers.marks)
    (λ i. let few = bounded 0 v.size v.marks numbers.marks (suc i) in
    omega (arith, few, numbers.few, numbers.allowed.few))

pub holds_entry : (v : LogView) (index : ℕ) (span : Span) → HasSoundNumbers v
    → covering_in v index ≡ Some span → HoldsEntry v.size index span
holds_entry v index span numbers is =
    let l = landmarks_of v.marks v.settings.max_active in
    let found = map_some (λ (number : ℕ). part_with (subtrees_of l number) index) (least_of l index)
    span is in
    covered (Some span) l v.marks v.settings.max_active v.size index refl numbers.marks
    (covering_at l index found.0 span (are_known v numbers) found.1 found.2)
