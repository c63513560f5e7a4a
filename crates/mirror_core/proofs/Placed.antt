-- The places of a mirror's Batches over any disk, and its size, with a record more.
use Rattle.std.proofs.Common.{◌≡◌, ℕ, zero, suc, ◌+◌, ◌<◌, ◌≤◌, List, [], ◌∷◌, ◌++◌, length}
use Rattle.std.proofs.Common.{Option, Some, None, refl, ap, sym, subst, ◌∙◌, arith, slice_index_or}
use Rattle.std.specs.Option.{unwrap_or}
use Rattle.std.proofs.lemmas.List.{append-nil}
use Rattle.std.proofs.lemmas.Option.{same_Some}
use Rattle.byte_formats.specs.Types.{HashFunction, Text}
use Rattle.byte_formats.proofs.Values.{when_some}
use Rattle.issuance_log.specs.Records.{tiled_in}
use Rattle.mirror_core.specs.Folds.{MirrorView, mirror_step, mirror_step_in}
use Rattle.mirror_core.specs.Folds.{mirror_view_by_step, next_mirror_view, takes_mirror_step}
use Rattle.mirror_core.specs.Places.{ArePlaced, no_place, place_with}
use Rattle.mirror_core.specs.Records.{mirrored_by, mirrored_in}
use Rattle.mirror_core.specs.declared.kept.BatchPlace.{BatchPlace}

-- ---- the size

step_size : (v : MirrorView) (items : Option (List (Text × Text))) (size : Option ℕ)
    → (mirror_view_by_step (mirror_step items size) v).size ≡ v.size + length (unwrap_or items [])
step_size v (Some items) size = refl
step_size v None (Some size) = omega arith
step_size v None None = omega arith

pub size_next : (h : HashFunction) (v w : MirrorView) (body : Text)
    → next_mirror_view h v body ≡ Some w → w.size ≡ v.size + length (mirrored_by body)
unfolding next_mirror_view
size_next h v w body is =
    let x = mirror_step_in body in
    let made = when_some (takes_mirror_step h v x) (Some (mirror_view_by_step x v)) w is in
    sym (ap (λ (u : MirrorView). u.size) (same_Some (mirror_view_by_step x v) w made.1))
    ∙ step_size v (mirrored_in body) (tiled_in body)

-- ---- the places

-- below an end, with one more
below_push : (places : List BatchPlace) (p : BatchPlace) (end : ℕ)
    → ((i : ℕ) → i < length places → (slice_index_or places i no_place).place + 5 ≤ end)
    → p.place + 5 ≤ end → (i : ℕ) → i < length (places ++ p ∷ [])
    → (slice_index_or (places ++ p ∷ []) i no_place).place + 5 ≤ end
below_push [] p end before new zero there = new
below_push [] p end before new (suc i) there = absurd (omega (arith, there))
below_push (q ∷ places) p end before new zero there = before 0 (omega arith)
below_push (q ∷ places) p end before new (suc i) there =
    below_push places p end (λ j b. before (suc j) (omega (arith, b))) new i (omega (arith, there))

-- no place
pub placed_none : (end : ℕ) → ArePlaced [] 0 end
placed_none end = record {
  below = λ i there. absurd (omega (arith, there));
  first = refl;
  some = λ none. refl;
}

-- below a later end
pub placed_on : (places : List BatchPlace) (size end later : ℕ) → end ≤ later
    → ArePlaced places size end → ArePlaced places size later
placed_on places size end later more is = record {
  below = λ i there. let before = is.below i there in omega (arith, before, more);
  first = is.first;
  some = is.some;
}

placed_one : (places : List BatchPlace) (size place end later count : ℕ) → end ≤ later
    → place + 5 ≤ later → ArePlaced places size end
    → ArePlaced (places ++ record { place = place; first = size } ∷ []) (size + count) later
placed_one [] size place end later count more there is =
    let none = is.some refl in
    record {
      below = below_push [] (record { place = place; first = size }) later
          (λ i b. absurd (omega (arith, b))) there;
      first = none;
      some = λ no. absurd (omega (arith, no));
    }
placed_one (p ∷ places) size place end later count more there is = record {
  below = below_push (p ∷ places) (record { place = place; first = size }) later
      (λ i b. let before = is.below i b in omega (arith, before, more)) there;
  first = is.first;
  some = λ no. absurd (omega (arith, no));
}

pub placed_next : (places places' : List BatchPlace) (size size' place later : ℕ)
    (o : Option (List (Text × Text))) → ArePlaced places size (place + 1)
    → places' ≡ places ++ place_with place size o → size' ≡ size + length (unwrap_or o [])
    → place + 5 ≤ later → ArePlaced places' size' later
placed_next places places' size size' place later None is are sum there =
    let same : size' ≡ size = omega (arith, sum) in
    subst (λ (l : List BatchPlace). ArePlaced l size' later) (sym (are ∙ append-nil places))
    (subst (λ (n : ℕ). ArePlaced places n later) (sym same)
    (placed_on places size (place + 1) later (omega (arith, there)) is))
placed_next places places' size size' place later (Some items) is are sum there =
    subst (λ (l : List BatchPlace). ArePlaced l size' later) (sym are)
    (subst (λ (n : ℕ). ArePlaced (places ++ record { place = place; first = size } ∷ []) n later)
    (sym sum) (placed_one places size place (place + 1) later (length items)
    (omega (arith, there)) there is))
