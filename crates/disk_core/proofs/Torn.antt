-- A torn write, byte by byte.
use Rattle.std.proofs.Common.{◌≡◌, ◌⊎◌, inl, inr, ℕ, ◌+◌, ◌-◌, ◌<◌, ◌≤◌, ◌++◌, min, List, [], ◌∷◌}
use Rattle.std.proofs.Common.{length, map, take, drop, slice_index, refl, ap, sym, ◌∙◌}
use Rattle.std.proofs.Common.{subst, arith}
use Rattle.std.specs.List.{range_with_len}
use Rattle.std.proofs.lemmas.Bool.{cases_lt, cases_eq}
use Rattle.std.proofs.lemmas.List.{length-take, length-drop, get_or-take, get_or-drop, get_or_past}
use Rattle.std.proofs.lemmas.List.{ext_get_or, drop-drop, take-append-drop, append_assoc}
use Rattle.std.proofs.lemmas.List.FromFn.{length-map-range_with_len, get_or-map-range_with_len}
use Rattle.byte_formats.specs.Offsets.{IsBytes}
use Rattle.disk_core.specs.Disk.{overwritten, part, Torn, Follows}
use Rattle.disk_core.specs.Times.{LeavesOnly}
use Rattle.disk_core.specs.Replay.{IsCrashStateOf}
use Rattle.disk_core.specs.Torn.{LeavesByte, AllLeaveByte, KeepsOthers, Extends, EachHas}
use Rattle.disk_core.specs.Writes.{over_prefix, over_within, over_after}
use Rattle.disk_core.specs.declared.disk.Disk.{Ghosts}
use Rattle.disk_core.proofs.Times.{weaker}

-- A write leaves a byte as it was exactly if it is the same after the write.
leaves_same : (old : List ℕ) (i : ℕ) (write : ℕ × List ℕ) → i < length old
    → LeavesByte old i write
    → slice_index (overwritten write.0 write.1 old) i ≡ slice_index old i
leaves_same old i write there (inl (inl prefix)) = over_prefix write.0 write.1 old i there prefix
leaves_same old i write there (inl (inr following)) =
    over_after write.0 write.1 old i there following
leaves_same old i write there (inr same) =
    elim (cases_lt i write.0) [
      | inl prefix ↦ over_prefix write.0 write.1 old i there prefix
      | inr from ↦ elim (cases_lt i (write.0 + length write.1)) [
        | inl within ↦ over_within write.0 write.1 old i there from within ∙ same
        | inr following ↦ over_after write.0 write.1 old i there following
      ]
    ]

same_leaves : (old : List ℕ) (i : ℕ) (write : ℕ × List ℕ) → i < length old
    → slice_index (overwritten write.0 write.1 old) i ≡ slice_index old i
    → LeavesByte old i write
same_leaves old i write there same =
    elim (cases_lt i write.0) [
      | inl prefix ↦ inl (inl prefix)
      | inr from ↦ elim (cases_lt i (write.0 + length write.1)) [
        | inl within ↦ inr (sym (over_within write.0 write.1 old i there from within) ∙ same)
        | inr following ↦ inl (inr following)
      ]
    ]

pub torn_keeps : (place : ℕ) (piece old new : List ℕ) → Torn place piece old new
    → KeepsOthers ((place, piece) ∷ []) old new
torn_keeps place piece old new torn = record {
  no_shorter = torn.no_shorter;
  others = λ i there leaves. torn.stays i there (leaves_same old i (place, piece) there leaves.0);
}

pub keeps_torn : (place : ℕ) (piece old new : List ℕ) → KeepsOthers ((place, piece) ∷ []) old new
    → Torn place piece old new
keeps_torn place piece old new keeps = record {
  no_shorter = keeps.no_shorter;
  stays = λ i there same. keeps.others i there (same_leaves old i (place, piece) there same, tt);
}

-- all before the range
pub torn_before : (place : ℕ) (piece old new : List ℕ) → Torn place piece old new
    → take (min place (length old)) new ≡ take place old
torn_before place piece old new torn =
    let longer = torn.no_shorter in
    ext_get_or 0 (take (min place (length old)) new) (take place old)
    (simp length-take (omega arith)) (λ i within.
    let size : length (take (min place (length old)) new)
    ≡ min (min place (length old)) (length new) =
    length-take (min place (length old)) new in
    get_or-take (min place (length old)) new i 0 (omega arith)
    ∙ torn.stays i (omega arith) (over_prefix place piece old i (omega arith) (omega arith))
    ∙ sym (get_or-take place old i 0 (omega arith)))

-- and all after it, below the old end
pub torn_after : (place : ℕ) (piece old new : List ℕ) → Torn place piece old new
    → take (length old - (place + length piece)) (drop (place + length piece) new)
    ≡ drop (place + length piece) old
torn_after place piece old new torn =
    let longer = torn.no_shorter in
    let end = place + length piece in
    ext_get_or 0 (take (length old - end) (drop end new)) (drop end old)
    (simp (length-take, length-drop) (omega arith)) (λ i within.
    let size : length (take (length old - end) (drop end new))
    ≡ min (length old - end) (length (drop end new))
    = length-take (length old - end) (drop end new) in
    get_or-take (length old - end) (drop end new) i 0 (omega arith)
    ∙ get_or-drop end new i 0
    ∙ torn.stays (end + i) (omega arith)
    (over_after place piece old (end + i) (omega arith) (omega arith))
    ∙ sym (get_or-drop end old i 0))

-- What is there is written: nothing changes.
over_same : (place : ℕ) (piece old : List ℕ) → part place (length piece) old ≡ piece
    → overwritten place piece old ≡ old
over_same place piece old there =
    ap (λ (bytes : List ℕ). take place old ++ bytes ++ drop (place + length piece) old) (sym there)
    ∙ append_assoc (take place old) (take (length piece) (drop place old))
    (drop (place + length piece) old)
    ∙ ap (λ (bytes : List ℕ). take place old ++ (take (length piece) (drop place old) ++ bytes))
    (sym (drop-drop (length piece) place old))
    ∙ ap (λ (bytes : List ℕ). take place old ++ bytes)
    (take-append-drop (length piece) (drop place old))
    ∙ take-append-drop place old

pub same_extends : (place : ℕ) (piece old new : List ℕ) → part place (length piece) old ≡ piece
    → Torn place piece old new → Extends old new
same_extends place piece old new there torn =
    let longer = torn.no_shorter in
    ext_get_or 0 (take (length old) new) old (simp length-take (omega arith)) (λ i within.
    let size : length (take (length old) new) ≡ min (length old) (length new)
    = length-take (length old) new in
    get_or-take (length old) new i 0 (omega arith)
    ∙ torn.stays i (omega arith)
    (ap (λ (bytes : List ℕ). slice_index bytes i) (over_same place piece old there)))

pub extends_torn : (place : ℕ) (piece old new : List ℕ) → Extends old new
    → Torn place piece old new
extends_torn place piece old new extends = record {
  no_shorter =
      let size = length-take (length old) new in
      let same = ap length extends in
      omega arith;
  stays = λ i there same. sym (get_or-take (length old) new i 0 there)
      ∙ ap (λ (bytes : List ℕ). slice_index bytes i) extends;
}

-- the same where a crash at any time leaves a crash state of such a write
pub same_clocks : {D : Type 0} (g : Ghosts D) (old new : D) (place : ℕ) (piece : List ℕ)
    → ((d : List ℕ) → g.may_leave old d → part place (length piece) d ≡ piece)
    → LeavesOnly g old new (λ c. (d : List ℕ) × g.may_leave old d × Torn place piece d c)
    → LeavesOnly g old new (λ c. (d : List ℕ) × g.may_leave old d × Extends d c)
same_clocks g old new place piece there run =
    weaker g old new _ _ (λ c (d, was, torn).
    (d, was, same_extends place piece d c (there d was) torn)) run

-- a byte that each crash state has, and that is written again
pub each_has_still : (place : ℕ) (piece : List ℕ) (old new : List ℕ → Type 0) (k : ℕ)
    → Follows (Torn place piece) old new → k < length piece
    → EachHas (place + k) (slice_index piece k) old
    → EachHas (place + k) (slice_index piece k) new
each_has_still place piece old new k follows within has crash_state now =
    let (before, was, torn) = follows crash_state now in
    let (there, is) = has before was in
    let longer = torn.no_shorter in
    let split : (place + k) - place ≡ k = omega arith in
    let same : slice_index (overwritten place piece before) (place + k)
    ≡ slice_index before (place + k)
    = over_within place piece before (place + k) there (omega arith) (omega arith)
    ∙ ap (λ (n : ℕ). slice_index piece n) split ∙ sym is in
    (omega arith, torn.stays (place + k) there same ∙ is)

-- every crash state has, as it was, what each write since the last sync leaves as it was
pub crash_state_keeps : (base : List ℕ) (writes : List (ℕ × List ℕ)) (crash_state : List ℕ)
    → IsCrashStateOf base writes crash_state → KeepsOthers writes base crash_state
crash_state_keeps base [] crash_state is = subst (λ (c : List ℕ). KeepsOthers [] base c) (sym is)
    (record { no_shorter = omega arith; others = λ i there leaves. refl })
crash_state_keeps base (write ∷ writes) crash_state (are, before, was, torn) =
    let kept = crash_state_keeps base writes before was in
    let longer = kept.no_shorter in
    record {
      no_shorter = let more = torn.no_shorter in omega arith;
      others = λ i there leaves.
          let same : slice_index before i ≡ slice_index base i
          = kept.others i there leaves.1 in
          torn.stays i (omega arith) (leaves_same before i write (omega arith)
          (leaves_alike base before i write same leaves.0)) ∙ same;
    }
  where
    leaves_alike : (base before : List ℕ) (i : ℕ) (write : ℕ × List ℕ)
        → slice_index before i ≡ slice_index base i → LeavesByte base i write
        → LeavesByte before i write
    leaves_alike base before i write same (inl outside) = inl outside
    leaves_alike base before i write same (inr is) = inr (is ∙ sym same)

-- whether a write leaves a byte as it was, and whether all of some do
one_leaves : (old : List ℕ) (i : ℕ) (write : ℕ × List ℕ)
    → LeavesByte old i write ⊎ (LeavesByte old i write → ⊥)
one_leaves old i write =
    elim (cases_lt i write.0) [
      | inl prefix ↦ inl (inl (inl prefix))
      | inr from ↦ elim (cases_lt i (write.0 + length write.1)) [
        | inl within ↦ elim (cases_eq (slice_index write.1 (i - write.0)) (slice_index old i)) [
          | inl same ↦ inl (inr same)
          | inr other ↦ inr (changed from within other)
        ]
        | inr following ↦ inl (inl (inr following))
      ]
    ]
  where
    changed : write.0 ≤ i → i < write.0 + length write.1
        → (slice_index write.1 (i - write.0) ≡ slice_index old i → ⊥)
        → LeavesByte old i write → ⊥
    changed from within other (inl (inl prefix)) = omega arith
    changed from within other (inl (inr following)) = omega arith
    changed from within other (inr same) = other same

all_leave : (old : List ℕ) (i : ℕ) (writes : List (ℕ × List ℕ))
    → AllLeaveByte old i writes ⊎ (AllLeaveByte old i writes → ⊥)
all_leave old i [] = inl tt
all_leave old i (write ∷ writes) = go (one_leaves old i write) (all_leave old i writes)
  where
    go : LeavesByte old i write ⊎ (LeavesByte old i write → ⊥)
        → AllLeaveByte old i writes ⊎ (AllLeaveByte old i writes → ⊥)
        → AllLeaveByte old i (write ∷ writes) ⊎ (AllLeaveByte old i (write ∷ writes) → ⊥)
    go (inl one) (inl all) = inl (one, all)
    go (inr changed) all = inr (λ both. changed both.0)
    go (inl one) (inr changed) = inr (λ both. changed both.1)

-- the first number where something holds, and the second where it doesn't
abbrev where_so : {P : Type 0} → P ⊎ (P → ⊥) → ℕ → ℕ → ℕ
where_so (inl holds) a b = a
where_so (inr fails) a b = b

so : {P : Type 0} (either : P ⊎ (P → ⊥)) (a b : ℕ) → P → where_so either a b ≡ a
so (inl holds) a b p = refl
so (inr fails) a b p = absurd (fails p)

-- The crash state before the newest write: as at the sync where all the older ones leave it so, and
-- elsewhere as the crash state after the newest write.
module _ (base crash_state : List ℕ) (writes : List (ℕ × List ℕ)) where
  abbrev byte_before : ℕ → ℕ
  byte_before i =
      where_so (all_leave base i writes) (slice_index base i) (slice_index crash_state i)

  abbrev crash_state_before : List ℕ
  crash_state_before = map byte_before (range_with_len 0 (length base))

  before_length : length crash_state_before ≡ length base
  before_length = length-map-range_with_len byte_before 0 (length base)

  before_at : (i : ℕ) → i < length base → slice_index crash_state_before i ≡ byte_before i
  before_at i there =
      get_or-map-range_with_len byte_before 0 (length base) i i 0 there (omega arith)

  before_is_one : IsBytes base → IsBytes crash_state → (i : ℕ) → byte_before i < 256
  before_is_one base_are crash_state_are i = go (all_leave base i writes)
    where
      go : (either : AllLeaveByte base i writes ⊎ (AllLeaveByte base i writes → ⊥))
          → where_so either (slice_index base i) (slice_index crash_state i) < 256
      go (inl all) = base_are i
      go (inr changed) = crash_state_are i

  before_are : IsBytes base → IsBytes crash_state → IsBytes crash_state_before
  before_are base_are crash_state_are i =
      elim (cases_lt i (length base)) [
        | inl there ↦ rw (before_at i there) (before_is_one base_are crash_state_are i)
        | inr past ↦ rw (get_or_past crash_state_before i 0 (omega (arith, before_length)))
            (omega arith)
      ]

  before_keeps : length base ≤ length crash_state → KeepsOthers writes base crash_state_before
  before_keeps longer = record {
    no_shorter = omega (arith, before_length);
    others = λ i there all. before_at i there
        ∙ so (all_leave base i writes) (slice_index base i) (slice_index crash_state i) all;
  }

  -- the newest write leaves a byte of it as it is: so it is in the crash state after it
  following_it : (write : ℕ × List ℕ) → KeepsOthers (write ∷ writes) base crash_state → (i : ℕ)
      → i < length base → LeavesByte crash_state_before i write
      → slice_index crash_state i ≡ slice_index crash_state_before i
  following_it write keeps i there leaves = go (all_leave base i writes) (before_at i there) leaves
    where
      go : (either : AllLeaveByte base i writes ⊎ (AllLeaveByte base i writes → ⊥))
          → slice_index crash_state_before i
          ≡ where_so either (slice_index base i) (slice_index crash_state i)
          → LeavesByte crash_state_before i write
          → slice_index crash_state i ≡ slice_index crash_state_before i
      go (inl all) is (inl outside) = keeps.others i there (inl outside, all) ∙ sym is
      go (inl all) is (inr same) = keeps.others i there (inr (same ∙ is), all) ∙ sym is
      go (inr changed) is leaves = sym is

  before_torn : (write : ℕ × List ℕ) → KeepsOthers (write ∷ writes) base crash_state
      → Torn write.0 write.1 crash_state_before crash_state
  before_torn write keeps =
      let longer = keeps.no_shorter in
      record {
        no_shorter = omega (arith, before_length);
        stays = λ i there same.
            let within : i < length base = omega (arith, before_length) in
            following_it write keeps i within (same_leaves crash_state_before i write there same);
      }

-- bytes that have the others as they were are a crash state
pub keeps_crash_state : (base : List ℕ) (write : ℕ × List ℕ) (writes : List (ℕ × List ℕ))
    (crash_state : List ℕ)
    → IsBytes base → IsBytes crash_state → KeepsOthers (write ∷ writes) base crash_state
    → IsCrashStateOf base (write ∷ writes) crash_state
keeps_crash_state base write [] crash_state base_are crash_state_are keeps =
    (crash_state_are, base, refl, keeps_torn write.0 write.1 base crash_state keeps)
keeps_crash_state base write (next ∷ writes) crash_state base_are crash_state_are keeps = (
  crash_state_are,
  crash_state_before base crash_state (next ∷ writes),
  keeps_crash_state base next writes (crash_state_before base crash_state (next ∷ writes)) base_are
      (before_are base crash_state (next ∷ writes) base_are crash_state_are)
      (before_keeps base crash_state (next ∷ writes) keeps.no_shorter),
  before_torn base crash_state (next ∷ writes) write keeps,
)
