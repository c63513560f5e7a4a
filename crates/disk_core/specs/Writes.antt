-- Laws of a write: what is written whole, not at all, or in part is one of its torn crash states.
-- Bytes over bytes are bytes.
use Rattle.std.specs.Prelude.{◌≡◌, ℕ, ◌+◌, ◌-◌, ◌<◌, ◌≤◌, min, max, ◌++◌, length, take, drop}
use Rattle.std.specs.Prelude.{slice_index, refl}
use Rattle.std.proofs.Common.{◌∙◌, ap, arith, inl, inr, subst, sym}
use Rattle.std.proofs.lemmas.List.{length-take, length-drop, length-append, get_or-take}
use Rattle.std.proofs.lemmas.List.{get_or-drop, get_or_append_left, get_or-append-add}
use Rattle.std.proofs.lemmas.List.{get_or-append_right}
use Rattle.std.proofs.lemmas.Bool.{cases_lt}
use Rattle.byte_formats.specs.Types.{Text}
use Rattle.byte_formats.specs.Offsets.{IsBytes}
use Rattle.byte_formats.proofs.Steps.{IsBytes-take, IsBytes-drop}
use Rattle.disk_core.specs.Disk.{overwritten, Torn}

-- nothing of it
pub torn_none : (place : ℕ) (piece bytes : Text) → Torn place piece bytes bytes
torn_none place piece bytes = record { no_shorter = omega arith; stays = λ i there same. refl }

pub length-overwritten : (place : ℕ) (piece old : Text) → place ≤ length old
    → length (overwritten place piece old) ≡ max (place + length piece) (length old)
length-overwritten place piece old within =
    simp (length-append, length-take, length-drop) (omega arith)

-- no byte is lost
over_no_shorter : (place : ℕ) (piece old : Text)
    → length old ≤ length (overwritten place piece old)
over_no_shorter place piece old = simp (length-append, length-take, length-drop) (omega arith)

-- a byte before the range
pub over_prefix : (place : ℕ) (piece old : Text) (i : ℕ) → i < length old → i < place
    → slice_index (overwritten place piece old) i ≡ slice_index old i
over_prefix place piece old i there prefix =
    let kept : i < length (take place old) = simp length-take (omega arith) in
    let both : i < length (take place old ++ piece) = simp length-append (omega arith) in
    get_or_append_left (take place old ++ piece) (drop (place + length piece) old) 0 i both
    ∙ get_or_append_left (take place old) piece 0 i kept ∙ get_or-take place old i 0 prefix

-- one in it
pub over_within : (place : ℕ) (piece old : Text) (i : ℕ) → i < length old → place ≤ i
    → i < place + length piece
    → slice_index (overwritten place piece old) i ≡ slice_index piece (i - place)
over_within place piece old i there from within =
    let prefix : length (take place old) ≡ place = simp length-take (omega arith) in
    let both : i < length (take place old ++ piece) = simp length-append (omega arith) in
    get_or_append_left (take place old ++ piece) (drop (place + length piece) old) 0 i both
    ∙ get_or-append_right (take place old) piece place i 0 prefix from

-- one after it
pub over_after : (place : ℕ) (piece old : Text) (i : ℕ) → i < length old
    → place + length piece ≤ i
    → slice_index (overwritten place piece old) i ≡ slice_index old i
over_after place piece old i there following =
    let prefix : length (take place old ++ piece) ≡ place + length piece
    = simp (length-append, length-take) (omega arith) in
    let split : (place + length piece) + (i - (place + length piece)) ≡ i = omega arith in
    get_or-append_right (take place old ++ piece) (drop (place + length piece) old)
    (place + length piece) i 0 prefix following
    ∙ get_or-drop (place + length piece) old (i - (place + length piece)) 0
    ∙ ap (λ (n : ℕ). slice_index old n) split

-- Other bytes over the prefix of the range, or over all of it: none over one that is written as it
-- was.
pub torn_other : (place : ℕ) (piece other old : Text) → length other ≤ length piece
    → ((k : ℕ) → k < length other → place + k < length old
    → slice_index piece k ≡ slice_index old (place + k)
    → slice_index other k ≡ slice_index old (place + k))
    → Torn place piece old (overwritten place other old)
torn_other place piece other old few same_there = record {
  no_shorter = over_no_shorter place other old;
  stays = λ i there same. elim (cases_lt i place) [
    | inl prefix ↦ over_prefix place other old i there prefix
    | inr from ↦ elim (cases_lt i (place + length other)) [
      | inl within ↦
          let split : place + (i - place) ≡ i = omega arith in
          let at : slice_index old (place + (i - place)) ≡ slice_index old i
          = ap (λ (n : ℕ). slice_index old n) split in
          over_within place other old i there from within
          ∙ same_there (i - place) (omega arith) (omega arith)
          (sym (over_within place piece old i there from (omega arith)) ∙ same ∙ sym at) ∙ at
      | inr following ↦ over_after place other old i there following
    ]
  ];
}

-- its prefix
pub torn_prefix : (place count : ℕ) (piece old : Text) → count ≤ length piece
    → Torn place piece old (overwritten place (take count piece) old)
torn_prefix place count piece old few =
    torn_other place piece (take count piece) old (simp length-take (omega arith))
    (λ k within there same.
    let size : length (take count piece) ≡ min count (length piece) = length-take count piece in
    get_or-take count piece k 0 (omega arith) ∙ same)

-- all of it
pub torn_all : (place : ℕ) (piece old : Text) → Torn place piece old (overwritten place piece old)
torn_all place piece old = record {
  no_shorter = over_no_shorter place piece old;
  stays = λ i there same. same;
}

-- other bytes after the end
pub torn_longer : (place : ℕ) (piece old new more : Text) → Torn place piece old new
    → Torn place piece old (new ++ more)
torn_longer place piece old new more torn = record {
  no_shorter = let longer = torn.no_shorter in simp length-append (omega arith);
  stays = λ i there same.
      let longer = torn.no_shorter in
      get_or_append_left new more 0 i (omega arith) ∙ torn.stays i there same;
}

IsBytes-append : (a b : Text) → IsBytes a → IsBytes b → IsBytes (a ++ b)
IsBytes-append a b prefix back i =
    elim (cases_lt i (length a)) [
      | inl lt ↦ rw (get_or_append_left a b 0 i lt) (prefix i)
      | inr le ↦
          let split : length a + (i - length a) ≡ i = omega arith in
          subst (λ (n : ℕ). slice_index (a ++ b) n < 256) split
          (rw (get_or-append-add a b (i - length a) 0) (back (i - length a)))
    ]

pub IsBytes-overwritten : (place : ℕ) (piece old : Text) → IsBytes piece → IsBytes old
    → IsBytes (overwritten place piece old)
IsBytes-overwritten place piece old new are =
    IsBytes-append (take place old ++ piece) (drop (place + length piece) old)
    (IsBytes-append (take place old) piece (IsBytes-take place old are) new)
    (IsBytes-drop (place + length piece) old are)
