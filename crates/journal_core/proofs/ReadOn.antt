-- A file that is read record by record: one record more, its end, and what can't be.
use Rattle.std.proofs.Common.{◌≡◌, ◌⊎◌, inl, inr, ℕ, ◌+◌, ◌-◌, ◌≤◌, List, [], ◌∷◌, ◌++◌, length}
use Rattle.std.proofs.Common.{take, ap, sym, ◌∙◌, subst, arith}
use Rattle.std.proofs.lemmas.List.{length-take, length-drop}
use Rattle.disk_core.specs.Disk.{part, Only, NoNew}
use Rattle.journal_core.specs.Format.{header, IsRecordAt, AreRecordsAt, following, IsClosedAt}
use Rattle.journal_core.specs.Format.{Represents, size_at, records_of, records_before}
use Rattle.journal_core.specs.Format.{IsBadLengthAt}
use Rattle.journal_core.specs.Format.{IsCutShortAt}
use Rattle.journal_core.specs.Durable.{IsDurable, IsReading}
use Rattle.journal_core.proofs.Records.{records-append, following-append, records_before-are}
use Rattle.journal_core.proofs.Records.{records_of-stands, size_is, body_found}

-- a record lies within the bytes
pub record_within : (bytes : List ℕ) (place : ℕ) (body : List ℕ) → IsRecordAt bytes place body
    → place + 5 + length body ≤ length bytes
record_within bytes place body is =
    let some = is.some in
    let found : length (part (place + 5) (length body) bytes) ≡ length body =
    ap length is.body_is in
    let there : length (part (place + 5) (length body) bytes) ≤ length bytes - (place + 5) =
    simp (length-take, length-drop) (omega arith) in
    omega arith

-- records lie within the bytes
pub are_within : (bytes : List ℕ) (place : ℕ) (read : List (List ℕ)) → AreRecordsAt bytes place read
    → place ≤ length bytes → following place read ≤ length bytes
are_within bytes place [] are there = there
are_within bytes place (body ∷ read) are there =
    are_within bytes (place + 5 + length body) read are.1 (record_within bytes place body are.0)

-- a file that begins with the header has its sixteen bytes
pub header_length : (bytes : List ℕ) → take 16 bytes ≡ header → 16 ≤ length bytes
header_length bytes is =
    let whole : length (take 16 bytes) ≡ 16 = ap length is in
    let there : length (take 16 bytes) ≤ length bytes = simp length-take (omega arith) in
    omega arith

-- one record more
module _ (bytes : List ℕ) (crash_states : List ℕ → Type 0) (place : ℕ)
    (is : IsReading bytes crash_states place)
    (body : List ℕ) (found : IsRecordAt bytes place body) where
  more_are : AreRecordsAt bytes 16 (records_before bytes place ++ body ∷ [])
  more_are = records-append bytes 16 (records_before bytes place) body is.holds
      (subst (λ (n : ℕ). IsRecordAt bytes n body) is.offset_is found)

  more_offset : place + 5 + length body ≡ following 16 (records_before bytes place ++ body ∷ [])
  more_offset = ap (λ (n : ℕ). n + 5 + length body) is.offset_is
      ∙ sym (following-append 16 (records_before bytes place) body)

  pub more_list : records_before bytes (place + 5 + length body) ≡ records_before bytes place
      ++ body ∷ []
  more_list = records_before-are bytes _ (place + 5 + length body) more_are more_offset
      (record_within bytes place body found)

  pub more_read : (after : List ℕ → Type 0) → Only bytes after
      → IsReading bytes after (place + 5 + length body)
  more_read after only = record {
    begins = is.begins;
    holds = subst (λ (list : List (List ℕ)). AreRecordsAt bytes 16 list) (sym more_list) more_are;
    offset_is = more_offset ∙ ap (following 16) (sym more_list);
    only = only;
  }

-- the same offset, later
pub read_same : (bytes : List ℕ) (before after : List ℕ → Type 0) (place : ℕ) → NoNew before after
    → IsReading bytes before place → IsReading bytes after place
read_same bytes before after place no_new is = record {
  begins = is.begins;
  holds =
      is.holds;
  offset_is = is.offset_is;
  only = λ c left. is.only c (no_new c left);
}

-- at the closed commit byte
pub read_all : (bytes : List ℕ) (crash_states : List ℕ → Type 0) (place : ℕ)
    → IsReading bytes crash_states place → IsClosedAt bytes place
    → Represents bytes (records_before bytes place)
read_all bytes crash_states place is ends = record {
  begins = is.begins;
  holds = is.holds;
  ends = subst (λ (n : ℕ). IsClosedAt bytes n) is.offset_is ends;
}

pub is_durable : (bytes : List ℕ) (crash_states : List ℕ → Type 0) (place : ℕ)
    → IsReading bytes crash_states place
    → IsClosedAt bytes place → IsDurable bytes crash_states (place + 1)
is_durable bytes crash_states place is ends =
    let stands = read_all bytes crash_states place is ends in
    let same : records_of bytes ≡ records_before bytes place = records_of-stands bytes _ stands in
    record {
      stands = subst (λ (list : List (List ℕ)). Represents bytes list) (sym same) stands;
      end_is = ap (λ (n : ℕ). n + 1) (is.offset_is ∙ ap (following 16) (sym same));
      only = is.only;
    }

-- After some of the records of a file stands its next record, or the closed commit byte.
pub sound_after : (bytes : List ℕ) (place : ℕ) (read list : List (List ℕ))
    → AreRecordsAt bytes place read → AreRecordsAt bytes place list
    → IsClosedAt bytes (following place list)
    → IsClosedAt bytes (following place read) ⊎ ((body : List ℕ)
    × IsRecordAt bytes (following place read) body)
sound_after bytes place [] [] are all ends = inl ends
sound_after bytes place [] (next ∷ list) are all ends = inr (next, all.0)
sound_after bytes place (body ∷ read) [] are all ends = absurd (are.0.open_commit_byte ends.shut)
sound_after bytes place (body ∷ read) (next ∷ list) are all ends =
    let same : next ≡ body = sym (body_found bytes place next all.0)
    ∙ body_found bytes place body are.0 in
    let rest : AreRecordsAt bytes (place + 5 + length body) list
    = subst (λ (b : List ℕ). AreRecordsAt bytes (place + 5 + length b) list) same all.1 in
    let rest_ends : IsClosedAt bytes (following (place + 5 + length body) list)
    = subst (λ (b : List ℕ). IsClosedAt bytes (following (place + 5 + length b) list)) same ends in
    sound_after bytes (place + 5 + length body) read list are.1 rest rest_ends

never_bad : (bytes : List ℕ) (place : ℕ) → IsClosedAt bytes place ⊎ ((body : List ℕ)
    × IsRecordAt bytes place body) → IsBadLengthAt bytes place → ⊥
never_bad bytes place (inl ends) bad = bad.open_commit_byte ends.shut
never_bad bytes place (inr (body, is)) bad =
    let size : size_at bytes place ≡ length body = size_is bytes place body is in
    let some = is.some in
    let few = is.few in
    elim bad.bad [ inl none ↦ omega arith | inr many ↦ omega arith ]

never_cut : (bytes : List ℕ) (place : ℕ) → IsClosedAt bytes place ⊎ ((body : List ℕ)
    × IsRecordAt bytes place body) → IsCutShortAt bytes place → ⊥
never_cut bytes place (inl ends) (inl before) = let there = ends.there in omega arith
never_cut bytes place (inl ends) (inr within) = within.0 ends.shut
never_cut bytes place (inr (body, is)) (inl before) = let there =
    record_within bytes place body is in omega arith
never_cut bytes place (inr (body, is)) (inr within) =
    let size : size_at bytes place ≡ length body = size_is bytes place body is in
    let there = record_within bytes place body is in
    elim within.1 [ inl short ↦ omega arith | inr cut ↦ (let c = cut.2 in omega arith) ]

-- A file that represents records is refused nowhere.
module _ (bytes : List ℕ) (crash_states : List ℕ → Type 0) (place : ℕ)
    (is : IsReading bytes crash_states place)
    (list : List (List ℕ)) (stands : Represents bytes list) where
  sound_here : IsClosedAt bytes place ⊎ ((body : List ℕ) × IsRecordAt bytes place body)
  sound_here = subst (λ (n : ℕ). IsClosedAt bytes n ⊎ ((body : List ℕ) × IsRecordAt bytes n body))
      (sym is.offset_is)
      (sound_after bytes 16 (records_before bytes place) list is.holds stands.holds stands.ends)

  pub not_bad : IsBadLengthAt bytes place → ⊥
  not_bad = never_bad bytes place sound_here

  pub not_cut : IsCutShortAt bytes place → ⊥
  not_cut = never_cut bytes place sound_here
