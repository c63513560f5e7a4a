-- Where the reading of a file ends, its walk ends.
use Rattle.std.proofs.Common.{◌≡◌, ◌≢◌, ◌⊎◌, inl, inr, ℕ, zero, suc, ◌+◌, ◌<◌, ◌≤◌, ◌==◌, ◌||◌}
use Rattle.std.proofs.Common.{nat_lt, true, false, List, [], ◌∷◌, ◌++◌, length, slice_index, refl}
use Rattle.std.proofs.Common.{ap, ◌∙◌, subst, arith}
use Rattle.std.proofs.lemmas.Bool.{ne_eqb, lt-ltb, le-ltb, cases_lt}
use Rattle.journal_core.specs.Format.{IsRecordAt, AreRecordsAt, following, IsClosedAt, size_at}
use Rattle.journal_core.specs.Format.{records_before, IsBadLengthAt, IsCutShortAt}
use Rattle.journal_core.specs.Durable.{IsReading}
use Rattle.journal_core.specs.Walk.{FileEnd, FileWalk, at_commit_byte, at_bad_length, at_cut}
use Rattle.journal_core.specs.Walk.{ends_here}
use Rattle.journal_core.specs.Walk.{with_record, walk_from, walk_of}
use Rattle.journal_core.proofs.Records.{size_is, body_found, after_far}
use Rattle.journal_core.proofs.ReadOn.{header_length, record_within, are_within}

-- at a record
pub walk_record : (most : ℕ) (bytes : List ℕ) (place : ℕ) (body : List ℕ)
    → IsRecordAt bytes place body
    → walk_from (suc most) bytes place
    ≡ with_record body (walk_from most bytes (place + 5 + length body))
walk_record most bytes place body is =
    let there = record_within bytes place body is in
    let some = is.some in
    let few = is.few in
    let size : size_at bytes place ≡ length body = size_is bytes place body is in
    let inside : nat_lt place (length bytes) ≡ true = lt-ltb place (length bytes) (omega arith) in
    let opened : (slice_index bytes place == 0) ≡ false =
    ne_eqb (slice_index bytes place) 0 is.open_commit_byte in
    let head : nat_lt (length bytes) (place + 5) ≡ false =
    le-ltb (length bytes) (place + 5) (omega arith) in
    let above : (length body == 0) ≡ false =
    ne_eqb (length body) 0 (λ (none : length body ≡ 0). omega arith) in
    let below : nat_lt 131072 (length body) ≡ false = le-ltb 131072 (length body) (omega arith) in
    let whole : nat_lt (length bytes) (place + 5 + length body) ≡ false =
    le-ltb (length bytes) (place + 5 + length body) (omega arith) in
    rw (inside, opened, head, body_found bytes place body is, size, above, below, whole) refl

-- after the records that were read
walk_read : (most : ℕ) (bytes : List ℕ) (place : ℕ) (read : List (List ℕ)) (end : FileEnd)
    → AreRecordsAt bytes place read → length read < most
    → ((left : ℕ) → walk_from (suc left) bytes (following place read) ≡ ends_here end)
    → walk_from most bytes place ≡ record { records = read; end = end }
walk_read zero bytes place read end are few ends = absurd (omega arith)
walk_read (suc most) bytes place [] end are few ends = ends most
walk_read (suc most) bytes place (body ∷ read) end are few ends =
    walk_record most bytes place body are.0
    ∙ ap (with_record body) (walk_read most bytes (place + 5 + length body) read end are.1
    (omega arith) ends)

module _ (bytes : List ℕ) (read : List (List ℕ)) (place : ℕ) (are : AreRecordsAt bytes 16 read)
    (offset_is : place ≡ following 16 read) (some : 16 ≤ length bytes) where
  few : length read < length bytes
  few = let far = after_far 16 read in let within =
      are_within bytes 16 read are some in omega arith

  ends_with : (end : FileEnd) → ((left : ℕ) → walk_from (suc left) bytes place ≡ ends_here end)
      → walk_of bytes ≡ record { records = read; end = end }
  unfolding walk_of
  ends_with end ends = walk_read (length bytes) bytes 16 read end are few
      (λ left. subst (λ (n : ℕ). walk_from (suc left) bytes n ≡ ends_here end) offset_is
      (ends left))

  pub walk_closed : IsClosedAt bytes place → walk_of bytes ≡ record {
    records =
        read;
    end = at_commit_byte;
  }
  walk_closed is = ends_with at_commit_byte (λ left.
      let inside : nat_lt place (length bytes) ≡ true = lt-ltb place (length bytes) is.there in
      rw (inside, is.shut) refl)

  pub walk_bad : IsBadLengthAt bytes place → walk_of bytes ≡ record {
    records = read;
    end =
        at_bad_length place;
  }
  walk_bad is = ends_with (at_bad_length place) (λ left.
      let there = is.there in
      let inside : nat_lt place (length bytes) ≡ true = lt-ltb place (length bytes) (omega arith) in
      let opened : (slice_index bytes place == 0) ≡ false =
      ne_eqb (slice_index bytes place) 0 is.open_commit_byte in
      let head : nat_lt (length bytes) (place + 5) ≡ false =
      le-ltb (length bytes) (place + 5) (omega arith) in
      let bad : ((size_at bytes place == 0) || nat_lt 131072 (size_at bytes place)) ≡ true =
      bad_size (size_at bytes place) is.bad in
      rw (inside, opened, head, bad) refl)
    where
      bad_size : (n : ℕ) → (n ≡ 0) ⊎ (131072 < n) → ((n == 0) || nat_lt 131072 n) ≡ true
      bad_size n (inl none) = rw none refl
      bad_size n (inr many) =
          let zero_not : (n == 0) ≡ false = ne_eqb n 0 (λ (none : n ≡ 0). omega arith) in
          let above : nat_lt 131072 n ≡ true = lt-ltb 131072 n many in
          rw (zero_not, above) refl

  pub walk_cut : IsCutShortAt bytes place → walk_of bytes ≡ record {
    records = read;
    end =
        at_cut place;
  }
  walk_cut is = ends_with (at_cut place) (λ left. elim is [
    | inl before ↦ outside before left
    | inr within ↦ inside within.0 within.1 left
  ])
    where
      outside : length bytes ≤ place → (left : ℕ)
          → walk_from (suc left) bytes place ≡ ends_here (at_cut place)
      outside before left =
          let test : nat_lt place (length bytes) ≡ false = le-ltb place (length bytes) before in
          rw test refl

      short_head : slice_index bytes place ≢ 0 → place < length bytes → length bytes < place + 5
          → (left : ℕ) → walk_from (suc left) bytes place ≡ ends_here (at_cut place)
      short_head opened_is there short left =
          let test : nat_lt place (length bytes) ≡ true = lt-ltb place (length bytes) there in
          let opened : (slice_index bytes place == 0) ≡ false =
          ne_eqb (slice_index bytes place) 0 opened_is in
          let head : nat_lt (length bytes) (place + 5) ≡ true =
          lt-ltb (length bytes) (place + 5) short in
          rw (test, opened, head) refl

      short_body : slice_index bytes place ≢ 0 → place < length bytes → place + 5 ≤ length bytes
          → 1 ≤ size_at bytes place → size_at bytes place ≤ 131072
          → length bytes < place + 5 + size_at bytes place → (left : ℕ)
          → walk_from (suc left) bytes place ≡ ends_here (at_cut place)
      short_body opened_is there long_head some few short left =
          let test : nat_lt place (length bytes) ≡ true = lt-ltb place (length bytes) there in
          let opened : (slice_index bytes place == 0) ≡ false =
          ne_eqb (slice_index bytes place) 0 opened_is in
          let head : nat_lt (length bytes) (place + 5) ≡ false =
          le-ltb (length bytes) (place + 5) long_head in
          let above : (size_at bytes place == 0) ≡ false =
          ne_eqb (size_at bytes place) 0 (λ (none : size_at bytes place ≡ 0). omega arith) in
          let below : nat_lt 131072 (size_at bytes place) ≡ false =
          le-ltb 131072 (size_at bytes place) few in
          let cut : nat_lt (length bytes) (place + 5 + size_at bytes place) ≡ true =
          lt-ltb (length bytes) (place + 5 + size_at bytes place) short in
          rw (test, opened, head, above, below, cut) refl

      inside : slice_index bytes place ≢ 0 → (length bytes < place + 5) ⊎ ((1 ≤ size_at bytes place)
          × (size_at bytes place ≤ 131072) × (length bytes < place + 5 + size_at bytes place))
          → (left : ℕ) → walk_from (suc left) bytes place ≡ ends_here (at_cut place)
      inside opened_is within left = elim (cases_lt place (length bytes)) [
        | inr before ↦ outside before left
        | inl there ↦ elim (cases_lt (length bytes) (place + 5)) [
          | inl short ↦ short_head opened_is there short left
          | inr long_head ↦ elim within [
            | inl short ↦ short_head opened_is there short left
            | inr cut ↦ short_body opened_is there long_head cut.0 cut.1 cut.2 left
          ]
        ]
      ]

-- the records of a walk begin with those that stand there
walk_prefix : (most : ℕ) (bytes : List ℕ) (place : ℕ) (read : List (List ℕ))
    → AreRecordsAt bytes place read → length read ≤ most
    → (rest : List (List ℕ)) × ((walk_from most bytes place).records ≡ read ++ rest)
walk_prefix most bytes place [] are few = ((walk_from most bytes place).records, refl)
walk_prefix zero bytes place (body ∷ read) are few = absurd (omega arith)
walk_prefix (suc most) bytes place (body ∷ read) are few =
    let later = walk_prefix most bytes (place + 5 + length body) read are.1 (omega arith) in (
      later.0,
      ap (λ (w : FileWalk). w.records) (walk_record most bytes place body are.0)
          ∙ ap (λ (list : List (List ℕ)). body ∷ list) later.1,
    )

-- the records that were read are the first of the whole records
pub records_begin : (bytes : List ℕ) (crash_states : List ℕ → Type 0) (place : ℕ)
    → IsReading bytes crash_states place
    → (rest : List (List ℕ)) × ((walk_of bytes).records ≡ records_before bytes place ++ rest)
unfolding walk_of
records_begin bytes crash_states place is =
    let read = records_before bytes place in
    let far = after_far 16 read in
    let within = are_within bytes 16 read is.holds (header_length bytes is.begins) in
    walk_prefix (length bytes) bytes 16 read is.holds (omega arith)
