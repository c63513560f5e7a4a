-- Records depend on the bytes up to their end alone, and are found again from the bytes.
use Rattle.std.proofs.Common.{◌≡◌, ◌≢◌, ℕ, zero, suc, ◌+◌, ◌-◌, ◌<◌, ◌≤◌, ◌==◌, nat_lt, true, false}
use Rattle.std.proofs.Common.{List, [], ◌∷◌, ◌++◌, length, take, drop, get_or, slice_index, refl}
use Rattle.std.proofs.Common.{ap, sym, ◌∙◌, arith}
use Rattle.std.specs.Int.{w32, to_be_bytes, from_be_bytes}
use Rattle.std.proofs.lemmas.List.{take-take, drop-take, drop-drop, get_or-take, length-take}
use Rattle.std.proofs.lemmas.List.{length-drop}
use Rattle.std.proofs.lemmas.Bool.{ne_eqb, lt-ltb, le-ltb}
use Rattle.std.proofs.lemmas.Nat.{from_be_bytes-to_be_bytes_4}
use Rattle.disk_core.specs.Disk.{part}
use Rattle.journal_core.specs.Format.{header, IsRecordAt, AreRecordsAt, following, IsClosedAt}
use Rattle.journal_core.specs.Format.{Represents, size_at, body_at, records_from, records_of}
use Rattle.journal_core.specs.Format.{records_to, records_before}

part_of_prefix : (n place count : ℕ) (bytes : List ℕ) → place + count ≤ n
    → part place count bytes ≡ drop place (take (place + count) (take n bytes))
part_of_prefix n place count bytes within =
    sym (drop-take place count bytes) ∙ ap (drop place)
    (sym (take-take (place + count) n bytes within))

-- of two files that are the same up to some length: a part
pub part_kept : (n place count : ℕ) (old new : List ℕ) → take n new ≡ take n old → place + count ≤ n
    → part place count new ≡ part place count old
part_kept n place count old new same within =
    part_of_prefix n place count new within
    ∙ ap (λ (prefix : List ℕ). drop place (take (place + count) prefix)) same
    ∙ sym (part_of_prefix n place count old within)

-- a byte
pub byte_kept : (n place : ℕ) (old new : List ℕ) → take n new ≡ take n old → place < n
    → slice_index new place ≡ slice_index old place
byte_kept n place old new same within =
    sym (get_or-take n new place 0 within) ∙ ap (λ (prefix : List ℕ). get_or prefix place 0) same
    ∙ get_or-take n old place 0 within

-- a record
pub record_kept : (n place : ℕ) (body old new : List ℕ) → take n new ≡ take n old
    → place + 5 + length body ≤ n
    → IsRecordAt old place body → IsRecordAt new place body
record_kept n place body old new same within is = record {
  some = is.some;
  few = is.few;
  open_commit_byte =
      λ shut. is.open_commit_byte (sym (byte_kept n place old new same (omega arith)) ∙ shut);
  size = part_kept n (place + 1) 4 old new same (omega arith) ∙ is.size;
  body_is = part_kept n (place + 5) (length body) old new same within ∙ is.body_is;
}

-- records have at least 0 bytes
pub after_later : (place : ℕ) (records : List (List ℕ)) → place ≤ following place records
after_later place [] = omega arith
after_later place (body ∷ bodies) = let later =
    after_later (place + 5 + length body) bodies in omega arith

pub after_far : (place : ℕ) (records : List (List ℕ))
    → place + length records ≤ following place records
after_far place [] = omega arith
after_far place (body ∷ bodies) = let later =
    after_far (place + 5 + length body) bodies in omega arith

pub following-append : (place : ℕ) (records : List (List ℕ)) (body : List ℕ)
    → following place (records ++ body ∷ []) ≡ following place records + 5 + length body
following-append place [] body = refl
following-append place (first ∷ records) body =
    following-append (place + 5 + length first) records body

-- the records that end within the same prefix
pub records_kept : (n place : ℕ) (records : List (List ℕ)) (old new : List ℕ)
    → take n new ≡ take n old → following place records ≤ n
    → AreRecordsAt old place records → AreRecordsAt new place records
records_kept n place [] old new same within are = tt
records_kept n place (body ∷ bodies) old new same within are = (
  record_kept n place body old new same (let later =
      after_later (place + 5 + length body) bodies in omega arith) are.0,
  records_kept n (place + 5 + length body) bodies old new same within are.1,
)

-- a closed commit byte
pub closed_kept : (n place : ℕ) (old new : List ℕ) → take n new ≡ take n old → place < n
    → n ≤ length new → IsClosedAt old place → IsClosedAt new place
closed_kept n place old new same within there is = record {
  there = omega arith;
  shut = byte_kept n place old new same within ∙ is.shut;
}

-- the header
pub header_kept : (n : ℕ) (old new : List ℕ) → take n new ≡ take n old → 16 ≤ n
    → take 16 old ≡ header → take 16 new ≡ header
header_kept n old new same within is = part_kept n 0 16 old new same (omega arith) ∙ is

-- the journal as a whole
pub stands_kept : (n : ℕ) (records : List (List ℕ)) (old new : List ℕ) → take n new ≡ take n old
    → following 16 records < n → n ≤ length new
    → Represents old records → Represents new records
stands_kept n records old new same within there is = record {
  begins = header_kept n old new same (let later =
      after_later 16 records in omega arith) is.begins;
  holds = records_kept n 16 records old new same (omega arith) is.holds;
  ends = closed_kept n (following 16 records) old new same within there is.ends;
}

-- one record more
pub records-append : (bytes : List ℕ) (place : ℕ) (records : List (List ℕ)) (body : List ℕ)
    → AreRecordsAt bytes place records
    → IsRecordAt bytes (following place records) body
    → AreRecordsAt bytes place (records ++ body ∷ [])
records-append bytes place [] body are is = (is, tt)
records-append bytes place (first ∷ records) body are is =
    (are.0, records-append bytes (place + 5 + length first) records body are.1 is)

-- what is read at a record
pub size_is : (bytes : List ℕ) (place : ℕ) (body : List ℕ) → IsRecordAt bytes place body
    → size_at bytes place ≡ length body
size_is bytes place body is =
    ap (from_be_bytes w32) is.size ∙ from_be_bytes-to_be_bytes_4 (length body) (let few =
    is.few in omega arith)

pub body_found : (bytes : List ℕ) (place : ℕ) (body : List ℕ) → IsRecordAt bytes place body
    → body_at bytes place ≡ body
body_found bytes place body is = ap (λ (n : ℕ). part (place + 5) n bytes)
    (size_is bytes place body is) ∙ is.body_is

commit_byte_open : (bytes : List ℕ) (place : ℕ) (body : List ℕ) → IsRecordAt bytes place body
    → (slice_index bytes place == 0) ≡ false
commit_byte_open bytes place body is = ne_eqb (slice_index bytes place) 0 is.open_commit_byte

pub records_from-are : (most : ℕ) (bytes : List ℕ) (place : ℕ) (records : List (List ℕ))
    → AreRecordsAt bytes place records
    → IsClosedAt bytes (following place records) → length records ≤ most
    → records_from most bytes place ≡ records
records_from-are zero bytes place [] are ends few = refl
records_from-are zero bytes place (body ∷ bodies) are ends few = absurd (omega arith)
records_from-are (suc most) bytes place [] are ends few = rw ends.shut refl
records_from-are (suc most) bytes place (body ∷ bodies) are ends few =
    let next : records_from most bytes (place + 5 + length body) ≡ bodies
    = records_from-are most bytes (place + 5 + length body) bodies are.1 ends (omega arith) in
    rw (
      commit_byte_open bytes place body are.0,
      body_found bytes place body are.0,
      size_is bytes place body are.0,
    ) (ap (λ (rest : List (List ℕ)). body ∷ rest) next)

-- a file represents one list at most
pub records_of-stands : (bytes : List ℕ) (records : List (List ℕ)) → Represents bytes records
    → records_of bytes ≡ records
records_of-stands bytes records is =
    records_from-are (length bytes) bytes 16 records is.holds is.ends
    (let there = is.ends.there in let far = after_far 16 records in omega arith)

pub records_to-are : (most : ℕ) (bytes : List ℕ) (place : ℕ) (records : List (List ℕ)) (end : ℕ)
    → AreRecordsAt bytes place records
    → end ≡ following place records → length records ≤ most
    → records_to most bytes place end ≡ records
records_to-are zero bytes place [] end are is few = refl
records_to-are zero bytes place (body ∷ bodies) end are is few = absurd (omega arith)
records_to-are (suc most) bytes place [] end are is few =
    let none : nat_lt place end ≡ false = le-ltb place end (omega arith) in rw none refl
records_to-are (suc most) bytes place (body ∷ bodies) end are is few =
    let more : nat_lt place end ≡ true =
    lt-ltb place end (let later = after_later (place + 5 + length body)
    bodies in omega arith) in
    let next : records_to most bytes (place + 5 + length body) end ≡ bodies
    = records_to-are most bytes (place + 5 + length body) bodies end are.1 is (omega arith) in
    rw (more, body_found bytes place body are.0, size_is bytes place body are.0)
    (ap (λ (rest : List (List ℕ)). body ∷ rest) next)

-- the records before the offset after them
pub records_before-are : (bytes : List ℕ) (records : List (List ℕ)) (place : ℕ)
    → AreRecordsAt bytes 16 records → place ≡ following 16 records
    → place ≤ length bytes → records_before bytes place ≡ records
records_before-are bytes records place are is within =
    records_to-are (length bytes) bytes 16 records place are is (let far =
    after_far 16 records in omega arith)

-- what was read at an offset is the record there
pub record_read : (bytes : List ℕ) (place count : ℕ) (buffer : List ℕ) → slice_index bytes place ≢ 0
    → part (place + 1) 4 bytes ≡ to_be_bytes w32 count
    → take count buffer ≡ part (place + 5) count bytes → 1 ≤ count → count ≤ 131072
    → place + 5 + count ≤ length bytes
    → IsRecordAt bytes place (take count buffer)
record_read bytes place count buffer opened size body some few there =
    let whole : length (take count buffer) ≡ count = ap length body
    ∙ (simp (length-take, length-drop) (omega arith)) in
    record {
      some = omega arith;
      few = omega arith;
      open_commit_byte = opened;
      size = size ∙ ap (to_be_bytes w32) (sym whole);
      body_is = ap (λ (n : ℕ). part (place + 5) n bytes) whole ∙ sym body;
    }

-- the body after some of the records
pub body_there : (bytes : List ℕ) (place : ℕ) (prefix : List (List ℕ)) (body : List ℕ)
    (back : List (List ℕ))
    → AreRecordsAt bytes place (prefix ++ body ∷ back)
    → part (following place prefix + 5) (length body) bytes ≡ body
body_there bytes place [] body back are = are.0.body_is
body_there bytes place (first ∷ prefix) body back are =
    body_there bytes (place + 5 + length first) prefix body back are.1

pub length_there : (bytes : List ℕ) (place : ℕ) (prefix : List (List ℕ)) (body : List ℕ)
    (back : List (List ℕ))
    → AreRecordsAt bytes place (prefix ++ body ∷ back) → part (following place prefix + 1) 4 bytes
    ≡ to_be_bytes w32 (length body)
length_there bytes place [] body back are = are.0.size
length_there bytes place (first ∷ prefix) body back are =
    length_there bytes (place + 5 + length first) prefix body back are.1

-- a part of it
pub part_there : (bytes : List ℕ) (place from count : ℕ) (body : List ℕ)
    → part place (length body) bytes ≡ body → from + count ≤ length body
    → part (place + from) count bytes ≡ part from count body
part_there bytes place from count body is within =
    let split : length body ≡ from + (length body - from) = omega arith in
    let whole : drop from body ≡ take (length body - from) (drop from (drop place bytes))
    = ap (drop from) (sym is) ∙ ap (λ (n : ℕ). drop from (take n (drop place bytes))) split
    ∙ drop-take from (length body - from) (drop place bytes) in
    sym (ap (take count) whole ∙ take-take count (length body - from) (drop from (drop place bytes))
    (omega arith)
    ∙ ap (take count) (drop-drop from place bytes))
