-- The bytes of a journal: a header of sixteen bytes, and records. A record is a commit byte of one
-- byte, the length of its body in four bytes, the highest first, and the body. A commit byte of 0
-- is closed and ends the records; any other is open.
use Rattle.std.specs.Prelude.{◌≡◌, ◌≢◌, ◌⊎◌, ℕ, zero, suc, ◌+◌, ◌^◌, ◌<◌, ◌≤◌, ◌==◌, nat_lt}
use Rattle.std.specs.Prelude.{if◌then◌else◌, List, [], ◌∷◌, ◌++◌, length, take, slice_index}
use Rattle.std.specs.Int.{w32, to_be_bytes, from_be_bytes}
use Rattle.byte_formats.specs.Types.{Text}
use Rattle.disk_core.specs.Disk.{part}

-- `mtc-journal/v1`, 10, 0
abbrev pub header : Text
header = 109 ∷ 116 ∷ 99 ∷ 45 ∷ 106 ∷ 111 ∷ 117 ∷ 114 ∷ 110 ∷ 97 ∷ 108 ∷ 47 ∷ 118 ∷ 49 ∷ 10 ∷ 0 ∷ []

-- a journal file has at most so many bytes
abbrev pub most_bytes : ℕ
most_bytes = 2 ^ 33

-- at this offset stand an open commit byte, the length of the body and the body
pub record IsRecordAt (bytes : Text) (place : ℕ) (body : Text) : Type 0 where
  pub some : 1 ≤ length body
  pub few : length body ≤ 131072
  pub open_commit_byte : slice_index bytes place ≢ 0
  pub size : part (place + 1) 4 bytes ≡ to_be_bytes w32 (length body)
  pub body_is : part (place + 5) (length body) bytes ≡ body

-- from this offset on stand these records, one after the other
abbrev pub AreRecordsAt : Text → ℕ → List Text → Type 0
AreRecordsAt bytes place [] = Unit {0}
AreRecordsAt bytes place (body ∷ bodies) = IsRecordAt bytes place body
    × AreRecordsAt bytes (place + 5 + length body) bodies

-- the offset after records that begin at an offset
abbrev pub following : ℕ → List Text → ℕ
following place [] = place
following place (body ∷ bodies) = following (place + 5 + length body) bodies

-- The end of a journal with these records: the offset after the closed commit byte that ends them.
-- The next body would begin four bytes further on.
abbrev pub end_offset : List Text → ℕ
end_offset records = following 16 records + 1

-- at this offset stands a closed commit byte
pub record IsClosedAt (bytes : Text) (place : ℕ) : Type 0 where
  pub there : place < length bytes
  pub shut : slice_index bytes place ≡ 0

-- The bytes are a journal with these records: the header, the records and a closed commit byte.
-- Anything may follow.
pub record Represents (bytes : Text) (records : List Text) : Type 0 where
  pub begins : take 16 bytes ≡ header
  pub holds : AreRecordsAt bytes 16 records
  pub ends : IsClosedAt bytes (following 16 records)

-- the bytes are a journal with these records, or with these and one more
abbrev pub RepresentsEither : List Text → Text → Text → Type 0
RepresentsEither records body bytes = Represents bytes records
    ⊎ Represents bytes (records ++ body ∷ [])

-- the length of the body of the record at an offset
abbrev pub size_at : Text → ℕ → ℕ
size_at bytes place = from_be_bytes w32 (part (place + 1) 4 bytes)

-- the body of the record at an offset
abbrev pub body_at : Text → ℕ → Text
body_at bytes place = part (place + 5) (size_at bytes place) bytes

-- the bodies of the records from an offset on, at most so many of them
abbrev pub records_from : ℕ → Text → ℕ → List Text
records_from zero bytes place = []
records_from (suc most) bytes place =
    if slice_index bytes place == 0 then []
    else body_at bytes place ∷ records_from most bytes (place + 5 + size_at bytes place)

-- the records that the bytes represent, if they represent any
abbrev pub records_of : Text → List Text
records_of bytes = records_from (length bytes) bytes 16

-- the bodies of the records from an offset on that begin before an end, at most so many of them
abbrev pub records_to : ℕ → Text → ℕ → ℕ → List Text
records_to zero bytes place end = []
records_to (suc most) bytes place end =
    if nat_lt place end
    then body_at bytes place ∷ records_to most bytes (place + 5 + size_at bytes place) end
    else []

-- the records that begin before an offset
abbrev pub records_before : Text → ℕ → List Text
records_before bytes place = records_to (length bytes) bytes 16 place

-- What stands at an offset where no record and no closed commit byte does. First: a length of 0 or
-- above 131,072.
pub record IsBadLengthAt (bytes : Text) (place : ℕ) : Type 0 where
  pub open_commit_byte : slice_index bytes place ≢ 0
  pub there : place + 5 ≤ length bytes
  pub bad : (size_at bytes place ≡ 0) ⊎ (131072 < size_at bytes place)

-- an open commit byte, and the file ends within the length or within the body
abbrev pub IsCutRecordAt : Text → ℕ → Type 0
IsCutRecordAt bytes place = (slice_index bytes place ≢ 0) × ((length bytes < place + 5)
    ⊎ ((1 ≤ size_at bytes place) × (size_at bytes place ≤ 131072)
    × (length bytes < place + 5 + size_at bytes place)))

-- the file ends before the commit byte, or within the record
abbrev pub IsCutShortAt : Text → ℕ → Type 0
IsCutShortAt bytes place = (length bytes ≤ place) ⊎ IsCutRecordAt bytes place

-- what an append writes after the closed commit byte: the length, the body and the next commit
-- byte, closed
abbrev pub tail_of : Text → Text
tail_of body = to_be_bytes w32 (length body) ++ body ++ 0 ∷ []

-- what an append leaves from the commit byte on: the commit byte, open, and what it writes after it
abbrev pub record_bytes : Text → Text
record_bytes body = 1 ∷ tail_of body

-- what the first write of a new file holds
abbrev pub new_file_of : Text → Text
new_file_of body = header ++ 0 ∷ tail_of body
