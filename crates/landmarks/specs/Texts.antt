-- The text in which landmarks are published (the draft on Merkle Tree Certificates, where it
-- defines landmarks): how it is written, and reading it with its faults in their order.
use Rattle.std.specs.Prelude.{ℕ, zero, suc, ◌+◌, ◌-◌, ◌^◌, ◌==◌, ◌&&◌, ◌||◌, not, nat_lt, List}
use Rattle.std.specs.Prelude.{[], ◌∷◌, ◌++◌, length, slice_index, decimal, flat_map, Result, Ok}
use Rattle.std.specs.Prelude.{Err, if◌then◌else◌}
use Rattle.byte_formats.specs.Types.{Text}
use Rattle.byte_formats.specs.Readings.{◌>>=◌, some_or}
use Rattle.tls_wire.specs.Decimal.{number_of}
use Rattle.tls_wire.specs.Lines.{cut_at, first_line}
use Rattle.landmarks.specs.Landmarks.{LandmarkList, active_count}
use Rattle.landmarks.specs.declared.error.ListError.{ListError}
use Rattle.landmarks.specs.declared.error.ListError.TheVariants.{BadLine, NotFalling}
use Rattle.landmarks.specs.declared.error.ListError.TheVariants.{TooManyActive, BeyondLog}

-- ---- written

-- A number in decimal, and the end of its line.
abbrev pub line : ℕ → Text
line n = decimal n ++ 0x0A ∷ []

-- The number of the newest landmark, a space and how many are active; then a size in each line.
unfoldable pub list_text : LandmarkList → Text
list_text l = decimal l.last ++ (0x20 ∷ line (active_count l) ++ flat_map line l.sizes)

-- ---- read

-- A line with this number, without its end, and what follows it.
abbrev pub line_at : ℕ → Text → Result (Text × Text) ListError
line_at n text = some_or (BadLine n) (first_line text)

-- The number in a line.
abbrev pub number_line : ℕ → Text → Result (ℕ × Text) ListError
number_line n text =
    line_at n text >>= λ cut. some_or (BadLine n) (number_of cut.0) >>= λ m. Ok (m, cut.1)

-- What line 0 says, and what follows it.
pub record ListHead : Type 0 where
  pub last : ℕ
  pub active : ℕ
  pub rest : Text

-- Two numbers with a space between them.
unfoldable pub head_line : Text → Result ListHead ListError
head_line text =
    line_at 0 text >>= λ cut.
    some_or (BadLine 0) (cut_at 0x20 cut.0) >>= λ words.
    some_or (BadLine 0) (number_of words.0) >>= λ last.
    some_or (BadLine 0) (number_of words.1) >>= λ active.
    Ok (record { last = last; active = active; rest = cut.1 })

-- No more landmarks are active than may be, and than there are.
abbrev pub head_of : ℕ → Text → Result ListHead ListError
head_of most text =
    head_line text >>= λ head.
    if nat_lt most head.active || nat_lt head.last head.active then Err TooManyActive else Ok head

-- The size in line n, of the landmark with this number. It is below the one in the line before.
unfoldable pub size_line : ℕ → ℕ → ℕ → Text → Result (ℕ × Text) ListError
size_line n number before text =
    number_line n text >>= λ size.
    if (number == 0) && not (size.0 == 0) then Err (BadLine n)
    else (if nat_lt size.0 before then Ok size else Err (NotFalling n))

-- So many sizes from line n on, the first of them of this landmark.
unfoldable pub size_lines : ℕ → ℕ → ℕ → ℕ → Text → Result (List ℕ × Text) ListError
size_lines zero n number before text = Ok ([], text)
size_lines (suc count) n number before text =
    size_line n number before text >>= λ size.
    size_lines count (n + 1) (number - 1) size.0 size.1 >>= λ sizes.
    Ok (size.0 ∷ sizes.0, sizes.1)

-- The sizes of the active landmarks and of the one before them. Each is below 2^63, so the first is
-- below that.
abbrev pub sizes_of : ListHead → Result (List ℕ × Text) ListError
sizes_of head = size_lines (head.active + 1) 1 head.last (2 ^ 63) head.rest

-- The landmarks in a text, of which at most so many are active, for a log of this size.
unfoldable pub list_of : Text → ℕ → ℕ → Result LandmarkList ListError
list_of text most log_size =
    head_of most text >>= λ head.
    sizes_of head >>= λ sizes.
    if not (length sizes.1 == 0) then Err (BadLine (head.active + 2))
    else (if nat_lt log_size (slice_index sizes.0 0) then Err BeyondLog
    else Ok (record { last = head.last; sizes = sizes.0 }))
