-- The presentation language of TLS (RFC 8446, section 3), as far as it is used: numbers, strings
-- of bytes, and vectors.
use Rattle.std.specs.Prelude.{ℕ, ◌+◌, ◌/◌, ◌%◌, ◌==◌, nat_lt, List, length, take, Ok, Err}
use Rattle.std.specs.Prelude.{if◌then◌else◌}
use Rattle.std.specs.Simd.{first_chunks}
use Rattle.std.specs.Int.{Width, w16, byte_len, from_be_bytes}
use Rattle.byte_formats.specs.Types.{Text, Hash}
use Rattle.byte_formats.specs.Offsets.{At, after}
use Rattle.byte_formats.specs.Readings.{Reading, ◌>>=◌, blamed, lifted}
use Rattle.tls_wire.specs.declared.cursor.HashesError.{HashesError}
use Rattle.tls_wire.specs.declared.cursor.HashesError.TheVariants.{HashLength, Short as NotFitting}
use Rattle.tls_wire.specs.declared.cursor.Short.{Short}

-- The form that begins here doesn't fit what is left.
abbrev pub short : At → Short
short a = record { place = a.place }

-- So many bytes.
abbrev pub bytes_at : ℕ → Reading Text Short
bytes_at count a =
    if nat_lt (length a.rest) count then Err (short a) else Ok (take count a.rest, after count a)

-- A number of this width, the highest byte first (section 3.3).
abbrev pub number_at : Width → Reading ℕ Short
number_at w a =
    if nat_lt (length a.rest) (byte_len w) then Err (short a)
    else Ok (from_be_bytes w (take (byte_len w) a.rest), after (byte_len w) a)

-- So many bytes from a position ahead, which are part of the form that begins here.
abbrev pub ahead_at : ℕ → At → Reading Text Short
ahead_at count ahead a = blamed (short a) (bytes_at count ahead)

-- A length of this width, and so many bytes (section 3.4). One form: where it doesn't fit, it began
-- at its length.
unfoldable pub vector_at : Width → Reading Text Short
vector_at w a = number_at w a >>= λ count. ahead_at count.0 count.1 a

-- Such a vector as the position of its bytes, up to their end.
abbrev pub inner_at : Width → Reading At Short
inner_at w a =
    vector_at w a >>= λ v. Ok (record { place = a.place + byte_len w; rest = v.0 }, v.1)

-- The hashes in these bytes, 32 bytes each.
abbrev pub hashes_in : Text → List Hash
hashes_in bytes = first_chunks 32 (length bytes / 32) bytes

-- A vector of hashes, whose length in bytes is a multiple of 32.
unfoldable pub hashes_at : Reading (List Hash) HashesError
hashes_at a =
    lifted NotFitting (vector_at w16 a) >>= λ v.
    if length v.0 % 32 == 0 then Ok (hashes_in v.0, v.1) else Err HashLength
