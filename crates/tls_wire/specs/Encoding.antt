-- How numbers and vectors are encoded (RFC 8446, sections 3.3 and 3.4).
use Rattle.std.specs.Prelude.{◌≡◌, ℕ, ◌*◌, ◌^◌, ◌<◌, List, ◌++◌, length}
use Rattle.std.specs.List.{AllByRecursion, concat}
use Rattle.std.specs.Int.{Width, w16, to_be_bytes}
use Rattle.byte_formats.specs.Types.{Text, Hash}

-- A number of this width, the highest byte first.
abbrev pub number : Width → ℕ → Text
number w n = to_be_bytes w n

-- The length as a number of this width, and the bytes.
abbrev pub vector : Width → Text → Text
vector w bytes = number w (length bytes) ++ bytes

-- Hashes as one vector, one after the other.
abbrev pub hashes : List Hash → Text
hashes items = vector w16 (concat items)

-- Each of them has 32 bytes, and they fit into one vector.
abbrev pub AreHashes : List Hash → Type 0
AreHashes items = AllByRecursion (λ hash. length hash ≡ 32) items × (length items * 32 < 2 ^ 16)

-- So many bytes.
abbrev pub HasLength : ℕ → Text → Type 0
HasLength count bytes = length bytes ≡ count

-- Fewer bytes than this.
abbrev pub IsShorter : ℕ → Text → Type 0
IsShorter limit bytes = length bytes < limit
