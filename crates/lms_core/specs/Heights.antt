-- The five heights of LMS trees with SHA-256 and 32-byte values (RFC 8554, 5.1).
use Rattle.std.specs.Prelude.{ℕ, ◌+◌, ◌*◌, ◌≤◌, ◌==◌, if◌then◌else◌, Option, Some, None}
use Rattle.lmots_core.specs.declared.parameters.OtsType.{OtsType}
use Rattle.lmots_core.specs.Parameters.{signature_length}
use Rattle.lms_core.specs.declared.heights.LmsType.{LmsType}
use Rattle.lms_core.specs.declared.heights.LmsType.TheVariants.{H5, H10, H15, H20, H25}

-- h, the levels above the leaves: the tree has 2^h one-time keys.
abbrev pub height : LmsType → ℕ
height H5 = 5
height H10 = 10
height H15 = 15
height H20 = 20
height H25 = 25

-- Trees of height 5 and 10 are made and sign. The higher ones are only verified.
abbrev pub IsSigningHeight : LmsType → Type 0
IsSigningHeight l = height l ≤ 10

-- The number by which keys and signatures name the height.
abbrev pub lms_code : LmsType → ℕ
lms_code H5 = 5
lms_code H10 = 6
lms_code H15 = 7
lms_code H20 = 8
lms_code H25 = 9

-- The height of a typecode.
abbrev pub lms_type_of_code : ℕ → Option LmsType
lms_type_of_code n =
    if n == 5 then Some H5
    else (if n == 6 then Some H10
    else (if n == 7 then Some H15
    else (if n == 8 then Some H20 else (if n == 9 then Some H25 else None))))

-- The bytes of a signature: two numbers, a one-time signature and the path (5.4).
abbrev pub lms_signature_length : LmsType → OtsType → ℕ
lms_signature_length l t = 8 + signature_length t + 32 * height l
