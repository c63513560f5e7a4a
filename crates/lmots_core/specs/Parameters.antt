-- The four parameter sets of LM-OTS with SHA-256 and 32-byte values (RFC 8554, 4.1).
use Rattle.std.specs.Prelude.{ℕ, ◌+◌, ◌-◌, ◌*◌, ◌^◌, ◌==◌, if◌then◌else◌, Option, Some, None}
use Rattle.lmots_core.specs.declared.parameters.OtsType.{OtsType}
use Rattle.lmots_core.specs.declared.parameters.OtsType.TheVariants.{W1, W2, W4, W8}

-- w, the bits of a digit.
abbrev pub width : OtsType → ℕ
width W1 = 1
width W2 = 2
width W4 = 4
width W8 = 8

-- p, the number of chains, one for each digit.
abbrev pub chains : OtsType → ℕ
chains W1 = 265
chains W2 = 133
chains W4 = 67
chains W8 = 34

-- ls, by how many bits the checksum is shifted to the left.
abbrev pub shift : OtsType → ℕ
shift W1 = 7
shift W2 = 6
shift W4 = 4
shift W8 = 0

-- The number by which keys and signatures name the parameter set.
abbrev pub typecode : OtsType → ℕ
typecode W1 = 1
typecode W2 = 2
typecode W4 = 3
typecode W8 = 4

-- The parameter set of a typecode.
abbrev pub type_of_code : ℕ → Option OtsType
type_of_code n =
    if n == 1 then Some W1
    else (if n == 2 then Some W2
    else (if n == 3 then Some W4 else (if n == 4 then Some W8 else None)))

-- 2^w - 1: the steps of a chain, and the largest digit.
abbrev pub steps : OtsType → ℕ
steps t = 2 ^ width t - 1

-- The bytes of a one-time signature: a typecode, the randomizer, and one hash for each chain (4.5).
abbrev pub signature_length : OtsType → ℕ
signature_length t = 36 + 32 * chains t
