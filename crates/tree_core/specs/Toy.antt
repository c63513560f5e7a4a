-- The hash function for tests.
use Rattle.std.specs.Prelude.{◌%◌, ◌∷◌, sum, replicate}
use Rattle.byte_formats.specs.Types.{HashFunction}

-- The sum of the bytes modulo 256, and 31 bytes 0.
abbrev pub toy_hash : HashFunction
toy_hash bytes = sum bytes % 256 ∷ replicate 31 0
