-- The sizes of hashes.
use Rattle.std.specs.Prelude.{◌≡◌, List, length}
use Rattle.std.specs.List.{AllByRecursion}
use Rattle.byte_formats.specs.Types.{Hash}

-- Each of these hashes has 32 bytes.
abbrev pub AreFullHashes : List Hash → Type 0
AreFullHashes proof = AllByRecursion (λ hash. length hash ≡ 32) proof
