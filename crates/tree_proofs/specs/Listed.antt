-- What a list of leaf hashes is to a caller.
use Rattle.std.specs.Prelude.{ℕ, List}
use Rattle.byte_formats.specs.Types.{Hash}

-- The leaf hashes, and how many more need no memory.
pub record ListedLeaves : Type 0 where
  pub leaves : List Hash
  pub spare : ℕ
