-- What two computations of the hash of one node come to.
use Rattle.std.specs.Prelude.{◌≡◌, List, Result, Ok, Err}
use Rattle.byte_formats.specs.Types.{Hash, HashFunction, Text}
use Rattle.collide.specs.declared.comparing.Halt.{Halt}
use Rattle.collide.specs.declared.comparing.Halt.TheVariants.{Found, Memory}
use Rattle.collide.specs.declared.comparing.Roots.{Roots}
use Rattle.collide.specs.Extraction.{IsCollision}

-- The two hashes, and where they agree what they are computed from is the same.
pub record AreRoots (same : Type 0) (one other : Hash) (roots : Roots) : Type 0 where
  pub first : roots.first ≡ one
  pub second : roots.second ≡ other
  pub agree : roots.first ≡ roots.second → same

-- These, or two different strings with one hash, of those that are hashed on either side.
abbrev pub Compares : HashFunction → Type 0 → Hash → Hash → List Text → List Text
    → Result Roots Halt → Type 0
Compares h same one other firsts seconds (Ok roots) = AreRoots same one other roots
Compares h same one other firsts seconds (Err (Found x y)) = IsCollision h firsts seconds x y
Compares h same one other firsts seconds (Err Memory) = Unit {0}

-- This holds where two strings were found.
abbrev pub WhereFound : Type 0 → Result Roots Halt → Type 0
WhereFound holds (Ok roots) = Unit {0}
WhereFound holds (Err (Found x y)) = holds
WhereFound holds (Err Memory) = Unit {0}
