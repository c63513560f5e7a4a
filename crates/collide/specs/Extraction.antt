-- What a comparison of two computations of one hash finds.
use Rattle.std.specs.Prelude.{◌≡◌, ◌≢◌, List}
use Rattle.std.specs.List.{Contains}
use Rattle.byte_formats.specs.Types.{HashFunction, Text}
use Rattle.collide.specs.declared.finding.Finding.{Finding}
use Rattle.collide.specs.declared.finding.Finding.TheVariants.{Pair, Same}

-- Two different strings with one hash: the first is one of the firsts, the second one of the
-- seconds.
pub record IsCollision (h : HashFunction) (firsts seconds : List Text) (x y : Text) : Type 0 where
  pub differ : x ≢ y
  pub one_hash : h x ≡ h y
  pub first : Contains firsts x
  pub second : Contains seconds y

-- There are two such strings.
abbrev pub HasCollision : HashFunction → List Text → List Text → Type 0
HasCollision h firsts seconds = (x : Text) × ((y : Text) × IsCollision h firsts seconds x y)

-- The answer is that two things are the same exactly if they are, and else two such strings.
abbrev pub Extracts : HashFunction → Type 0 → List Text → List Text → Finding → Type 0
Extracts h same firsts seconds Same = same
Extracts h same firsts seconds (Pair x y) = (same → ⊥) × IsCollision h firsts seconds x y
