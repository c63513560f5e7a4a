-- A file that a command read.
use Rattle.std.specs.Prelude.{◌≡◌, ℕ, ◌≤◌, length, Option, Some}
use Rattle.byte_formats.specs.Types.{Text}

-- These bytes were read, and this holds of them. If the model knows the files, they are those of
-- the file, and at most so many.
pub record IsStreamed (Models : Type 0) (limit : ℕ) (file : Option Text) (Holds : Text → Type 0)
    : Type 0 where
  pub bytes : Text
  pub is : Models → (file ≡ Some bytes) × (length bytes ≤ limit)
  pub holds : Holds bytes
