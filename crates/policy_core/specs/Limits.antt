-- How much a store may have.
use Rattle.std.specs.Prelude.{ℕ}

-- It has at most so many cosigners.
abbrev pub most_cosigners : ℕ
most_cosigners = 64
