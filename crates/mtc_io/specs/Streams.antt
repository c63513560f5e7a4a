-- What calls do to the bytes that a source has left and a sink has taken, where the model knows
-- them. std's words of the same subject (`Consumes`, `Appends`, `Keeps`, `IsAtEnd`) are used in
-- addition to these.
use Rattle.std.specs.Prelude.{ℕ, List, Option, take}
use Rattle.std.specs.Borrow.{Bor}
use Rattle.std.specs.List.{flat_map}
use Rattle.std.specs.Io.KnownBytes.{Consumes, Appends}
use Rattle.byte_formats.specs.Types.{Text}

-- the bytes left lose some bytes from their start
abbrev pub ConsumesSome : Option Text → Option Text → Type 0
ConsumesSome old new = (bs : Text) × Consumes old new bs

-- the bytes taken grow by a prefix of bs
abbrev pub AppendsPrefix : Option Text → Option Text → Text → Type 0
AppendsPrefix old new bs = (k : ℕ) × Appends old new (take k bs)

-- pieces, one after the other
abbrev pub joined : List (Bor Text) → Text
joined pieces = flat_map (λ piece. piece.now) pieces
