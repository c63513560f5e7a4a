-- Forms: an encoding of values, and the reading that reads exactly the encodings.
use Rattle.std.specs.Prelude.{◌≡◌, ◌≢◌, ℕ, ◌+◌, List, [], ◌∷◌, ◌++◌, length, Option, Some, None, Ok}
use Rattle.byte_formats.specs.Types.{Text}
use Rattle.byte_formats.specs.Offsets.{At, IsBytes}
use Rattle.byte_formats.specs.Readings.{Reading}

-- These bytes begin at a, and b is the position after them.
pub record Stands (a : At) (text : Text) (b : At) : Type 0 where
  pub parts : a.rest ≡ text ++ b.rest
  pub place : b.place ≡ a.place + length text
  pub bytes : IsBytes b.rest

-- Each value that is read is encoded as the bytes from which it was read, and each encoding is read
-- as its value, before any rest that may follow it.
pub record IsForm {X E : Type 0} (encode : X → Text) (Fits : X → Type 0) (Follows : Text → Type 0)
    (read : Reading X E) : Type 0 where
  pub takes : (a : At) (x : X) (b : At) → IsBytes a.rest → read a ≡ Ok (x, b)
      → Stands a (encode x) b × Fits x
  pub again : (x : X) (place : ℕ) (rest : Text) → Fits x → Follows rest
      → read (record { place = place; rest = encode x ++ rest })
      ≡ Ok (x, record { place = place + length (encode x); rest = rest })

-- Whatever follows: the form has its own end.
abbrev pub Anything : Text → Type 0
Anything rest = Unit {0}

-- Nothing follows: the form takes all that is left.
abbrev pub Nothing : Text → Type 0
Nothing rest = rest ≡ []

-- What follows doesn't begin with this byte.
abbrev pub OtherThan : ℕ → Text → Type 0
OtherThan byte [] = Unit {0}
OtherThan byte (first ∷ rest) = first ≢ byte

-- The bytes encode some value.
abbrev pub IsEncoding : {X : Type 0} → (X → Text) → (X → Type 0) → Text → Type 0
IsEncoding {X} encode Fits bytes = (x : X) × Fits x × (bytes ≡ encode x)

-- Bytes as their own encoding.
abbrev pub itself : Text → Text
itself bytes = bytes

-- Two encodings, one after the other.
abbrev pub both : {X Y : Type 0} → (X → Text) → (Y → Text) → X × Y → Text
both first second p = first p.0 ++ second p.1

-- Both values have an encoding.
abbrev pub FitsBoth : {X Y : Type 0} → (X → Type 0) → (Y → Type 0) → X × Y → Type 0
FitsBoth First Second p = First p.0 × Second p.1

-- An encoding, or no bytes.
abbrev pub optional : {X : Type 0} → (X → Text) → Option X → Text
optional encode None = []
optional encode (Some x) = encode x

-- Each value has an encoding in view of the keys of those before it.
abbrev pub FitsEach : {X K : Type 0} → (X → K) → (List K → X → Type 0) → List K → List X → Type 0
FitsEach key Fits seen [] = Unit {0}
FitsEach key Fits seen (x ∷ xs) = Fits seen x × FitsEach key Fits (seen ++ key x ∷ []) xs
