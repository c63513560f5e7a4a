-- Numbers as digits in a base, the highest digit first: bytes are the digits in base 256.
use Rattle.std.specs.Prelude.{ℕ, zero, suc, ◌+◌, ◌*◌, ◌/◌, ◌%◌, ◌^◌, ◌<◌, List, [], ◌∷◌, length}
use Rattle.std.specs.Prelude.{slice_index}

-- The number that these digits represent.
abbrev pub value : ℕ → List ℕ → ℕ
value base [] = 0
value base (digit ∷ rest) = digit * base ^ length rest + value base rest

-- So many digits of a number.
abbrev pub digits : ℕ → ℕ → ℕ → List ℕ
digits base zero n = []
digits base (suc k) n = n / base ^ k ∷ digits base k (n % base ^ k)

-- Each item is a digit.
abbrev pub AreDigits : ℕ → List ℕ → Type 0
AreDigits base ds = (i : ℕ) → slice_index ds i < base
