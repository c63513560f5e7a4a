-- Readings of many values, one after the other, up to the end of what is left.
use Rattle.std.specs.Prelude.{ℕ, zero, suc, ◌==◌, List, [], ◌∷◌, ◌++◌, length, Result, Ok, Err}
use Rattle.std.specs.Prelude.{if◌then◌else◌}
use Rattle.byte_formats.specs.Offsets.{At}
use Rattle.byte_formats.specs.Readings.{Reading, ◌>>=◌}

-- Values up to the end. The number is at least that of the bytes that are left.
unfoldable pub many_at : {X E : Type 0} → Reading X E → ℕ → Reading (List X) E
many_at read zero a = Ok ([], a)
many_at read (suc n) a =
    if length a.rest == 0 then Ok ([], a)
    else (read a >>= λ x. many_at read n x.1 >>= λ xs. Ok (x.0 ∷ xs.0, xs.1))

-- Values up to the end, however many they are.
abbrev pub up_to_end : {X E : Type 0} → Reading X E → Reading (List X) E
up_to_end read a = many_at read (length a.rest) a

-- The same, where each is read with the keys of those before it in view.
unfoldable pub each_at : {X K E : Type 0} → (X → K) → (List K → Reading X E) → ℕ → List K
    → Reading (List X) E
each_at key read zero seen a = Ok ([], a)
each_at key read (suc n) seen a =
    if length a.rest == 0 then Ok ([], a)
    else (
    read seen a >>= λ x.
    each_at key read n (seen ++ key x.0 ∷ []) x.1 >>= λ xs. Ok (x.0 ∷ xs.0, xs.1)
    )

-- A value, and those after it.
abbrev pub value_then : {X E : Type 0} → Result (X × At) E → (At → List X) → List X
value_then (Ok x) following = x.0 ∷ following x.1
value_then (Err fault) following = []
