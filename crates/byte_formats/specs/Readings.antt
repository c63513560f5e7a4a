-- Readings: functions from a position to a value and the position after it, or to the first fault.
-- A reader of the code is described by one equation with such a function.
use Rattle.std.specs.Prelude.{◌≡◌, ◌≢◌, ℕ, Bool, true, false, ◌==◌, [], length, Option, Some, None}
use Rattle.std.specs.Prelude.{Result, Ok, Err, if◌then◌else◌}
use Rattle.byte_formats.specs.Types.{Text}
use Rattle.byte_formats.specs.Offsets.{At, begins_with}

-- A reading of a value, or of a fault.
abbrev pub Reading : Type 0 → Type 0 → Type 0
Reading X E = At → Result (X × At) E

infixl 10 ◌>>=◌
-- One step after another: the first fault ends it.
abbrev pub ◌>>=◌ : {A B E : Type 0} → Result A E → (A → Result B E) → Result B E
(Ok x) >>= next = next x
(Err e) >>= next = Err e

-- What an answer, seen by view, has to be: exactly what was wanted.
abbrev pub Gives : {X Y E : Type 0} → (X → Y) → Result X E → Result Y E → Type 0
Gives view (Ok x) wanted = wanted ≡ Ok (view x)
Gives view (Err e) wanted = wanted ≡ Err e

-- The same, but the call may answer out of memory instead of anything else.
abbrev pub Answers : {X E : Type 0} → E → Result X E → Result X E → Type 0
Answers memory wanted (Ok x) = wanted ≡ Ok x
Answers memory wanted (Err e) = e ≢ memory → wanted ≡ Err e

-- A call that moves along an input: its answer, seen by view, and the position that it leaves are
-- what reading gives. A refusal leaves the position as it was.
abbrev pub Reads : {X Y E : Type 0} → (X → Y) → Reading Y E → At → Result X E → At → Type 0
Reads view read old (Ok x) new = read old ≡ Ok (view x, new)
Reads view read old (Err e) new = (read old ≡ Err e) × (new ≡ old)

-- The same, for a call that leaves any position if it refuses.
abbrev pub Moves : {X Y E : Type 0} → (X → Y) → Reading Y E → At → Result X E → At → Type 0
Moves view read old (Ok x) new = read old ≡ Ok (view x, new)
Moves view read old (Err e) new = read old ≡ Err e

-- The value that was read, without the position after it.
abbrev pub found : {X E : Type 0} → Result (X × At) E → Result X E
found (Ok x) = Ok x.0
found (Err e) = Err e

-- The position after what was read, without the value.
abbrev pub discarded : {X E : Type 0} → Result (X × At) E → Result At E
discarded (Ok x) = Ok x.1
discarded (Err e) = Err e

-- What was read, where it is all there was.
abbrev pub whole_of : {X E : Type 0} → Result (X × At) E → Option X
whole_of (Ok x) = if length x.1.rest == 0 then Some x.0 else None
whole_of (Err e) = None

-- Whether an answer is a value.
abbrev pub is_read : {X E : Type 0} → Result X E → Bool
is_read (Ok x) = true
is_read (Err e) = false

-- The same answer, with its fault seen as another kind of fault.
abbrev pub lifted : {A E F : Type 0} → (E → F) → Result A E → Result A F
lifted fault (Ok x) = Ok x
lifted fault (Err e) = Err (fault e)

-- The same answer, with one fault instead of every fault.
abbrev pub blamed : {A E F : Type 0} → F → Result A E → Result A F
blamed fault (Ok x) = Ok x
blamed fault (Err e) = Err fault

-- The value of an option; without one, this fault.
abbrev pub some_or : {A E : Type 0} → E → Option A → Result A E
some_or fault None = Err fault
some_or fault (Some x) = Ok x

-- Two values, one after the other.
abbrev pub both_at : {X Y E : Type 0} → Reading X E → Reading Y E → Reading (X × Y) E
both_at first second a = first a >>= λ x. second x.1 >>= λ y. Ok ((x.0, y.0), y.1)

-- A value, seen by f.
abbrev pub mapped_at : {X Y E : Type 0} → (X → Y) → Reading X E → Reading Y E
mapped_at f read a = read a >>= λ x. Ok (f x.0, x.1)

-- A value that passes a test; one that doesn't is this fault.
abbrev pub tested_at : {X E : Type 0} → (X → Bool) → E → Reading X E → Reading X E
tested_at test fault read a = read a >>= λ x. if test x.0 then Ok x else Err fault

-- A value that begins with this byte; where another byte or none stands, it is this fault.
abbrev pub headed_at : {X E : Type 0} → ℕ → E → Reading X E → Reading X E
headed_at byte fault read a = if begins_with byte a.rest then read a else Err fault

-- A value where this byte stands, and none where another byte or none stands.
abbrev pub optional_at : {X E : Type 0} → ℕ → Reading X E → Reading (Option X) E
optional_at byte read a =
    if begins_with byte a.rest then (read a >>= λ x. Ok (Some x.0, x.1)) else Ok (None, a)

-- The same for a value that is read as its bytes: no bytes where it is absent.
abbrev pub or_nothing_at : {E : Type 0} → ℕ → Reading Text E → Reading Text E
or_nothing_at byte read a = if begins_with byte a.rest then read a else Ok ([], a)

-- A value as its bytes, or no bytes at the end.
abbrev pub last_at : {E : Type 0} → Reading Text E → Reading Text E
last_at read a = if length a.rest == 0 then Ok ([], a) else read a

-- At least one byte is left; else this fault.
abbrev pub some_at : {X E : Type 0} → E → Reading X E → Reading X E
some_at fault read a = if length a.rest == 0 then Err fault else read a

-- A value, where what is left doesn't show this fault.
abbrev pub refused_at : {X E : Type 0} → (Text → Bool) → E → Reading X E → Reading X E
refused_at test fault read a = if test a.rest then Err fault else read a

-- A value, with one fault instead of every fault.
abbrev pub blamed_at : {X E F : Type 0} → F → Reading X E → Reading X F
blamed_at fault read a = blamed fault (read a)

-- A value, with its fault seen as another kind of fault.
abbrev pub lifted_at : {X E F : Type 0} → (E → F) → Reading X E → Reading X F
lifted_at fault read a = lifted fault (read a)
