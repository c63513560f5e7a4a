-- What options, answers and tests say of the values in them, where std doesn't say it.
use Rattle.std.proofs.Common.{◌≡◌, ℕ, zero, suc, ◌<◌, Bool, true, false, ◌||◌, Option, Some, None}
use Rattle.std.proofs.Common.{Result, Ok, Err, IfOk, IfSome, refl, sym, ap, ◌∙◌, arith}
use Rattle.std.specs.Prelude.{if◌then◌else◌, option_map, bytes_eq, ◌==◌}
use Rattle.std.specs.Option.{option_and_then}
use Rattle.std.specs.Result.{IsErrAnd}
use Rattle.std.proofs.lemmas.Option.{none-some, same_Some}
use Rattle.std.proofs.lemmas.Result.{err_from_is_err_and}
use Rattle.std.proofs.lemmas.Slice.Eq.{bytes_eq-Decides}
use Rattle.byte_formats.specs.Types.{Text}
use Rattle.byte_formats.specs.Readings.{Gives}

-- ---- options

-- A value that was seen by f.
pub map_some : {X Y : Type 0} (f : X → Y) (o : Option X) (y : Y) → option_map f o ≡ Some y
    → (x : X) × (o ≡ Some x) × (f x ≡ y)
map_some f None y is = absurd (none-some y is)
map_some f (Some x) y is = (x, refl, same_Some (f x) y is)

-- A value that came of another.
pub then_some : {X Y : Type 0} (f : X → Option Y) (o : Option X) (y : Y)
    → option_and_then f o ≡ Some y → (x : X) × (o ≡ Some x) × (f x ≡ Some y)
then_some f None y is = absurd (none-some y is)
then_some f (Some x) y is = (x, refl, is)

-- A value that is there where a test passes.
pub when_some : {X : Type 0} (b : Bool) (o : Option X) (x : X)
    → (if b then o else None) ≡ Some x → (b ≡ true) × (o ≡ Some x)
when_some true o x is = (refl, is)
when_some false o x is = absurd (none-some x is)

-- What holds of every value holds of the one that is there.
pub each_some : {X : Type 0} (P : X → Type 0) (o : Option X) → ((x : X) → P x) → IfSome o P
each_some P None all = tt
each_some P (Some x) all = all x

-- ---- answers

-- The fault of an answer.
pub err_is : {X E : Type 0} (r : Result X E) (e : E) → IsErrAnd r (λ d. d ≡ e) → Err e ≡ r
err_is r e is = let p = err_from_is_err_and r is in sym (p.1 ∙ ap Err p.2)

-- What holds of each value that is wanted holds of the one that is given.
pub gives_all : {X Y E : Type 0} (view : X → Y) (wanted : Result Y E) (P : Y → Type 0)
    → ((y : Y) → wanted ≡ Ok y → P y) → (r : Result X E) → Gives view r wanted
    → IfOk r (λ x. P (view x))
gives_all view wanted P all (Ok x) given = all (view x) given
gives_all view wanted P all (Err e) given = tt

-- ---- tests

pub or_swap : (a b c d : Bool) → ((a || b) || (c || d)) ≡ ((a || c) || (b || d))
or_swap true b c d = refl
or_swap false true true d = refl
or_swap false true false d = refl
or_swap false false c d = refl

-- A number that isn't 0.
pub not_zero : (n : ℕ) → (n == 0) ≡ false → 0 < n
not_zero zero test = absurd cc
not_zero (suc n) test = omega arith

-- Bytes are the same as themselves.
pub same_bytes : (text : Text) → bytes_eq text text ≡ true
same_bytes text = (bytes_eq-Decides text text).1 refl
