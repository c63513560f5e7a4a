-- What a step of a reading that did not fail says, and what it leaves.
use Rattle.std.proofs.Common.{◌≡◌, ℕ, suc, ◌+◌, ◌≤◌, Bool, true, false, List, [], ◌∷◌, ◌++◌, length}
use Rattle.std.proofs.Common.{take, drop, Option, Some, None, Result, Ok, Err, ◌≢◌, ◌<◌, refl, sym}
use Rattle.std.proofs.Common.{ap, ◌∙◌, append_assoc, arith, inl, inr, ◌⊎◌, ne_eqb}
use Rattle.std.specs.Prelude.{if◌then◌else◌}
use Rattle.std.proofs.lemmas.Bool.{cases_lt}
use Rattle.std.proofs.lemmas.List.{take-append-drop, length-append, length-take, get_or-drop}
use Rattle.std.proofs.lemmas.List.{get_or-take, get_or_past, get_or_append_left, get_or-append-add}
use Rattle.byte_formats.specs.Offsets.{At, IsBytes, after, has_bytes}
use Rattle.byte_formats.specs.Readings.{◌>>=◌, is_read, lifted, blamed, discarded, found, some_or}
use Rattle.byte_formats.specs.Forms.{Stands}

-- The value of a step that did not fail.
pub bind_ok : {A B E : Type 0} (r : Result A E) (next : A → Result B E) (y : B)
    → (r >>= next) ≡ Ok y → (x : A) × (r ≡ Ok x) × (next x ≡ Ok y)
bind_ok (Ok x) next y e = (x, refl, e)
bind_ok (Err d) next y e = absurd cc

-- Which way a test went.
pub chosen : {A : Type 0} (b : Bool) (x y z : A) → (if b then x else y) ≡ z
    → ((b ≡ true) × (x ≡ z)) ⊎ ((b ≡ false) × (y ≡ z))
chosen true x y z e = inl (refl, e)
chosen false x y z e = inr (refl, e)

-- A test for a fault that did not find it.
pub guard_ok : {A E : Type 0} (b : Bool) (d : E) (r : Result A E) (y : A)
    → (if b then Err d else r) ≡ Ok y → (b ≡ false) × (r ≡ Ok y)
guard_ok true d r y e = absurd cc
guard_ok false d r y e = (refl, e)

-- A test that was passed.
pub pass_ok : {A E : Type 0} (b : Bool) (r : Result A E) (d : E) (y : A)
    → (if b then r else Err d) ≡ Ok y → (b ≡ true) × (r ≡ Ok y)
pass_ok true r d y e = (refl, e)
pass_ok false r d y e = absurd cc

abbrev done : {A : Type 0} (E : Type 0) → A → Result A E
done E x = Ok x

-- Equal values of equal answers.
pub ok_is : {A : Type 0} (E : Type 0) (x y : A) → done E x ≡ done E y → x ≡ y
ok_is E x y e = cc

-- ---- answers that are no fault, seen through the words of readings

-- An answer whose fault is seen as another kind is a value where the answer itself is.
pub lifted_ok : {A E F : Type 0} (fault : E → F) (r : Result A E) (y : A) → lifted fault r ≡ Ok y
    → r ≡ Ok y
lifted_ok fault (Ok x) y e = cc
lifted_ok fault (Err d) y e = absurd cc

-- The same, with one fault instead of every fault.
pub blamed_ok : {A E F : Type 0} (fault : F) (r : Result A E) (y : A) → blamed fault r ≡ Ok y
    → r ≡ Ok y
blamed_ok fault (Ok x) y e = cc
blamed_ok fault (Err d) y e = absurd cc

-- Some value was read if the position after it is known.
pub discarded_ok : {X E : Type 0} (r : Result (X × At) E) (b : At) → discarded r ≡ Ok b → (x : X)
    × (r ≡ Ok (x, b))
discarded_ok {X} {E} (Ok x) b e = (x.0, ap (λ (c : At). Ok (x.0, c)) (ok_is E x.1 b e))
discarded_ok (Err d) b e = absurd cc

-- A value that is known was read up to some position.
pub found_ok : {X E : Type 0} (r : Result (X × At) E) (x : X) → found r ≡ Ok x → (b : At)
    × (r ≡ Ok (x, b))
found_ok {X} {E} (Ok y) x e = (y.1, ap (λ (z : X). Ok (z, y.1)) (ok_is E y.0 x e))
found_ok (Err d) x e = absurd cc

-- What is read has a value.
pub read_ok : {X E : Type 0} (r : Result X E) → is_read r ≡ true → (x : X) × (r ≡ Ok x)
read_ok (Ok x) e = (x, refl)
read_ok (Err d) e = absurd cc

-- The value of an option that had to be there.
pub some_or_ok : {A E : Type 0} (fault : E) (o : Option A) (x : A) → some_or fault o ≡ Ok x
    → o ≡ Some x
some_or_ok fault None x e = absurd cc
some_or_ok fault (Some y) x e = cc

-- ---- bytes

-- Bytes that are not empty, by their length.
pub has_bytes-some : (bytes : List ℕ) → has_bytes bytes ≡ true → 0 < length bytes
has_bytes-some [] e = absurd cc
has_bytes-some (b ∷ bytes) e = omega arith

pub some-has_bytes : (bytes : List ℕ) → 0 < length bytes → has_bytes bytes ≡ true
some-has_bytes bytes some =
    let long : length bytes ≢ 0 = omega arith in
    rw (ne_eqb (length bytes) 0 long) refl

-- Each byte of a part is a byte.
pub IsBytes-drop : (n : ℕ) (bytes : List ℕ) → IsBytes bytes → IsBytes (drop n bytes)
IsBytes-drop n bytes h i = rw get_or-drop (h (n + i))

pub IsBytes-take : (n : ℕ) (bytes : List ℕ) → IsBytes bytes → IsBytes (take n bytes)
IsBytes-take n bytes h i =
    elim (cases_lt i n) [
      | inl lt ↦ rw (get_or-take n bytes i 0 lt) (h i)
      | inr le ↦ rw (get_or_past (take n bytes) i 0 (omega (arith, length-take n bytes)))
          (omega arith)
    ]

pub IsBytes-rest : (b : ℕ) (bytes : List ℕ) → IsBytes (b ∷ bytes) → IsBytes bytes
IsBytes-rest b bytes h i = h (suc i)

pub IsBytes-prefix : (a b : List ℕ) → IsBytes (a ++ b) → IsBytes a
IsBytes-prefix a b h i =
    elim (cases_lt i (length a)) [
      | inl lt ↦ rw (← get_or_append_left a b 0 i lt) (h i)
      | inr le ↦ rw (get_or_past a i 0 le) (omega arith)
    ]

pub IsBytes-back : (a b : List ℕ) → IsBytes (a ++ b) → IsBytes b
IsBytes-back a b h i = rw (← get_or-append-add a b i 0) (h (length a + i))

-- Bytes after other bytes.
pub Stands-then : (a : At) (x : List ℕ) (b : At) (y : List ℕ) (c : At) → Stands a x b → Stands b y c
    → Stands a (x ++ y) c
Stands-then a x b y c p q = record {
  parts = p.parts ∙ ap (λ (t : List ℕ). x ++ t) q.parts ∙ sym (append_assoc x y c.rest);
  place = omega (arith, p.place, q.place, length-append x y);
  bytes = q.bytes;
}

-- No bytes begin at each position.
pub Stands-none : (a : At) → IsBytes a.rest → Stands a [] a
Stands-none a h = record { parts = refl; place = omega arith; bytes = h }

-- The first n bytes of what is left stand there.
pub Stands-prefix : (a : At) (n : ℕ) → n ≤ length a.rest → IsBytes a.rest
    → Stands a (take n a.rest) (after n a)
Stands-prefix a n le h = record {
  parts = sym (take-append-drop n a.rest);
  place = omega (arith, length-take n a.rest);
  bytes = IsBytes-drop n a.rest h;
}
