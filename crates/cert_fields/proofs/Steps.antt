-- What a reading that is made of others did, where it did not fail.
use Rattle.std.proofs.Common.{◌≡◌, ℕ, Bool, true, Result, Ok, Err, refl, subst}
use Rattle.std.specs.Prelude.{if◌then◌else◌}
use Rattle.byte_formats.specs.Types.{Text}
use Rattle.byte_formats.specs.Offsets.{At}
use Rattle.byte_formats.specs.Readings.{◌>>=◌, both_at, mapped_at, tested_at, Reading}
use Rattle.byte_formats.proofs.Steps.{bind_ok, pass_ok, ok_is}
use Rattle.der_core.specs.Items.{Item, inside}
use Rattle.der_core.specs.Reading.{wanted_at, end_at}
use Rattle.der_core.specs.Fields.{der, inside_at, decoded_at}
use Rattle.der_core.specs.declared.fault.DerError.{DerError}
use Rattle.der_core.specs.declared.fault.CertError.{CertError}
use Rattle.der_core.proofs.Fields.{der_ok}

-- An element, and what was read inside.
pub inside_ok : {X : Type 0} (tag : ℕ) (read : Reading X CertError) (a : At) (x : X) (b : At)
    → inside_at tag read a ≡ Ok (x, b)
    → (e : Item) × (wanted_at tag a ≡ Ok (e, b)) × ((c : At) × (read (inside e) ≡ Ok (x, c)))
inside_ok {X} tag read a x b h =
    let s = bind_ok (der (wanted_at tag a)) (λ (e : Item × At). read (inside e.0) >>= λ (y : X
    × At). der (end_at y.1) >>= λ (done : Unit {0}). Ok (y.0, e.1)) (x, b) h in
    let e : Item × At = s.0 in
    let t = bind_ok (read (inside e.0)) (λ (y : X × At). der (end_at y.1) >>= λ (done : Unit {0}).
    Ok (y.0, e.1)) (x, b) s.2 in
    let y : X × At = t.0 in
    let u = bind_ok (der (end_at y.1)) (λ (done : Unit {0}). Ok (y.0, e.1)) (x, b) t.2 in
    let P : X × At → Type 0 = λ v. (i : Item) × (wanted_at tag a ≡ Ok (i, v.1))
    × ((c : At) × (read (inside i) ≡ Ok (v.0, c))) in
    subst P (ok_is CertError (y.0, e.1) (x, b) u.2) (
      e.0,
      der_ok (wanted_at tag a) e s.1,
      (y.1, t.1),
    )

-- The first of two values.
pub first_ok : {X Y E : Type 0} (first : Reading X E) (second : Reading Y E) (a : At) (x : X
    × Y) (b : At) → both_at first second a ≡ Ok (x, b)
    → (c : At) × (first a ≡ Ok (x.0, c))
first_ok {X} {Y} {E} first second a x b h =
    let s = bind_ok (first a) (λ (v : X × At). second v.1 >>= λ (w : Y × At). Ok ((v.0, w.0), w.1))
    (x, b) h in
    let t = bind_ok (second s.0.1) (λ (w : Y × At). Ok ((s.0.0, w.0), w.1)) (x, b) s.2 in
    let P : (X × Y) × At → Type 0 = λ v. (c : At) × (first a ≡ Ok (v.0.0, c)) in
    subst P (ok_is E ((s.0.0, t.0.0), t.0.1) (x, b) t.2) (s.0.1, s.1)

-- A value that was seen by f.
pub mapped_ok : {X Y E : Type 0} (f : X → Y) (read : Reading X E) (a : At) (y : Y) (b : At)
    → mapped_at f read a ≡ Ok (y, b)
    → (x : X) × (read a ≡ Ok (x, b)) × (f x ≡ y)
mapped_ok {X} {Y} {E} f read a y b h =
    let s = bind_ok (read a) (λ (v : X × At). Ok (f v.0, v.1)) (y, b) h in
    let P : Y × At → Type 0 = λ v. (x : X) × (read a ≡ Ok (x, v.1)) × (f x ≡ v.0) in
    subst P (ok_is E (f s.0.0, s.0.1) (y, b) s.2) (s.0.0, s.1, refl)

-- A value that passed a test.
pub tested_ok : {X E : Type 0} (test : X → Bool) (fault : E) (read : Reading X E) (a : At) (x : X)
    (b : At) → tested_at test fault read a ≡ Ok (x, b)
    → (read a ≡ Ok (x, b)) × (test x ≡ true)
tested_ok {X} {E} test fault read a x b h =
    let s = bind_ok (read a) (λ (v : X × At). if test v.0 then Ok v else Err fault) (x, b) h in
    let g = pass_ok (test s.0.0) (Ok s.0) fault (x, b) s.2 in
    let P : X × At → Type 0 = λ v. (read a ≡ Ok v) × (test v.0 ≡ true) in
    subst P (ok_is E s.0 (x, b) g.1) (s.1, g.0)

-- The contents of an element, by their rule.
pub decoded_ok : {X : Type 0} (tag : ℕ) (decode : ℕ → Text
    → Result X DerError) (a : At) (x : X) (b : At) → decoded_at tag decode a ≡ Ok (x, b)
    → (e : Item) × (wanted_at tag a ≡ Ok (e, b)) × (decode e.place e.contents ≡ Ok x)
decoded_ok {X} tag decode a x b h =
    let s = bind_ok (der (wanted_at tag a)) (λ (e : Item
    × At). der (decode e.0.place e.0.contents) >>= λ (y : X). Ok (y, e.1)) (x, b) h in
    let e : Item × At = s.0 in
    let t = bind_ok (der (decode e.0.place e.0.contents)) (λ (y : X). Ok (y, e.1)) (x, b) s.2 in
    let P : X × At → Type 0 = λ v. (i : Item) × (wanted_at tag a ≡ Ok (i, v.1))
    × (decode i.place i.contents ≡ Ok v.0) in
    subst P (ok_is CertError (t.0, e.1) (x, b) t.2) (
      e.0,
      der_ok (wanted_at tag a) e s.1,
      der_ok (decode e.0.place e.0.contents) t.0 t.1,
    )
