-- Vectors as forms.
use Rattle.std.proofs.Common.{◌≡◌, ℕ, ◌+◌, ◌<◌, ◌≤◌, List, ◌++◌, length, take, Result, Ok, Err}
use Rattle.std.proofs.Common.{IfOk, refl, sym, ap, subst, ◌∙◌, append_assoc, arith, ltb-false}
use Rattle.std.specs.Prelude.{nat_lt}
use Rattle.std.specs.Int.{Width, byte_len, from_be_bytes}
use Rattle.std.proofs.lemmas.List.{length-append, length-drop, length-take-le}
use Rattle.byte_formats.specs.Types.{Text}
use Rattle.byte_formats.specs.Offsets.{At, after}
use Rattle.byte_formats.specs.Readings.{blamed, Reads}
use Rattle.byte_formats.specs.Forms.{Stands, IsForm, Anything, itself}
use Rattle.byte_formats.proofs.Steps.{bind_ok, blamed_ok, guard_ok, ok_is, Stands-then}
use Rattle.byte_formats.proofs.FormLaws.{blamed_form}
use Rattle.byte_formats.proofs.Left.{Takes}
use Rattle.tls_wire.specs.declared.cursor.Short.{Short}
use Rattle.tls_wire.specs.Reading.{short, bytes_at, number_at, vector_at, inner_at}
use Rattle.tls_wire.specs.Encoding.{number, vector}
use Rattle.tls_wire.proofs.Numbers.{IsWide, bytes_form, number_form}

blamed_bytes : (s : Short) (count : ℕ)
    → IsForm itself (λ bytes. length bytes ≡ count) Anything (λ a. blamed s (bytes_at count a))
blamed_bytes s count = blamed_form (bytes_form count) s

pub vector_form : (w : Width) (limit : ℕ) → IsWide w limit
    → IsForm (vector w) (λ bytes. length bytes < limit) Anything (vector_at w)
unfolding vector_at
vector_form w limit wide = record {
  takes = λ a bytes b h e.
      let s = bind_ok (number_at w a) (λ (count : ℕ
      × At). blamed (short a) (bytes_at count.0 count.1)) (bytes, b) e in
      let one = (number_form w limit wide).takes a s.0.0 s.0.1 h s.1 in
      let two = (blamed_bytes (short a) s.0.0).takes s.0.1 bytes b one.0.bytes s.2 in
      let P : ℕ → Type 0 = λ n. Stands a (number w n ++ bytes) b × (n < limit) in
      let t = subst P (sym two.1) (
        Stands-then a (number w s.0.0) s.0.1 bytes b one.0 two.0,
        one.1,
      ) in
      (t.0, t.1);
  again = λ bytes p rest f q.
      let grouped : vector w bytes ++ rest ≡ number w (length bytes) ++ (bytes ++ rest) =
      append_assoc (number w (length bytes)) bytes rest in
      let one = (number_form w limit wide).again (length bytes) p (bytes ++ rest) f tt in
      let two = (blamed_bytes (record { place = p }) (length bytes)).again bytes
      (p + length (number w (length bytes))) rest refl tt in
      let far : p + length (number w (length bytes)) + length bytes ≡ p + length (vector w bytes) =
      omega (arith, length-append (number w (length bytes)) bytes) in
      ap (λ (t : List ℕ). vector_at w (record { place = p; rest = t })) grouped
      ∙ rw (one, two, far) refl;
}

-- Where reading a vector ends: after its length and its bytes. At least its length is gone.
record Moved (w : Width) (a : At) (bytes : Text) (b : At) : Type 0 where
  pub place : b.place ≡ a.place + byte_len w + length bytes
  pub less : length b.rest + byte_len w ≤ length a.rest

vector_moves : (w : Width) (a : At) (bytes : Text) (b : At) → vector_at w a ≡ Ok (bytes, b)
    → Moved w a bytes b
unfolding vector_at
vector_moves w a bytes b e =
    let s = bind_ok (number_at w a) (λ (count : ℕ
    × At). blamed (short a) (bytes_at count.0 count.1)) (bytes, b) e in
    let count : ℕ = s.0.0 in
    let g = guard_ok (nat_lt (length a.rest) (byte_len w)) (short a)
    (Ok (from_be_bytes w (take (byte_len w) a.rest), after (byte_len w) a)) s.0 s.1 in
    let t = blamed_ok (short a) (bytes_at count s.0.1) (bytes, b) s.2 in
    let u = guard_ok (nat_lt (length s.0.1.rest) count) (short s.0.1) (Ok (
      take count s.0.1.rest,
      after count s.0.1,
    )) (bytes, b) t in
    let room : byte_len w ≤ length a.rest = ltb-false (length a.rest) (byte_len w) g.0 in
    let fits : count ≤ length s.0.1.rest = ltb-false (length s.0.1.rest) count u.0 in
    let One : ℕ × At → Type 0 = λ x. (x.1.place ≡ a.place + byte_len w)
    × (length x.1.rest + byte_len w ≤ length a.rest) in
    let one : (s.0.1.place ≡ a.place + byte_len w)
    × (length s.0.1.rest + byte_len w ≤ length a.rest) =
    subst One (ok_is Short (
      from_be_bytes w (take (byte_len w) a.rest),
      after (byte_len w) a,
    ) s.0 g.1) (refl, omega (arith, length-drop (byte_len w) a.rest)) in
    let Two : Text × At → Type 0 = λ x. (x.1.place ≡ s.0.1.place + length x.0)
    × (length x.1.rest ≤ length s.0.1.rest) in
    let two : (b.place ≡ s.0.1.place + length bytes) × (length b.rest ≤ length s.0.1.rest) =
    subst Two (ok_is Short (take count s.0.1.rest, after count s.0.1) (bytes, b) u.1) (
      omega (arith, length-take-le count s.0.1.rest fits),
      omega (arith, length-drop count s.0.1.rest),
    ) in
    record { place = omega (arith, one.0, two.0); less = omega (arith, one.1, two.1) }

-- A vector takes at least the bytes of its length.
pub vector_forward : (w : Width) (a : At) (bytes : Text) (b : At) → vector_at w a ≡ Ok (bytes, b)
    → length b.rest + byte_len w ≤ length a.rest
vector_forward w a bytes b e = (vector_moves w a bytes b e).less

pub vector_takes : (w : Width) → Takes (byte_len w) (vector_at w)
vector_takes w = record { less = vector_forward w }

-- A vector's bytes, read from a position of their own, end where the vector does.
pub inner_end : (w : Width) (a b : At) (r : Result At Short)
    → Reads (λ (inner : At). inner) (inner_at w) a r b
    → IfOk r (λ inner. b.place ≡ inner.place + length inner.rest)
inner_end w a b (Ok inner) e =
    let following : Text × At → At × At =
    λ v. (record { place = a.place + byte_len w; rest = v.0 }, v.1) in
    let s = bind_ok (vector_at w a) (λ (v : Text × At). Ok (following v)) (inner, b) e in
    let P : At × At → Type 0 = λ x. x.1.place ≡ x.0.place + length x.0.rest in
    subst P (ok_is Short (following s.0) (inner, b) s.2) (vector_moves w a s.0.0 s.0.1 s.1).place
inner_end w a b (Err why) e = tt
