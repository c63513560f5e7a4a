-- Vectors at another offset: the same bytes are read, and the same faults are met.
use Rattle.std.proofs.Common.{◌≡◌, ℕ, ◌+◌, ◌≤◌, ◌<◌, Bool, true, false, ◌++◌, length, take, drop}
use Rattle.std.proofs.Common.{Result, Ok, Err, refl, sym, ap, ◌∙◌, arith}
use Rattle.std.specs.Prelude.{nat_lt, if◌then◌else◌}
use Rattle.std.specs.Int.{Width, w16, byte_len, from_be_bytes}
use Rattle.std.proofs.lemmas.List.{length-append}
use Rattle.byte_formats.specs.Types.{Text}
use Rattle.byte_formats.specs.Offsets.{At, IsBytes, after, at}
use Rattle.byte_formats.specs.Readings.{◌>>=◌, blamed, both_at, found}
use Rattle.tls_wire.proofs.Numbers.{wide16}
use Rattle.tls_wire.proofs.Vectors.{vector_form}
use Rattle.tls_wire.specs.Encoding.{vector}
use Rattle.tls_wire.specs.declared.cursor.Short.{Short}
use Rattle.tls_wire.specs.Reading.{ahead_at, bytes_at, number_at, vector_at}
use Rattle.entry_stream.specs.Parts.{parts_at}

-- What is read of the same bytes so many bytes further on.
abbrev pub place_moved : ℕ → At → At
place_moved p a = record { place = p + a.place; rest = a.rest }

abbrev pub moved : {X : Type 0} → ℕ → Result (X × At) Short → Result (X × At) Short
moved p (Ok x) = Ok (x.0, place_moved p x.1)
moved p (Err s) = Err (record { place = p + s.place })

-- The same step after what is read there.
bind_moved : {X Y : Type 0} (p : ℕ) (r : Result (X × At) Short)
    (here there : X × At → Result (Y × At) Short)
    → ((x : X × At) → there (x.0, place_moved p x.1) ≡ moved p (here x))
    → (moved p r >>= there) ≡ moved p (r >>= here)
bind_moved p (Ok x) here there same = same x
bind_moved p (Err s) here there same = refl

either_moved : {X : Type 0} (p k far : ℕ) (few : Bool) (x : X) (rest : Text)
    → (if few then Err (record { place = p + k }) else Ok (
      x,
      record { place = p + k + far; rest = rest },
    ))
    ≡ moved p (if few then Err (record { place = k }) else Ok (
      x,
      record { place = k + far; rest = rest },
    ))
either_moved p k far true x rest = refl
either_moved p k far false x rest =
    let same : p + k + far ≡ p + (k + far) = omega arith in
    ap (λ (n : ℕ). Ok (x, record { place = n; rest = rest })) same

number_moved : (w : Width) (p : ℕ) (a : At)
    → number_at w (place_moved p a) ≡ moved p (number_at w a)
number_moved w p a =
    either_moved p a.place (byte_len w) (nat_lt (length a.rest) (byte_len w))
    (from_be_bytes w (take (byte_len w) a.rest)) (drop (byte_len w) a.rest)

bytes_moved : (count p : ℕ) (a : At)
    → bytes_at count (place_moved p a) ≡ moved p (bytes_at count a)
bytes_moved count p a =
    either_moved p a.place count (nat_lt (length a.rest) count) (take count a.rest)
    (drop count a.rest)

blamed_moved : {X : Type 0} (p k : ℕ) (r : Result (X × At) Short)
    → blamed (record { place = p + k }) (moved p r) ≡ moved p (blamed (record { place = k }) r)
blamed_moved p k (Ok x) = refl
blamed_moved p k (Err s) = refl

pub vector_moved : (w : Width) (p : ℕ) (a : At)
    → vector_at w (place_moved p a) ≡ moved p (vector_at w a)
unfolding vector_at
vector_moved w p a =
    ap (λ (r : Result (ℕ × At) Short). r >>= λ (n : ℕ × At). ahead_at n.0 n.1 (place_moved p a))
    (number_moved w p a)
    ∙ bind_moved p (number_at w a) (λ (n : ℕ × At). ahead_at n.0 n.1 a)
    (λ (n : ℕ × At). ahead_at n.0 n.1 (place_moved p a))
    (λ (n : ℕ × At). ap (blamed (record { place = p + a.place })) (bytes_moved n.0 p n.1)
    ∙ blamed_moved p a.place (bytes_at n.0 n.1))

pub parts_moved : (p : ℕ) (a : At) → parts_at (place_moved p a) ≡ moved p (parts_at a)
unfolding parts_at
parts_moved p a =
    ap (λ (r : Result (Text × At) Short). r >>= λ (x : Text × At). vector_at w16 x.1
    >>= λ (y : Text × At). Ok ((x.0, y.0), y.1)) (vector_moved w16 p a)
    ∙ bind_moved p (vector_at w16 a)
    (λ (x : Text × At). vector_at w16 x.1 >>= λ (y : Text × At). Ok ((x.0, y.0), y.1))
    (λ (x : Text × At). vector_at w16 x.1 >>= λ (y : Text × At). Ok ((x.0, y.0), y.1))
    (λ (x : Text × At). ap (λ (r : Result (Text × At) Short). r
    >>= λ (y : Text × At). Ok ((x.0, y.0), y.1)) (vector_moved w16 p x.1)
    ∙ bind_moved p (vector_at w16 x.1) (λ (y : Text × At). Ok ((x.0, y.0), y.1))
    (λ (y : Text × At). Ok ((x.0, y.0), y.1)) (λ (y : Text × At). refl))

-- ---- where a fault stands

blamed_err : {X : Type 0} (fault s : Short) (r : Result X Short) → blamed fault r ≡ Err s
    → s ≡ fault
blamed_err fault s (Ok x) e = absurd cc
blamed_err fault s (Err t) e = cc

-- A vector that doesn't fit begins at its length.
pub short_begins : (w : Width) (a : At) (s : Short) → vector_at w a ≡ Err s → s.place ≡ a.place
unfolding vector_at
short_begins w a s e =
    go (nat_lt (length a.rest) (byte_len w)) (
      from_be_bytes w (take (byte_len w) a.rest),
      after (byte_len w) a,
    ) e
  where
    go : (few : Bool) (n : ℕ × At)
        → ((if few then Err (record { place = a.place }) else Ok n)
        >>= λ (x : ℕ × At). ahead_at x.0 x.1 a) ≡ Err s → s.place ≡ a.place
    go true n f = let same : s ≡ record { place = a.place } = cc in ap (λ (t : Short). t.place) same
    go false n f =
        ap (λ (t : Short). t.place)
        (blamed_err (record { place = a.place }) s (bytes_at n.0 n.1) f)

-- The second of two vectors that doesn't fit begins within the bytes.
pub second_begins : (bytes entry : Text) (b : At) (s : Short) → IsBytes bytes
    → vector_at w16 (at bytes 0) ≡ Ok (entry, b) → vector_at w16 b ≡ Err s
    → s.place ≤ length bytes
second_begins bytes entry b s are first second =
    let t = (vector_form w16 65536 wide16).takes (at bytes 0) entry b are first in
    let begins = short_begins w16 b s second in
    let place = t.0.place in
    let cut = ap length t.0.parts in
    let both = length-append (vector w16 entry) b.rest in
    omega arith
