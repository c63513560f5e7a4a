-- Numbers as forms.
use Rattle.std.proofs.Common.{◌≡◌, ℕ, ◌^◌, ◌<◌, ◌≤◌, false, List, [], ◌∷◌, ◌++◌, length, take, Ok}
use Rattle.std.proofs.Common.{refl, ap, subst, arith, ltb, le-ltb, ltb-false, mod-eq_of_lt}
use Rattle.std.specs.Int.{Width, w8, w16, w32, w64, byte_len, from_be_bytes}
use Rattle.std.proofs.lemmas.List.{take_at, drop_at, length-append, length-take}
use Rattle.std.proofs.lemmas.Nat.{be_bytes_2, be_bytes_4, be_bytes_8, from_be_bytes-to_be_bytes_2}
use Rattle.std.proofs.lemmas.Nat.{from_be_bytes-to_be_bytes_4, from_be_bytes-to_be_bytes_8}
use Rattle.byte_formats.specs.Offsets.{At, IsBytes, after}
use Rattle.byte_formats.specs.Forms.{Stands, IsForm, Anything, itself}
use Rattle.byte_formats.proofs.Steps.{guard_ok, ok_is, IsBytes-take, Stands-prefix}
use Rattle.tls_wire.specs.declared.cursor.Short.{Short}
use Rattle.tls_wire.specs.Reading.{short, bytes_at, number_at}
use Rattle.tls_wire.specs.Encoding.{number}

-- The numbers below the limit and the byte strings of a width are each other's.
pub record IsWide (w : Width) (limit : ℕ) : Type 0 where
  pub len : (n : ℕ) → length (number w n) ≡ byte_len w
  pub back : (bytes : List ℕ) → length bytes ≡ byte_len w → IsBytes bytes
      → number w (from_be_bytes w bytes) ≡ bytes
  pub again : (n : ℕ) → n < limit → from_be_bytes w (number w n) ≡ n
  pub below : (bytes : List ℕ) → IsBytes bytes → from_be_bytes w bytes < limit

one_byte : (bytes : List ℕ) → length bytes ≡ 1 → IsBytes bytes
    → number w8 (from_be_bytes w8 bytes) ≡ bytes
one_byte [] len h = absurd (omega arith)
one_byte (b ∷ []) len h = let small : b < 256 = h 0 in ap (λ (n : ℕ). n ∷ []) (mod-eq_of_lt small)
one_byte (b ∷ c ∷ bytes) len h = absurd (omega arith)

pub wide8 : IsWide w8 (2 ^ 8)
wide8 = record {
  len = λ n. refl;
  back = one_byte;
  again = λ n lt. mod-eq_of_lt lt;
  below = λ bytes h. omega (arith, h 0);
}

pub wide16 : IsWide w16 (2 ^ 16)
wide16 = record {
  len = λ n. refl;
  back = λ bytes len h. be_bytes_2 bytes _ len h refl;
  again = λ n lt. from_be_bytes-to_be_bytes_2 n lt;
  below = λ bytes h. omega (arith, h 0, h 1);
}

pub wide32 : IsWide w32 (2 ^ 32)
wide32 = record {
  len = λ n. refl;
  back = λ bytes len h. be_bytes_4 bytes _ len h refl;
  again = λ n lt. from_be_bytes-to_be_bytes_4 n lt;
  below = λ bytes h. omega (arith, h 0, h 1, h 2, h 3);
}

pub wide64 : IsWide w64 (2 ^ 64)
wide64 = record {
  len = λ n. refl;
  back = λ bytes len h. be_bytes_8 bytes _ len h refl;
  again = λ n lt. from_be_bytes-to_be_bytes_8 n lt;
  below = λ bytes h. omega (arith, h 0, h 1, h 2, h 3, h 4, h 5, h 6, h 7);
}

pub bytes_form : (count : ℕ) → IsForm itself (λ bytes. length bytes ≡ count) Anything
    (bytes_at count)
bytes_form count = record {
  takes = λ a bytes b h e.
      let g = guard_ok (ltb (length a.rest) count) (short a) (Ok (take count a.rest, after count a))
      (bytes, b) e in
      let long : count ≤ length a.rest = ltb-false _ _ g.0 in
      let P : List ℕ × At → Type 0 = λ v. Stands a v.0 v.1 × (length v.0 ≡ count) in
      subst P (ok_is Short (take count a.rest, after count a) (bytes, b) g.1)
      (Stands-prefix a count long h, omega (arith, length-take count a.rest));
  again = λ bytes p rest f q.
      let long : ltb (length (bytes ++ rest)) count ≡ false =
      le-ltb _ _ (omega (arith, length-append bytes rest)) in
      rw (long, take_at bytes rest count f, drop_at bytes rest count f, f) refl;
}

pub number_form : (w : Width) (limit : ℕ) → IsWide w limit
    → IsForm (number w) (λ n. n < limit) Anything (number_at w)
number_form w limit wide = record {
  takes = λ a n b h e.
      let prefix = take (byte_len w) a.rest in
      let g = guard_ok (ltb (length a.rest) (byte_len w)) (short a) (Ok (
        from_be_bytes w prefix,
        after (byte_len w) a,
      )) (n, b) e in
      let long : byte_len w ≤ length a.rest = ltb-false _ _ g.0 in
      let bytes = IsBytes-take (byte_len w) a.rest h in
      let same = wide.back prefix (omega (arith, length-take (byte_len w) a.rest)) bytes in
      let P : ℕ × At → Type 0 = λ v. Stands a (number w v.0) v.1 × (v.0 < limit) in
      subst P (ok_is Short (from_be_bytes w prefix, after (byte_len w) a) (n, b) g.1)
      (rw same (Stands-prefix a (byte_len w) long h), wide.below prefix bytes);
  again = λ n p rest f q.
      let len = wide.len n in
      let long : ltb (length (number w n ++ rest)) (byte_len w) ≡ false =
      le-ltb _ _ (omega (arith, length-append (number w n) rest)) in
      rw (
        long,
        take_at (number w n) rest (byte_len w) len,
        drop_at (number w n) rest (byte_len w) len,
        wide.again n f,
        len,
      ) refl;
}

-- Numbers of eight bytes.
pub word_form : IsForm (number w64) (λ n. n < 2 ^ 64) Anything (number_at w64)
word_form = number_form w64 (2 ^ 64) wide64
