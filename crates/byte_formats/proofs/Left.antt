-- Values one after the other, up to the first that doesn't read.
use Rattle.std.proofs.Common.{◌≡◌, ℕ, zero, suc, ◌+◌, ◌≤◌, Bool, List, [], ◌∷◌, length, Result, Ok}
use Rattle.std.proofs.Common.{Err, refl, sym, ap, subst, ◌∙◌, arith}
use Rattle.std.specs.Prelude.{if◌then◌else◌}
use Rattle.std.specs.List.{flat_map, AllByRecursion}
use Rattle.byte_formats.specs.Types.{Text}
use Rattle.byte_formats.specs.Offsets.{At}
use Rattle.byte_formats.specs.Readings.{Reading, ◌>>=◌, both_at, lifted_at, mapped_at, tested_at}
use Rattle.byte_formats.specs.Lists.{value_then}
use Rattle.byte_formats.specs.Left.{first_at, left_at}
use Rattle.byte_formats.specs.Forms.{IsForm, Anything}
use Rattle.byte_formats.proofs.Steps.{bind_ok, lifted_ok, ok_is, pass_ok}

-- ---- what is read takes at least so many bytes

pub record Takes {X E : Type 0} (least : ℕ) (read : Reading X E) : Type 0 where
  pub less : (a : At) (x : X) (b : At) → read a ≡ Ok (x, b)
      → length b.rest + least ≤ length a.rest

module _ {X E : Type 0} {least : ℕ} {read : Reading X E} (takes : Takes least read) where
  -- At least as many as a smaller number.
  pub less_takes : (fewer : ℕ) → fewer ≤ least → Takes fewer read
  less_takes fewer le = record { less = λ a x b e. omega (arith, takes.less a x b e, le) }

  pub lifted_takes : {F : Type 0} (fault : E → F) → Takes least (lifted_at fault read)
  lifted_takes fault = record {
    less = λ a x b e. takes.less a x b (lifted_ok fault (read a) (x, b) e);
  }

  pub tested_takes : (test : X → Bool) (fault : E) → Takes least (tested_at test fault read)
  tested_takes test fault = record {
    less = λ a x b e.
        let s = bind_ok (read a) (λ (v : X × At). if test v.0 then Ok v else Err fault) (x, b) e in
        let g = pass_ok (test s.0.0) (Ok s.0) fault (x, b) s.2 in
        let P : X × At → Type 0 = λ v. length v.1.rest + least ≤ length a.rest in
        subst P (ok_is E s.0 (x, b) g.1) (takes.less a s.0.0 s.0.1 s.1);
  }

  pub mapped_takes : {Y : Type 0} (f : X → Y) → Takes least (mapped_at f read)
  mapped_takes {Y} f = record {
    less = λ a y b e.
        let s = bind_ok (read a) (λ (v : X × At). Ok (f v.0, v.1)) (y, b) e in
        let P : Y × At → Type 0 = λ v. length v.1.rest + least ≤ length a.rest in
        subst P (ok_is E (f s.0.0, s.0.1) (y, b) s.2) (takes.less a s.0.0 s.0.1 s.1);
  }

  -- Two values, one after the other.
  pub then_takes : {Y : Type 0} {more : ℕ} {read' : Reading Y E} → Takes more read'
      → Takes (least + more) (both_at read read')
  then_takes {Y} {more} {read'} second = record {
    less = λ a x b e.
        let s = bind_ok (read a) (λ (v : X × At). read' v.1 >>= λ (w : Y × At).
        Ok ((v.0, w.0), w.1)) (x, b) e in
        let t = bind_ok (read' s.0.1) (λ (w : Y × At). Ok ((s.0.0, w.0), w.1)) (x, b) s.2 in
        let one = takes.less a s.0.0 s.0.1 s.1 in
        let two = second.less s.0.1 t.0.0 t.0.1 t.1 in
        let P : (X × Y) × At → Type 0 = λ v. length v.1.rest + (least + more) ≤ length a.rest in
        subst P (ok_is E ((s.0.0, t.0.0), t.0.1) (x, b) t.2) (omega (arith, one, two));
  }

-- ---- the first n values

module _ {X E : Type 0} (read : Reading X E) where
  first_step : (n : ℕ) (a : At) (r : Result (X × At) E) → read a ≡ r
      → first_at read (suc n) a ≡ value_then r (λ b. first_at read n b)
  unfolding first_at
  first_step n a r e = ap (λ (s : Result (X × At) E). value_then s (λ b. first_at read n b)) e

  -- One value, and those after it.
  pub first_next : (n : ℕ) (a : At) (x : X) (b : At) → read a ≡ Ok (x, b)
      → first_at read (suc n) a ≡ x ∷ first_at read n b
  first_next n a x b e = first_step n a (Ok (x, b)) e

  -- No value is left that reads.
  pub first_end : (n : ℕ) (a : At) (fault : E) → read a ≡ Err fault → first_at read n a ≡ []
  unfolding first_at
  first_end zero a fault e = refl
  first_end (suc n) a fault e = first_step n a (Err fault) e

  -- No value is left to read.
  pub first_none : (n : ℕ) (a : At) → n ≤ 0 → first_at read n a ≡ []
  unfolding first_at
  first_none zero a le = refl
  first_none (suc n) a le = absurd (omega (arith, le))

  pub left_end : (a : At) (fault : E) → read a ≡ Err fault → left_at read a ≡ []
  left_end a fault e = first_end (length a.rest) a fault e

-- ---- all of them, where each takes a byte at least

module _ {X E : Type 0} {read : Reading X E} (takes : Takes 1 read) where
  first_left : (n : ℕ) (a : At) → length a.rest ≤ 0 → first_at read n a ≡ []
  first_left n a le = go (read a) refl
    where
      go : (r : Result (X × At) E) → read a ≡ r → first_at read n a ≡ []
      go (Ok x) e = absurd (omega (arith, takes.less a x.0 x.1 e))
      go (Err fault) e = first_end read n a fault e

  -- Numbers that are at least that of the bytes that are left make no difference.
  enough : (n m : ℕ) (a : At) → length a.rest ≤ n → length a.rest ≤ m
      → first_at read n a ≡ first_at read m a
  enough zero m a le le' = first_none read zero a (omega arith) ∙ sym (first_left m a le)
  enough (suc n) zero a le le' =
      first_left (suc n) a le' ∙ sym (first_none read zero a (omega arith))
  enough (suc n) (suc m) a le le' = go (read a) refl (λ b. enough n m b)
    where
      go : (r : Result (X × At) E) → read a ≡ r
          → ((b : At) → length b.rest ≤ n → length b.rest ≤ m
          → first_at read n b ≡ first_at read m b)
          → first_at read (suc n) a ≡ first_at read (suc m) a
      go (Ok x) e next =
          let less = takes.less a x.0 x.1 e in
          first_next read n a x.0 x.1 e
          ∙ (ap (λ (xs : List X). x.0 ∷ xs) (next x.1 (omega arith) (omega arith))
          ∙ sym (first_next read m a x.0 x.1 e))
      go (Err fault) e next =
          first_end read (suc n) a fault e ∙ sym (first_end read (suc m) a fault e)

  -- One value, and those after it.
  pub left_next : (a : At) (x : X) (b : At) → read a ≡ Ok (x, b)
      → left_at read a ≡ x ∷ left_at read b
  left_next a x b e =
      let less = takes.less a x b e in
      enough (length a.rest) (suc (length a.rest)) a (omega arith) (omega arith)
      ∙ (first_next read (length a.rest) a x b e ∙ ap (λ (xs : List X). x ∷ xs)
      (enough (length a.rest) (length b.rest) b (omega arith) (omega arith)))

  -- An encoding of values is read as these values.
  pub left_found : {encode : X → Text} {Fits : X → Type 0} → IsForm encode Fits Anything read
      → (xs : List X) (place : ℕ) → AllByRecursion Fits xs
      → left_at read (record { place = place; rest = flat_map encode xs }) ≡ xs
  left_found form [] p f = first_none read 0 (record { place = p; rest = [] }) (omega arith)
  left_found {encode} form (x ∷ xs) p f =
      left_next (record { place = p; rest = flat_map encode (x ∷ xs) }) x
      (record { place = p + length (encode x); rest = flat_map encode xs })
      (form.again x p (flat_map encode xs) f.0 tt)
      ∙ ap (λ (ys : List X). x ∷ ys) (left_found form xs (p + length (encode x)) f.1)
