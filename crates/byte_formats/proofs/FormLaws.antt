-- The laws of forms: a reading made by a combinator is a form where the readings that it is made of
-- are. The form comes first in each call, and says the rest.
use Rattle.std.proofs.Common.{◌≡◌, ◌≢◌, ℕ, ◌+◌, ◌<◌, Bool, true, false, [], ◌∷◌, ◌++◌, length}
use Rattle.std.proofs.Common.{Result, Ok, Err, Option, Some, None, IfSome, refl, sym, ap, subst}
use Rattle.std.proofs.Common.{◌∙◌, append_assoc, append-nil, arith, inl, inr, ◌⊎◌, eq-eqb, ne_eqb}
use Rattle.std.proofs.Common.{eqb-true}
use Rattle.std.specs.Prelude.{if◌then◌else◌, ◌==◌}
use Rattle.std.proofs.lemmas.List.{length-append, nil_from_length}
use Rattle.byte_formats.specs.Types.{Text}
use Rattle.byte_formats.specs.Offsets.{At, IsBytes, begins_with}
use Rattle.byte_formats.specs.Readings.{Reading, ◌>>=◌, both_at, lifted_at, mapped_at, tested_at}
use Rattle.byte_formats.specs.Readings.{headed_at, optional_at, or_nothing_at, last_at, some_at}
use Rattle.byte_formats.specs.Readings.{refused_at, blamed_at, whole_of}
use Rattle.byte_formats.specs.Forms.{Stands, IsForm, Anything, Nothing, OtherThan, itself, both}
use Rattle.byte_formats.specs.Forms.{FitsBoth, optional}
use Rattle.byte_formats.proofs.Steps.{bind_ok, blamed_ok, lifted_ok, chosen, guard_ok, pass_ok}
use Rattle.byte_formats.proofs.Steps.{ok_is, Stands-then, Stands-none}

-- What doesn't begin with a byte.
begins_with-other : (byte : ℕ) (rest : Text) → OtherThan byte rest → begins_with byte rest ≡ false
begins_with-other byte [] h = refl
begins_with-other byte (first ∷ rest) h = ne_eqb first byte h

-- ---- steps

-- After no bytes the position is the same.
pub none_following : (a : At) → a ≡ record { place = a.place + 0; rest = a.rest }
none_following a =
    let same : a.place ≡ a.place + 0 = omega arith in
    let at_place : ℕ → At = λ n. record { place = n; rest = a.rest } in
    ap at_place same

-- Bytes after which nothing is left are all of the input.
pub Stands-all : (a : At) (x : Text) (b : At) → Stands a x b → b.rest ≡ [] → a.rest ≡ x
Stands-all a x b s none = s.parts ∙ (ap (λ (t : Text). x ++ t) none ∙ append-nil x)

abbrev answered : {A : Type 0} (E : Type 0) → A → Result A E
answered E x = Ok x

-- If a value is all there was, it was read, and nothing is left.
whole_ok : {X E : Type 0} (r : Result (X × At) E) (x : X) → whole_of r ≡ Some x
    → (b : At) × (r ≡ Ok (x, b)) × (b.rest ≡ [])
whole_ok (Err d) x e = absurd cc
whole_ok {X} {E} (Ok v) x e = go (length v.1.rest == 0) refl e
  where
    go : (none : Bool) → (length v.1.rest == 0) ≡ none
        → (if none then Some v.0 else None) ≡ Some x
        → (b : At) × (answered E v ≡ Ok (x, b)) × (b.rest ≡ [])
    go true test some =
        let same : v.0 ≡ x = cc in (
          v.1,
          ap (λ (y : X). Ok (y, v.1)) same,
          nil_from_length v.1.rest (eqb-true (length v.1.rest) 0 test),
        )
    go false test some = absurd cc

module _ {X E : Type 0} {encode : X → Text} {Fits : X → Type 0} {Follows : Text → Type 0}
    {read : Reading X E} (form : IsForm encode Fits Follows read) where
  -- ---- the same form, said otherwise

  -- What fits and what follows, said otherwise.
  pub said_form : {Fits' : X → Type 0} {Follows' : Text → Type 0}
      → ((x : X) → Fits x → Fits' x) → ((x : X) → Fits' x → Fits x)
      → ((rest : Text) → Follows' rest → Follows rest) → IsForm encode Fits' Follows' read
  said_form to from follows = record {
    takes = λ a x b h e. let t = form.takes a x b h e in (t.0, to x t.1);
    again = λ x p rest f q. form.again x p rest (from x f) (follows rest q);
  }

  -- What fits, said otherwise.
  pub fits_form : {Fits' : X → Type 0}
      → ((x : X) → Fits x → Fits' x) → ((x : X) → Fits' x → Fits x)
      → IsForm encode Fits' Follows read
  fits_form to from = said_form to from (λ rest q. q)

  -- Another encoding of the same bytes.
  pub encoded_form : {encode' : X → Text} → ((x : X) → Fits x → encode x ≡ encode' x)
      → IsForm encode' Fits Follows read
  encoded_form same = record {
    takes = λ a x b h e. let t = form.takes a x b h e in (rw (← same x t.1) t.0, t.1);
    again = λ x p rest f q. rw (← same x f) (form.again x p rest f q);
  }

  -- A form that may be followed by nothing, at the end of what is left.
  pub ended_form : Follows [] → IsForm encode Fits Nothing read
  ended_form nil = said_form (λ x f. f) (λ x f. f) (λ rest q. rw q nil)

  -- ---- to the end of the bytes

  -- What is read to the end is encoded by all of the bytes.
  pub to_end_takes : (a : At) (x : X) (b : At) → IsBytes a.rest → read a ≡ Ok (x, b)
      → b.rest ≡ [] → (a.rest ≡ encode x) × Fits x
  to_end_takes a x b h e none =
      let t = form.takes a x b h e in
      (Stands-all a (encode x) b t.0 none, t.1)

  -- An encoding is read to its end.
  pub to_end_again : Follows [] → (x : X) (place : ℕ) → Fits x
      → read (record { place = place; rest = encode x })
      ≡ Ok (x, record { place = place + length (encode x); rest = [] })
  to_end_again nil x p f =
      ap (λ (t : Text). read (record { place = p; rest = t })) (sym (append-nil (encode x)))
      ∙ form.again x p [] f nil

  -- The same, where the answer is what was read or nothing.
  pub whole_takes : (a : At) (x : X) → IsBytes a.rest → whole_of (read a) ≡ Some x
      → (a.rest ≡ encode x) × Fits x
  whole_takes a x h e = let w = whole_ok (read a) x e in to_end_takes a x w.0 h w.1 w.2

  pub whole_again : Follows [] → (x : X) (place : ℕ) → Fits x
      → whole_of (read (record { place = place; rest = encode x })) ≡ Some x
  whole_again nil x p f = ap whole_of (to_end_again nil x p f)

  -- ---- what a form says of its encodings

  same_text : (x y : X) (s t : Text) → Fits x → Fits y → Follows s → Follows t
      → encode x ++ s ≡ encode y ++ t → (x ≡ y) × (s ≡ t)
  same_text x y s t fx fy fs ft same =
      let a : At = record { place = 0 + length (encode x); rest = s } in
      let b : At = record { place = 0 + length (encode y); rest = t } in
      let e : (x, a) ≡ (y, b) = ok_is E (x, a) (y, b) (sym (form.again x 0 s fx fs)
      ∙ (ap (λ (u : Text). read (record { place = 0; rest = u })) same
      ∙ form.again y 0 t fy ft)) in
      (ap (λ (v : X × At). v.0) e, ap (λ (v : X × At). v.1.rest) e)

  -- One value has one encoding: where nothing follows, equal encodings are of equal values.
  pub one_value : Follows [] → (x y : X) → Fits x → Fits y → encode x ≡ encode y → x ≡ y
  one_value nil x y fx fy same =
      (same_text x y [] [] fx fy nil nil (ap (λ (u : Text). u ++ []) same)).0

  -- ---- combinators

  module _ {Y : Type 0} {encode' : Y → Text} {Fits' : Y → Type 0} {Follows' : Text → Type 0}
      {read' : Reading Y E} (second : IsForm encode' Fits' Follows' read') where
    -- Two values, one after the other.
    pub both_form : ((y : Y) (rest : Text) → Fits' y → Follows' rest → Follows (encode' y ++ rest))
        → IsForm (both encode encode') (FitsBoth Fits Fits') Follows' (both_at read read')
    both_form follows = record {
      takes = λ a x b h e.
          let s = bind_ok (read a) (λ (v : X × At). read' v.1 >>= λ (w : Y × At).
          Ok ((v.0, w.0), w.1)) (x, b) e in
          let t = bind_ok (read' s.0.1) (λ (w : Y × At). Ok ((s.0.0, w.0), w.1)) (x, b) s.2 in
          let f = form.takes a s.0.0 s.0.1 h s.1 in
          let g = second.takes s.0.1 t.0.0 t.0.1 f.0.bytes t.1 in
          let P : (X × Y) × At → Type 0 = λ v. Stands a (both encode encode' v.0) v.1
          × FitsBoth Fits Fits' v.0 in
          subst P (ok_is E ((s.0.0, t.0.0), t.0.1) (x, b) t.2)
          (Stands-then a (encode s.0.0) s.0.1 (encode' t.0.0) t.0.1 f.0 g.0, (f.1, g.1));
      again = λ x p rest f q.
          let one = form.again x.0 p (encode' x.1 ++ rest) f.0 (follows x.1 rest f.1 q) in
          let two = second.again x.1 (p + length (encode x.0)) rest f.1 q in
          let far : p + length (encode x.0) + length (encode' x.1)
          ≡ p + length (both encode encode' x) =
          omega (arith, length-append (encode x.0) (encode' x.1)) in
          ap (λ (t : Text). both_at read read' (record { place = p; rest = t }))
          (append_assoc (encode x.0) (encode' x.1) rest) ∙ rw (one, two, far) refl;
    }

  -- A value seen by f, which g undoes.
  pub mapped_form : {Y : Type 0} (f : X → Y) (g : Y → X)
      → ((x : X) → Fits x → g (f x) ≡ x) → ((y : Y) → Fits (g y) → f (g y) ≡ y)
      → IsForm (λ y. encode (g y)) (λ y. Fits (g y)) Follows (mapped_at f read)
  mapped_form {Y} f g back there = record {
    takes = λ a y b h e.
        let s = bind_ok (read a) (λ (v : X × At). Ok (f v.0, v.1)) (y, b) e in
        let t = form.takes a s.0.0 s.0.1 h s.1 in
        let P : Y × At → Type 0 = λ v. Stands a (encode (g v.0)) v.1 × Fits (g v.0) in
        subst P (ok_is E (f s.0.0, s.0.1) (y, b) s.2) (rw (back s.0.0 t.1) t);
    again = λ y p rest fits q. rw (form.again (g y) p rest fits q, there y fits) refl;
  }

  -- A value that passes a test.
  pub tested_form : (test : X → Bool) (fault : E)
      → IsForm encode (λ x. Fits x × (test x ≡ true)) Follows (tested_at test fault read)
  tested_form test fault = record {
    takes = λ a x b h e.
        let s = bind_ok (read a) (λ (v : X × At). if test v.0 then Ok v else Err fault) (x, b) e in
        let g = pass_ok (test s.0.0) (Ok s.0) fault (x, b) s.2 in
        let t = form.takes a s.0.0 s.0.1 h s.1 in
        let P : X × At → Type 0 = λ v. Stands a (encode v.0) v.1 × (Fits v.0 × (test v.0 ≡ true)) in
        subst P (ok_is E s.0 (x, b) g.1) (t.0, (t.1, g.0));
    again = λ x p rest f q. rw (form.again x p rest f.0 q, f.1) refl;
  }

  -- A value before which a fault is looked for, in what is left.
  pub refused_form : (test : Text → Bool) (fault : E)
      → ((x : X) (rest : Text) → Fits x → Follows rest → test (encode x ++ rest) ≡ false)
      → IsForm encode Fits Follows (refused_at test fault read)
  refused_form test fault clear = record {
    takes = λ a x b h e. form.takes a x b h (guard_ok (test a.rest) fault (read a) (x, b) e).1;
    again = λ x p rest f q. rw (clear x rest f q) (form.again x p rest f q);
  }

  -- A value, all of whose faults are one.
  pub blamed_form : {F : Type 0} (fault : F) → IsForm encode Fits Follows (blamed_at fault read)
  blamed_form fault = record {
    takes = λ a x b h e. form.takes a x b h (blamed_ok fault (read a) (x, b) e);
    again = λ x p rest f q. rw (form.again x p rest f q) refl;
  }

  -- A value, whose fault is seen as another kind of fault.
  pub lifted_form : {F : Type 0} (fault : E → F)
      → IsForm encode Fits Follows (lifted_at fault read)
  lifted_form fault = record {
    takes = λ a x b h e. form.takes a x b h (lifted_ok fault (read a) (x, b) e);
    again = λ x p rest f q. rw (form.again x p rest f q) refl;
  }

  module _ (byte : ℕ)
      (begins : (x : X) (rest : Text) → Fits x → begins_with byte (encode x ++ rest) ≡ true) where
    -- A value whose encoding begins with a byte.
    pub headed_form : (fault : E) → IsForm encode Fits Follows (headed_at byte fault read)
    headed_form fault = record {
      takes = λ a x b h e.
          form.takes a x b h (pass_ok (begins_with byte a.rest) (read a) fault (x, b) e).1;
      again = λ x p rest f q. rw (begins x rest f) (form.again x p rest f q);
    }

    optional_again : (x : Option X) (place : ℕ) (rest : Text) → IfSome x Fits
        → Follows rest × OtherThan byte rest
        → optional_at byte read (record { place = place; rest = optional encode x ++ rest })
        ≡ Ok (x, record { place = place + length (optional encode x); rest = rest })
    optional_again None p rest f q = rw (begins_with-other byte rest q.1)
        (ap (λ (a : At). Ok (None, a)) (none_following (record { place = p; rest = rest })))
    optional_again (Some x) p rest f q = rw (begins x rest f, form.again x p rest f q.0) refl

    -- A value where a byte stands, and none elsewhere.
    pub optional_form : IsForm (optional encode) (λ x. IfSome x Fits)
        (λ rest. Follows rest × OtherThan byte rest) (optional_at byte read)
    optional_form = record {
      takes = λ a x b h e.
          let P : Option X × At → Type 0 = λ v. Stands a (optional encode v.0) v.1
          × IfSome v.0 Fits in
          let some : X × At → Result (Option X × At) E = λ v. Ok (Some v.0, v.1) in
          elim (chosen (begins_with byte a.rest) (read a >>= some) (Ok (None, a)) (Ok (x, b)) e) [
            | inl c ↦
                let s = bind_ok (read a) some (x, b) c.1 in
                subst P (ok_is E (Some s.0.0, s.0.1) (x, b) s.2) (form.takes a s.0.0 s.0.1 h s.1)
            | inr c ↦ subst P (ok_is E (None, a) (x, b) c.1) (Stands-none a h, tt)
          ];
      again = optional_again;
    }

-- Two values, the first of which has its own end.
pub then_form : {X Y E : Type 0} {encode : X → Text} {Fits : X → Type 0} {read : Reading X E}
    {encode' : Y → Text} {Fits' : Y → Type 0} {Follows' : Text → Type 0} {read' : Reading Y E}
    → IsForm encode Fits Anything read → IsForm encode' Fits' Follows' read'
    → IsForm (both encode encode') (FitsBoth Fits Fits') Follows' (both_at read read')
then_form first second = both_form first second (λ y rest f q. tt)

-- No encoding of a form that has its own end begins another one.
pub one_form : {X E : Type 0} {encode : X → Text} {Fits : X → Type 0} {read : Reading X E}
    → IsForm encode Fits Anything read
    → (x y : X) (s t : Text) → Fits x → Fits y → encode x ++ s ≡ encode y ++ t → (x ≡ y) × (s ≡ t)
one_form form x y s t fx fy same = same_text form x y s t fx fy tt tt same

-- A value that takes all that is left, where something is left.
pub some_form : {X E : Type 0} {encode : X → Text} {Fits : X → Type 0} {read : Reading X E}
    → IsForm encode Fits Nothing read → (fault : E)
    → ((a : At) (x : X) (b : At) → IsBytes a.rest → read a ≡ Ok (x, b) → b.rest ≡ [])
    → IsForm encode (λ x. Fits x × (0 < length (encode x))) Nothing (some_at fault read)
some_form {X} {E} {encode} {Fits} {read} form fault drains = record {
  takes = λ a x b h e.
      let g = guard_ok (length a.rest == 0) fault (read a) (x, b) e in
      let t = form.takes a x b h g.1 in
      let some : length a.rest ≢ 0 = λ none. true_is_not_false (length a.rest) none g.0 in
      let all : length a.rest ≡ length (encode x) + length b.rest = ap length t.0.parts
      ∙ length-append (encode x) b.rest in
      let nothing : length b.rest ≡ 0 = ap length (drains a x b h g.1) in
      (t.0, (t.1, omega arith));
  again = λ x p rest f q.
      let long : length (encode x ++ rest) ≢ 0 =
      omega (arith, f.1, length-append (encode x) rest) in
      rw (ne_eqb (length (encode x ++ rest)) 0 long) (form.again x p rest f.0 q);
}
  where
    true_is_not_false : (n : ℕ) → n ≡ 0 → (n == 0) ≡ false → ⊥
    true_is_not_false n zero_is other = cc (eq-eqb n 0 zero_is)

-- ---- values that are read as their bytes

module _ {E : Type 0} {Fits : Text → Type 0} {Follows : Text → Type 0} {read : Reading Text E}
    (form : IsForm itself Fits Follows read) where
  -- A value where a byte stands, and no bytes elsewhere.
  pub or_nothing_form : (byte : ℕ)
      → ((bytes rest : Text) → Fits bytes → begins_with byte (bytes ++ rest) ≡ true)
      → IsForm itself (λ bytes. (bytes ≡ []) ⊎ Fits bytes)
      (λ rest. Follows rest × OtherThan byte rest) (or_nothing_at byte read)
  or_nothing_form byte begins = record {
    takes = λ a x b h e.
        let P : Text × At → Type 0 = λ v. Stands a v.0 v.1 × ((v.0 ≡ []) ⊎ Fits v.0) in
        elim (chosen (begins_with byte a.rest) (read a) (Ok ([], a)) (Ok (x, b)) e) [
          | inl c ↦ let t = form.takes a x b h c.1 in (t.0, inr t.1)
          | inr c ↦ subst P (ok_is E ([], a) (x, b) c.1) (Stands-none a h, inl refl)
        ];
    again = λ x p rest f q.
        let Goal : Text → Type 0 = λ t. or_nothing_at byte read (record {
          place = p;
          rest = t ++ rest;
        }) ≡ Ok (t, record { place = p + length t; rest = rest }) in
        elim f [
          | inl nil ↦ subst Goal (sym nil) (rw (begins_with-other byte rest q.1)
              (ap (λ (a : At). Ok ([], a)) (none_following (record { place = p; rest = rest }))))
          | inr fits ↦ rw (begins x rest fits) (form.again x p rest fits q.0)
        ];
  }

  -- A value, or no bytes, at the end.
  pub last_form : ((bytes : Text) → Fits bytes → 0 < length bytes) → Follows []
      → IsForm itself (λ bytes. (bytes ≡ []) ⊎ Fits bytes) Nothing (last_at read)
  last_form some nil = record {
    takes = λ a x b h e.
        let P : Text × At → Type 0 = λ v. Stands a v.0 v.1 × ((v.0 ≡ []) ⊎ Fits v.0) in
        elim (chosen (length a.rest == 0) (Ok ([], a)) (read a) (Ok (x, b)) e) [
          | inl c ↦ subst P (ok_is E ([], a) (x, b) c.1) (Stands-none a h, inl refl)
          | inr c ↦ let t = form.takes a x b h c.1 in (t.0, inr t.1)
        ];
    again = λ x p rest f q.
        let Goal : Text → Text → Type 0 =
        λ t u. last_at read (record { place = p; rest = t ++ u })
        ≡ Ok (t, record { place = p + length t; rest = u }) in
        subst (Goal x) (sym q) (elim f [
          | inl empty ↦
              let R : Text → Type 0 = λ t. Goal t [] in
              subst R (sym empty)
              (ap (λ (a : At). Ok ([], a)) (none_following (record { place = p; rest = [] })))
          | inr fits ↦
              let long : length (x ++ []) ≢ 0 = omega (arith, some x fits, length-append x []) in
              rw (ne_eqb (length (x ++ [])) 0 long) (form.again x p [] fits nil)
        ]);
  }
