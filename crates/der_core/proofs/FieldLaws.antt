-- The laws of fields: what is made of a form is a form. The form comes first in each call, and says
-- the rest.
use Rattle.std.proofs.Common.{◌≡◌, ℕ, ◌+◌, ◌-◌, ◌^◌, ◌<◌, [], ◌++◌, length, Result, Ok}
use Rattle.std.proofs.Common.{refl, sym, subst}
use Rattle.byte_formats.specs.Types.{Text}
use Rattle.byte_formats.specs.Offsets.{At, IsBytes, at}
use Rattle.byte_formats.specs.Readings.{Reading, ◌>>=◌, discarded}
use Rattle.byte_formats.specs.Forms.{Stands, IsForm, Anything, Nothing, IsEncoding, itself}
use Rattle.byte_formats.proofs.Steps.{bind_ok, discarded_ok, ok_is}
use Rattle.byte_formats.proofs.FormLaws.{to_end_takes, to_end_again}
use Rattle.der_core.specs.declared.fault.DerError.{DerError}
use Rattle.der_core.specs.declared.fault.CertError.{CertError}
use Rattle.der_core.specs.Elements.{element, IsTag, FitsElement}
use Rattle.der_core.specs.Items.{Item, inside}
use Rattle.der_core.specs.Reading.{wanted_at, end_at}
use Rattle.der_core.specs.Fields.{der, inside_at, whole_at, noted_at, decoded_at, all_of}
use Rattle.der_core.specs.Forms.{IsContents}
use Rattle.der_core.proofs.Elements.{wanted_again}
use Rattle.der_core.proofs.Fields.{der_ok, end_ok, contents_takes, stands_wanted, whole_wanted}

-- The value of an element, by the rule for its contents.
pub decoded_form : {X : Type 0} {encode : X → Text} {Fits : X → Type 0}
    {decode : ℕ → Text → Result X DerError}
    → IsContents encode Fits decode → (tag : ℕ) → IsTag tag
    → IsForm (λ x. element tag (encode x)) (λ x. Fits x × (length (encode x) < 2 ^ 24)) Anything
    (decoded_at tag decode)
decoded_form {X} {encode} {Fits} {decode} rule tag is_tag = record {
  takes = λ a x b h e.
      let s = bind_ok (der (wanted_at tag a)) (λ (v : Item
      × At). der (decode v.0.place v.0.contents) >>= λ (y : X). Ok (y, v.1)) (x, b) e in
      let t = bind_ok (der (decode s.0.0.place s.0.0.contents)) (λ (y : X). Ok (y, s.0.1)) (
        x,
        b,
      ) s.2 in
      let read = contents_takes tag a s.0.0 s.0.1 h s.1 in
      let known = rule.takes s.0.0.place s.0.0.contents t.0 read.0.bytes
      (der_ok (decode s.0.0.place s.0.0.contents) t.0 t.1) in
      let P : X × At → Type 0 = λ v. Stands a (element tag (encode v.0)) v.1
      × (Fits v.0 × (length (encode v.0) < 2 ^ 24)) in
      let Q : Text → Type 0 = λ c. Stands a (element tag c) s.0.1 × (length c < 2 ^ 24) in
      let text = subst Q known.0 (stands_wanted tag a s.0.0 s.0.1 read, read.0.fits.short) in
      subst P (ok_is CertError (t.0, s.0.1) (x, b) t.2) (text.0, (known.1, text.1));
  again = λ x p rest f q.
      rw (
        wanted_again tag (encode x) p rest (record { is_tag = is_tag; short = f.1 }),
        rule.again p x f.0,
      ) refl;
}

-- ---- what stands inside an element

module _ {X : Type 0} {encode : X → Text} {Fits : X → Type 0} {read : Reading X CertError}
    (form : IsForm encode Fits Nothing read) (tag : ℕ) (is_tag : IsTag tag) where
  abbrev Short : X → Type 0
  Short x = length (encode x) < 2 ^ 24

  -- What was read inside is all of the contents.
  inner_takes : (a : At) (e : Item) (b : At) (x : X) (c : At) (done : Unit {0}) → IsBytes a.rest
      → der (wanted_at tag a) ≡ Ok (e, b) → read (inside e) ≡ Ok (x, c)
      → der (end_at c) ≡ Ok done
      → Stands a (element tag (encode x)) b × (e.whole ≡ element tag (encode x))
      × (Fits x × Short x)
  inner_takes a e b x c done h outer inner end =
      let whole = contents_takes tag a e b h outer in
      let all = to_end_takes form (inside e) x c whole.0.bytes inner
      (end_ok c done (der_ok (end_at c) done end)) in
      let P : Text → Type 0 = λ t. Stands a (element tag t) b × (e.whole ≡ element tag t)
      × (length t < 2 ^ 24) in
      let known = subst P all.0 (
        stands_wanted tag a e b whole,
        whole_wanted tag a e b whole,
        whole.0.fits.short,
      ) in
      (known.0, known.1, (all.1, known.2))

  inner_again : (x : X) (p : ℕ) → Fits x
      → read (record {
        place = p + (length (element tag (encode x)) - length (encode x));
        rest = encode x;
      }) ≡ Ok (
        x,
        record {
          place = p + (length (element tag (encode x)) - length (encode x)) + length (encode x);
          rest = [];
        },
      )
  inner_again x p f = to_end_again form refl x
      (p + (length (element tag (encode x)) - length (encode x))) f

  fits_element : (x : X) → Short x → FitsElement tag (encode x)
  fits_element x short = record { is_tag = is_tag; short = short }

  -- What is read inside an element.
  pub inside_form : IsForm (λ x. element tag (encode x)) (λ x. Fits x × Short x) Anything
      (inside_at tag read)
  inside_form = record {
    takes = λ a x b h e.
        let s = bind_ok (der (wanted_at tag a)) (λ (v : Item × At). read (inside v.0) >>= λ (y : X
        × At). der (end_at y.1) >>= λ (done : Unit {0}). Ok (y.0, v.1)) (x, b) e in
        let t = bind_ok (read (inside s.0.0)) (λ (y : X
        × At). der (end_at y.1) >>= λ (done : Unit {0}). Ok (y.0, s.0.1)) (x, b) s.2 in
        let u = bind_ok (der (end_at t.0.1)) (λ (done : Unit {0}). Ok (t.0.0, s.0.1)) (x, b)
        t.2 in
        let known = inner_takes a s.0.0 s.0.1 t.0.0 t.0.1 u.0 h s.1 t.1 u.1 in
        let P : X × At → Type 0 = λ v. Stands a (element tag (encode v.0)) v.1
        × (Fits v.0 × Short v.0) in
        subst P (ok_is CertError (t.0.0, s.0.1) (x, b) u.2) (known.0, known.2);
    again = λ x p rest f q.
        rw (wanted_again tag (encode x) p rest (fits_element x f.1), inner_again x p f.0) refl;
  }

  -- The bytes of an element and what is read inside it.
  pub noted_form : IsForm (λ v. v.0) (λ (v : Text × X). (v.0 ≡ element tag (encode v.1))
      × (Fits v.1 × Short v.1)) Anything (noted_at tag read)
  noted_form = record {
    takes = λ a x b h e.
        let s = bind_ok (der (wanted_at tag a)) (λ (v : Item × At). read (inside v.0) >>= λ (y : X
        × At). der (end_at y.1) >>= λ (done : Unit {0}). Ok ((v.0.whole, y.0), v.1)) (x, b) e in
        let t = bind_ok (read (inside s.0.0)) (λ (y : X
        × At). der (end_at y.1) >>= λ (done : Unit {0}). Ok ((s.0.0.whole, y.0), s.0.1)) (
          x,
          b,
        ) s.2 in
        let u = bind_ok (der (end_at t.0.1))
        (λ (done : Unit {0}). Ok ((s.0.0.whole, t.0.0), s.0.1)) (x, b) t.2 in
        let known = inner_takes a s.0.0 s.0.1 t.0.0 t.0.1 u.0 h s.1 t.1 u.1 in
        let P : (Text × X) × At → Type 0 = λ v. Stands a v.0.0 v.1
        × ((v.0.0 ≡ element tag (encode v.0.1)) × (Fits v.0.1 × Short v.0.1)) in
        subst P (ok_is CertError ((s.0.0.whole, t.0.0), s.0.1) (x, b) u.2)
        (rw known.1 known.0, (known.1, known.2));
    again = λ x p rest f q.
        let P : Text → Type 0 = λ t. noted_at tag read (record { place = p; rest = t ++ rest })
        ≡ Ok ((t, x.1), record { place = p + length t; rest = rest }) in
        subst P (sym f.0) (rw (
          wanted_again tag (encode x.1) p rest (fits_element x.1 f.1.1),
          inner_again x.1 p f.1.0,
        ) refl);
  }

  -- The bytes of an element whose contents are read.
  pub whole_form : IsForm itself (IsEncoding (λ x. element tag (encode x))
      (λ x. Fits x × Short x)) Anything (whole_at tag read)
  whole_form = record {
    takes = λ a x b h e.
        let s = bind_ok (der (wanted_at tag a)) (λ (v : Item
        × At). discarded (read (inside v.0)) >>= λ (c : At). der
        (end_at c) >>= λ (done : Unit {0}). Ok (v.0.whole, v.1)) (x, b) e in
        let t = bind_ok (discarded (read (inside s.0.0)))
        (λ (c : At). der (end_at c) >>= λ (done : Unit {0}). Ok (s.0.0.whole, s.0.1)) (
          x,
          b,
        ) s.2 in
        let u = bind_ok (der (end_at t.0)) (λ (done : Unit {0}). Ok (s.0.0.whole, s.0.1)) (
          x,
          b,
        ) t.2 in
        let step = discarded_ok (read (inside s.0.0)) t.0 t.1 in
        let known = inner_takes a s.0.0 s.0.1 step.0 t.0 u.0 h s.1 step.1 u.1 in
        let P : Text × At → Type 0 = λ v. Stands a v.0 v.1
        × IsEncoding (λ x. element tag (encode x)) (λ x. Fits x × Short x) v.0 in
        subst P (ok_is CertError (s.0.0.whole, s.0.1) (x, b) u.2)
        (rw known.1 known.0, (step.0, known.2, known.1));
    again = λ bytes p rest f q.
        let P : Text → Type 0 = λ t. whole_at tag read (record { place = p; rest = t ++ rest })
        ≡ Ok (t, record { place = p + length t; rest = rest }) in
        subst P (sym f.2) (rw (
          wanted_again tag (encode f.0) p rest (fits_element f.0 f.1.1),
          inner_again f.0 p f.1.0,
        ) refl);
  }

-- ---- whole inputs

module _ {X : Type 0} {encode : X → Text} {Fits : X → Type 0} {read : Reading X CertError}
    (form : IsForm encode Fits Anything read) where
  -- Bytes that read up to their end are the encoding of what was read.
  pub all_takes : (bytes : Text) (x : X) → IsBytes bytes → all_of read bytes ≡ Ok x
      → (bytes ≡ encode x) × Fits x
  all_takes bytes x h e =
      let s = bind_ok (read (at bytes 0)) (λ (v : X × At). der (end_at v.1) >>=
      λ (done : Unit {0}). Ok v.0) x e in
      let t = bind_ok (der (end_at s.0.1)) (λ (done : Unit {0}). Ok s.0.0) x s.2 in
      let P : X → Type 0 = λ v. (bytes ≡ encode v) × Fits v in
      subst P (ok_is CertError s.0.0 x t.2) (to_end_takes form (at bytes 0) s.0.0 s.0.1 h s.1
      (end_ok s.0.1 t.0 (der_ok (end_at s.0.1) t.0 t.1)))

  -- An encoding reads up to its end.
  pub all_again : (x : X) → Fits x → all_of read (encode x) ≡ Ok x
  all_again x f = rw (to_end_again form tt x 0 f) refl
