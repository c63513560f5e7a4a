-- The readings of elements as fields are forms.
use Rattle.std.proofs.Common.{◌≡◌, ℕ, ◌+◌, ◌%◌, ◌^◌, ◌<◌, false, List, [], ◌++◌, length}
use Rattle.std.proofs.Common.{Option, Result, Ok, Err, refl, sym, ap, subst, ◌∙◌, arith}
use Rattle.std.proofs.Common.{eq-eqb, eqb-true, true≢false}
use Rattle.std.specs.Prelude.{if◌then◌else◌, ◌==◌}
use Rattle.std.specs.List.{flat_map}
use Rattle.std.specs.Ordering.{nat_cmp, is_gt}
use Rattle.std.specs.Cmp.Lexicographic.{slice_cmp}
use Rattle.std.proofs.lemmas.List.{nil_from_length}
use Rattle.byte_formats.specs.Types.{Text}
use Rattle.byte_formats.specs.Offsets.{At, IsBytes}
use Rattle.byte_formats.specs.Readings.{◌>>=◌, some_or}
use Rattle.byte_formats.specs.Forms.{Stands, IsForm, Anything, Nothing, IsEncoding, itself}
use Rattle.byte_formats.specs.Forms.{FitsEach}
use Rattle.byte_formats.proofs.Steps.{bind_ok, guard_ok, lifted_ok, pass_ok, ok_is}
use Rattle.byte_formats.proofs.Steps.{some_or_ok}
use Rattle.byte_formats.proofs.FormLaws.{fits_form}
use Rattle.byte_formats.proofs.FormLists.{each_form}
use Rattle.der_core.specs.declared.fault.DerError.{DerError}
use Rattle.der_core.specs.declared.fault.DerError.TheVariants.{Trailing, SetOrder}
use Rattle.der_core.specs.declared.fault.CertError.{CertError}
use Rattle.der_core.specs.declared.fault.CertError.TheVariants.{Der}
use Rattle.der_core.specs.Elements.{element, IsTag}
use Rattle.der_core.specs.Items.{Item}
use Rattle.der_core.specs.Integers.{integer}
use Rattle.der_core.specs.Reading.{element_at, wanted_at, end_at}
use Rattle.der_core.specs.Contents.{unsigned_of}
use Rattle.der_core.specs.Sets.{risen_at, last_of, rising_at}
use Rattle.der_core.specs.Fields.{der, contents_at}
use Rattle.der_core.specs.Fields.{element_with_at, any_at, unsigned_at}
use Rattle.der_core.specs.Forms.{IsRead, IsElement, IsRisen}
use Rattle.der_core.proofs.Elements.{element_takes, wanted_takes, element_again, wanted_again}
use Rattle.der_core.proofs.Elements.{element-longer}
use Rattle.der_core.proofs.Integers.{unsigned_takes, unsigned_again, length-integer}

-- A tag of one byte, by its number.
pub tag_of : (tag : ℕ) → tag < 256 → (tag % 32 == 31) ≡ false → IsTag tag
tag_of tag byte low = record {
  byte = byte;
  low =
      λ high. true≢false (sym (eq-eqb (tag % 32) 31 high) ∙ low);
}

-- An answer that isn't a fault is the element's own.
pub der_ok : {A : Type 0} (r : Result A DerError) (y : A) → der r ≡ Ok y → r ≡ Ok y
der_ok r y e = lifted_ok Der r y e

-- Nothing follows the last field.
pub end_ok : (a : At) (done : Unit {0}) → end_at a ≡ Ok done → a.rest ≡ []
end_ok a done e =
    let p = pass_ok (length a.rest == 0) (Ok tt) (Trailing a.place) done e in
    nil_from_length a.rest (eqb-true (length a.rest) 0 p.0)

-- ---- an element by its contents

pub contents_takes : (tag : ℕ) (a : At) (e : Item) (b : At) → IsBytes a.rest
    → der (wanted_at tag a) ≡ Ok (e, b)
    → IsRead a e b × (e.tag ≡ tag)
contents_takes tag a e b h read = wanted_takes tag a e b h (der_ok (wanted_at tag a) (e, b) read)

-- The bytes of an element that was wanted.
pub stands_wanted : (tag : ℕ) (a : At) (e : Item) (b : At) → IsRead a e b × (e.tag ≡ tag)
    → Stands a (element tag e.contents) b
stands_wanted tag a e b (read, same) = let P : ℕ → Type 0 =
    λ t. Stands a (element t e.contents) b in subst P same read.stands

pub whole_wanted : (tag : ℕ) (a : At) (e : Item) (b : At) → IsRead a e b × (e.tag ≡ tag)
    → e.whole ≡ element tag e.contents
whole_wanted tag a e b (read, same) = let P : ℕ → Type 0 =
    λ t. e.whole ≡ element t e.contents in subst P same read.whole

-- The bytes are the element with this tag and these contents.
pub contents_form : (tag : ℕ) → IsTag tag
    → IsForm (element tag) (λ contents. length contents < 2 ^ 24) Anything (contents_at tag)
contents_form tag is_tag = record {
  takes = λ a contents b h e.
      let s = bind_ok (der (wanted_at tag a)) (λ (v : Item × At). Ok (v.0.contents, v.1)) (
        contents,
        b,
      ) e in
      let read = contents_takes tag a s.0.0 s.0.1 h s.1 in
      let P : Text × At → Type 0 = λ v. Stands a (element tag v.0) v.1 × (length v.0 < 2 ^ 24) in
      subst P (ok_is CertError (s.0.0.contents, s.0.1) (contents, b) s.2)
      (stands_wanted tag a s.0.0 s.0.1 read, read.0.fits.short);
  again = λ contents p rest f q. rw (wanted_again tag contents p rest (record {
    is_tag =
        is_tag;
    short = f;
  })) refl;
}

-- The bytes of an element with this tag.
pub element_with_form : (tag : ℕ) → IsTag tag
    → IsForm itself (IsEncoding (element tag) (λ contents. length contents < 2 ^ 24)) Anything
    (element_with_at tag)
element_with_form tag is_tag = record {
  takes = λ a bytes b h e.
      let s = bind_ok (der (wanted_at tag a)) (λ (v : Item × At). Ok (v.0.whole, v.1)) (
        bytes,
        b,
      ) e in
      let read = contents_takes tag a s.0.0 s.0.1 h s.1 in
      let same = whole_wanted tag a s.0.0 s.0.1 read in
      let P : Text × At → Type 0 = λ v. Stands a v.0 v.1
      × IsEncoding (element tag) (λ contents. length contents < 2 ^ 24) v.0 in
      subst P (ok_is CertError (s.0.0.whole, s.0.1) (bytes, b) s.2)
      (rw same (stands_wanted tag a s.0.0 s.0.1 read), (s.0.0.contents, read.0.fits.short, same));
  again = λ bytes p rest f q.
      let P : Text → Type 0 = λ t. element_with_at tag (record { place = p; rest = t ++ rest })
      ≡ Ok (t, record { place = p + length t; rest = rest }) in
      subst P (sym f.2) (rw (wanted_again tag f.0 p rest (record {
        is_tag = is_tag;
        short =
            f.1;
      })) refl);
}

-- The bytes of one element, whatever it is.
pub any_form : IsForm itself IsElement Anything any_at
any_form = record {
  takes = λ a bytes b h e.
      let s = bind_ok (der (element_at a)) (λ (v : Item × At). Ok (v.0.whole, v.1)) (bytes, b) e in
      let read = element_takes a s.0.0 s.0.1 h (der_ok (element_at a) s.0 s.1) in
      let P : Text × At → Type 0 = λ v. Stands a v.0 v.1 × IsElement v.0 in
      subst P (ok_is CertError (s.0.0.whole, s.0.1) (bytes, b) s.2) (
        rw read.whole read.stands,
        record {
          tag = s.0.0.tag;
          contents = s.0.0.contents;
          fits =
              read.fits;
          encoded = read.whole;
        },
      );
  again = λ bytes p rest f q.
      let P : Text → Type 0 = λ t. any_at (record { place = p; rest = t ++ rest })
      ≡ Ok (t, record { place = p + length t; rest = rest }) in
      subst P (sym f.encoded) (rw (element_again f.tag f.contents p rest f.fits) refl);
}

number_form : (fault : CertError) → IsForm (λ n. element 2 (integer n)) (λ n. (n < 2 ^ 64)
    × (length (integer n) < 2 ^ 24)) Anything (unsigned_at fault)
number_form fault = record {
  takes = λ a n b h e.
      let s = bind_ok (der (wanted_at 2 a)) (λ (v : Item
      × At). der (unsigned_of v.0.place v.0.contents) >>= λ (o : Option ℕ). some_or fault o >>=
      λ (m : ℕ). Ok (m, v.1)) (n, b) e in
      let t = bind_ok (der (unsigned_of s.0.0.place s.0.0.contents))
      (λ (o : Option ℕ). some_or fault o >>= λ (m : ℕ). Ok (m, s.0.1)) (n, b) s.2 in
      let u = bind_ok (some_or fault t.0) (λ (m : ℕ). Ok (m, s.0.1)) (n, b) t.2 in
      let read = contents_takes 2 a s.0.0 s.0.1 h s.1 in
      let some = some_or_ok fault t.0 u.0 u.1 in
      let number = der_ok (unsigned_of s.0.0.place s.0.0.contents) t.0 t.1
      ∙ ap (λ (o : Option ℕ). Ok o) some in
      let known = unsigned_takes s.0.0.place s.0.0.contents u.0 read.0.bytes number in
      let P : ℕ × At → Type 0 = λ v. Stands a (element 2 (integer v.0)) v.1
      × ((v.0 < 2 ^ 64) × (length (integer v.0) < 2 ^ 24)) in
      let Q : Text → Type 0 = λ c. Stands a (element 2 c) s.0.1 × (length c < 2 ^ 24) in
      let text = subst Q known.0 (stands_wanted 2 a s.0.0 s.0.1 read, read.0.fits.short) in
      subst P (ok_is CertError (u.0, s.0.1) (n, b) u.2) (text.0, (known.1, text.1));
  again = λ n p rest f q.
      let is_tag = tag_of 2 (omega arith) refl in
      rw (
        wanted_again 2 (integer n) p rest (record { is_tag = is_tag; short = f.1 }),
        unsigned_again p n f.0,
      ) refl;
}

-- A number below 2 ^ 64.
pub unsigned_form : (fault : CertError)
    → IsForm (λ n. element 2 (integer n)) (λ n. n < 2 ^ 64) Anything (unsigned_at fault)
unsigned_form fault = fits_form (number_form fault) (λ n f. f.0)
    (λ n f. (f, omega (arith, length-integer n f)))

-- ---- sets

-- One more element of a set.
pub risen_form : (place : ℕ) (seen : List Text)
    → IsForm itself (IsRisen seen) Anything (risen_at place (last_of seen))
unfolding risen_at
risen_form place seen = record {
  takes = λ a bytes b h e.
      let s = bind_ok (element_at a) (λ (v : Item
      × At). if is_gt (slice_cmp nat_cmp (last_of seen) v.0.whole) then Err (SetOrder place)
      else Ok (v.0.whole, v.1)) (bytes, b) e in
      let g = guard_ok (is_gt (slice_cmp nat_cmp (last_of seen) s.0.0.whole)) (SetOrder place)
      (Ok (s.0.0.whole, s.0.1)) (bytes, b) s.2 in
      let read = element_takes a s.0.0 s.0.1 h s.1 in
      let P : Text × At → Type 0 = λ v. Stands a v.0 v.1 × IsRisen seen v.0 in
      subst P (ok_is DerError (s.0.0.whole, s.0.1) (bytes, b) g.1) (
        rw read.whole read.stands,
        record {
          is_element = record {
            tag = s.0.0.tag;
            contents =
                s.0.0.contents;
            fits = read.fits;
            encoded = read.whole;
          };
          risen = g.0;
        },
      );
  again = λ bytes p rest f q.
      let P : Text → Type 0 = λ t. is_gt (slice_cmp nat_cmp (last_of seen) t) ≡ false
      → risen_at place (last_of seen) (record { place = p; rest = t ++ rest })
      ≡ Ok (t, record { place = p + length t; rest = rest }) in
      subst P (sym f.is_element.encoded)
      (λ low. rw (
        element_again f.is_element.tag f.is_element.contents p rest f.is_element.fits,
        low,
      ) refl) f.risen;
}

-- An element of a set has bytes.
pub next_some : (seen : List Text) (bytes : Text) → IsRisen seen bytes → 0 < length bytes
next_some seen bytes f = omega (
  arith,
  ap length f.is_element.encoded,
  element-longer f.is_element.tag f.is_element.contents,
)

-- The elements of a set, in rising order.
pub rising_form : (place : ℕ) → IsForm (flat_map itself) (FitsEach itself IsRisen []) Nothing
    (rising_at place)
rising_form place = each_form itself (risen_form place) next_some []
