-- The fields of a certificate but its extensions are encoded as the bytes from which they were
-- read, and each encoding is read again.
use Rattle.std.proofs.Common.{◌≡◌, ◌≢◌, ℕ, ◌+◌, ◌-◌, ◌%◌, ◌<◌, ◌≤◌, true}
use Rattle.std.proofs.Common.{List, [], ◌∷◌, ◌++◌, length, slice_index, Result, Ok, Err, refl, sym}
use Rattle.std.proofs.Common.{ap, subst, ◌∙◌, arith, inl, inr, ◌⊎◌, lit<, lit≤}
use Rattle.std.proofs.Common.{eqb-true, ne_eqb, lt-ltb}
use Rattle.std.specs.Prelude.{if◌then◌else◌, ◌==◌, ℤ}
use Rattle.std.specs.List.{flat_map, AllByRecursion}
use Rattle.std.proofs.lemmas.List.{length-append}
use Rattle.byte_formats.specs.Types.{Text}
use Rattle.byte_formats.specs.Offsets.{At, IsBytes}
use Rattle.byte_formats.specs.Readings.{◌>>=◌, some_or, discarded}
use Rattle.byte_formats.specs.Forms.{Stands, IsForm, Anything, Nothing, itself, both}
use Rattle.byte_formats.specs.Forms.{FitsEach}
use Rattle.byte_formats.specs.Lists.{up_to_end}
use Rattle.byte_formats.proofs.Steps.{bind_ok, guard_ok, pass_ok, ok_is, discarded_ok}
use Rattle.byte_formats.proofs.Steps.{some_or_ok}
use Rattle.byte_formats.proofs.FormLaws.{fits_form, ended_form, then_form, mapped_form, last_form}
use Rattle.byte_formats.proofs.FormLaws.{one_value, to_end_takes, to_end_again}
use Rattle.byte_formats.proofs.Values.{not_zero}
use Rattle.byte_formats.proofs.FormLists.{many_form, up_to_end_drains, each_drains}
use Rattle.der_core.specs.Elements.{element, IsTag, FitsElement}
use Rattle.der_core.specs.Items.{Item, inside}
use Rattle.der_core.specs.Reading.{wanted_at, end_at}
use Rattle.der_core.specs.Contents.{oid_of, bits_of, are_unused}
use Rattle.der_core.specs.Fields.{der, decoded_at}
use Rattle.der_core.specs.Sets.{rising_at, finished, order_of}
use Rattle.der_core.specs.Forms.{IsElement, IsContents, bit_string, IsRisen}
use Rattle.der_core.specs.declared.fault.DerError.{DerError}
use Rattle.der_core.specs.declared.fault.DerError.TheVariants.{BadBits}
use Rattle.der_core.specs.declared.fault.CertError.{CertError}
use Rattle.der_core.specs.declared.fault.CertError.TheVariants.{BadTime, BadName}
use Rattle.der_core.proofs.Elements.{wanted_takes, wanted_again, element-longer}
use Rattle.der_core.proofs.Rules.{oid_contents, bits_contents}
use Rattle.der_core.proofs.Fields.{tag_of, der_ok, any_form, next_some, risen_form, rising_form}
use Rattle.der_core.proofs.FieldLaws.{decoded_form, whole_form, noted_form}
use Rattle.cert_time.specs.Calendar.{IsUnixTime, Period}
use Rattle.cert_time.specs.Times.{time_tag, time_contents, unix_time_in, short_element}
use Rattle.cert_time.specs.Times.{validity_element}
use Rattle.cert_time.proofs.BothWays.{unix_time_in-only, unix_time_in-time, time_shape}
use Rattle.cert_fields.specs.Keys.{algorithm_at, spki_at, whole_bits_of, signature_at}
use Rattle.cert_fields.specs.Names.{attribute_at, set_at, name_at}
use Rattle.cert_fields.specs.Times.{tag_wanted, time_at, from_to, validity_at}
use Rattle.cert_fields.specs.Grammar.{IsIdentifier, IsAlgorithm, IsBits}
use Rattle.cert_fields.specs.Grammar.{IsPublicKey, IsAttribute, IsSet, IsName, IsValidity}
use Rattle.cert_fields.specs.Grammar.{IsSignatureValue}
use Rattle.cert_fields.proofs.Sizes.{time-short}

-- ---- algorithms and keys

pub identifier_form : IsForm (element 0x06) IsIdentifier Anything (decoded_at 0x06 oid_of)
identifier_form = decoded_form oid_contents 0x06 (tag_of 0x06 (lit< tt) refl)

pub element_some : (bytes : Text) → IsElement bytes → 0 < length bytes
element_some bytes f = omega (arith, ap length f.encoded, element-longer f.tag f.contents)

pub algorithm_form : IsForm itself IsAlgorithm Anything algorithm_at
unfolding algorithm_at
algorithm_form =
    whole_form (then_form identifier_form (last_form any_form element_some tt)) 0x30
    (tag_of 0x30 (lit< tt) refl)

pub bits_form : IsForm (λ b. element 0x03 (bit_string b)) IsBits Anything (decoded_at 0x03 bits_of)
bits_form = decoded_form bits_contents 0x03 (tag_of 0x03 (lit< tt) refl)

pub spki_form : IsForm itself IsPublicKey Anything spki_at
unfolding spki_at
spki_form = whole_form (ended_form (then_form algorithm_form bits_form) tt) 0x30
    (tag_of 0x30 (lit< tt) refl)

-- ---- the signature

none_unused : (bytes : Text) → are_unused 0 bytes ≡ true
none_unused [] = refl
none_unused (b ∷ bytes) =
    let some : length (b ∷ bytes) ≢ 0 = omega arith in
    let none : slice_index (b ∷ bytes) (length (b ∷ bytes) - 1) % 1 ≡ 0 = omega arith in
    rw (ne_eqb (length (b ∷ bytes)) 0 some, none) refl

abbrev pub AnyBytes : Text → Type 0
AnyBytes bytes = Unit {0}

whole_bits : IsContents (λ (proof : Text). 0 ∷ proof) AnyBytes whole_bits_of
unfolding whole_bits_of
whole_bits = record {
  takes = λ place contents x h e.
      let s = bind_ok (bits_of place contents) (λ (b : ℕ × Text). if b.0 == 0 then Ok b.1
      else Err (BadBits place)) x e in
      let g = pass_ok (s.0.0 == 0) (Ok s.0.1) (BadBits place) x s.2 in
      let known = bits_contents.takes place contents s.0 h s.1 in
      let zero_is : s.0.0 ≡ 0 = eqb-true s.0.0 0 g.0 in (
        known.0 ∙ ap (λ (n : ℕ). n ∷ s.0.1) zero_is
            ∙ ap (λ (bytes : Text). 0 ∷ bytes) (ok_is DerError s.0.1 x g.1),
        tt,
      );
  again = λ place x f. rw (bits_contents.again place (0, x) (record {
    few = lit≤ tt;
    zero =
        none_unused x;
  })) refl;
}

pub signature_form : IsForm (λ (proof : Text). element 0x03 (0 ∷ proof)) IsSignatureValue Anything
    signature_at
unfolding signature_at
signature_form =
    fits_form (decoded_form whole_bits 0x03 (tag_of 0x03 (lit< tt) refl)) (λ x f. f.1)
    (λ x f. (tt, f))

-- ---- names

pub attribute_form : IsForm itself IsAttribute Anything attribute_at
unfolding attribute_at
attribute_form = whole_form (ended_form (then_form identifier_form any_form) tt) 0x30
    (tag_of 0x30 (lit< tt) refl)

-- An element of some kind is an element.
attribute_is : (bytes : Text) → IsAttribute bytes → IsElement bytes
attribute_is bytes f = record {
  tag = 48;
  contents = both (element 0x06) itself f.0;
  fits = record { is_tag = tag_of 0x30 (lit< tt) refl; short = f.1.1 };
  encoded = f.2;
}

attribute_some : (bytes : Text) → IsAttribute bytes → 0 < length bytes
attribute_some bytes f = element_some bytes (attribute_is bytes f)

set_some : (bytes : Text) → IsSet bytes → 0 < length bytes
set_some bytes f = omega (arith, ap length f.2, element-longer 0x31 (flat_map itself f.0))

all_elements : (xs : List Text) → AllByRecursion IsAttribute xs → AllByRecursion IsElement xs
all_elements [] f = tt
all_elements (x ∷ xs) f = (attribute_is x f.0, all_elements xs f.1)

each_elements : (seen xs : List Text) → FitsEach itself IsRisen seen xs
    → AllByRecursion IsElement xs
each_elements seen [] f = tt
each_elements seen (x ∷ xs) f = (f.0.is_element, each_elements (seen ++ x ∷ []) xs f.1)

checked_ok : (r : Result At DerError) (done : Unit {0}) → finished r ≡ Ok done → (b : At)
    × (r ≡ Ok b)
checked_ok (Ok b) done e = (b, refl)
checked_ok (Err d) done e = absurd cc

-- The same bytes are cut into the same elements.
same_elements : (xs ys : List Text) → AllByRecursion IsElement xs → AllByRecursion IsElement ys
    → flat_map itself xs ≡ flat_map itself ys → xs ≡ ys
same_elements xs ys f g same =
    one_value (many_form any_form element_some) refl xs ys f g same

attributes_form : IsForm (flat_map itself) (AllByRecursion IsAttribute) Nothing
    (up_to_end attribute_at)
attributes_form = many_form attribute_form attribute_some

-- The encodings that were found to rise are the attributes.
attributes_rise : (e : Item) (xs : List Text) (done : Unit {0}) → IsBytes e.contents
    → e.contents ≡ flat_map itself xs → AllByRecursion IsAttribute xs → order_of e ≡ Ok done
    → FitsEach itself IsRisen [] xs
attributes_rise e xs done h parts each order =
    let c = checked_ok (discarded (rising_at e.place (inside e))) done order in
    let d = discarded_ok (rising_at e.place (inside e)) c.0 c.1 in
    let end : c.0.rest ≡ [] =
    each_drains itself (risen_form e.place) next_some [] (inside e) d.0 c.0
    h d.1 in
    let rise = to_end_takes (rising_form e.place) (inside e) d.0 c.0 h d.1 end in
    subst (FitsEach itself IsRisen []) (same_elements d.0 xs (each_elements [] d.0 rise.1)
    (all_elements xs each) (sym rise.0 ∙ parts)) rise.1

set_takes : (a : At) (x : Text) (b : At) → IsBytes a.rest → set_at a ≡ Ok (x, b)
    → Stands a x b × IsSet x
unfolding set_at
set_takes a x b h e =
    let s = bind_ok (der (wanted_at 0x31 a)) (λ (v : Item × At). if length v.0.contents == 0
    then Err BadName else (der (order_of v.0) >>= λ (risen : Unit {0}). discarded
    (up_to_end attribute_at (inside v.0)) >>= λ (c : At). der
    (end_at c) >>= λ (done : Unit {0}). Ok (v.0.whole, v.1))) (x, b) e in
    let i : Item = s.0.0 in
    let g = guard_ok (length i.contents == 0) BadName (der (order_of i) >>= λ (risen : Unit {0}).
    discarded (up_to_end attribute_at (inside i)) >>= λ (c : At). der
    (end_at c) >>= λ (done : Unit {0}). Ok (i.whole, s.0.1)) (x, b) s.2 in
    let r = bind_ok (der (order_of i)) (λ (risen : Unit {0}). discarded
    (up_to_end attribute_at (inside i)) >>= λ (c : At). der (end_at c) >>= λ (done : Unit {0}).
    Ok (i.whole, s.0.1)) (x, b) g.1 in
    let t = bind_ok (discarded (up_to_end attribute_at (inside i)))
    (λ (c : At). der (end_at c) >>= λ (done : Unit {0}). Ok (i.whole, s.0.1)) (x, b) r.2 in
    let u = bind_ok (der (end_at t.0)) (λ (done : Unit {0}). Ok (i.whole, s.0.1)) (x, b) t.2 in
    let step = discarded_ok (up_to_end attribute_at (inside i)) t.0 t.1 in
    let xs : List Text = step.0 in
    let read = wanted_takes 0x31 a i s.0.1 h (der_ok (wanted_at 0x31 a) s.0 s.1) in
    let all = to_end_takes attributes_form (inside i) xs t.0 read.0.bytes step.1
    (up_to_end_drains attribute_form attribute_some (inside i) xs t.0 read.0.bytes step.1) in
    let rise = attributes_rise i xs r.0 read.0.bytes all.0 all.1 (der_ok (order_of i) r.0 r.1) in
    let some : 0 < length i.contents = not_zero (length i.contents) g.0 in
    let text : element i.tag i.contents ≡ element 0x31 (flat_map itself xs) =
    ap (λ (n : ℕ). element n i.contents) read.1 ∙ ap (element 0x31) all.0 in
    let size : length i.contents ≡ length (flat_map itself xs) = ap length all.0 in
    let P : Text × At → Type 0 = λ v. Stands a v.0 v.1 × IsSet v.0 in
    let Q : Text → Type 0 = λ w. Stands a w s.0.1 in
    subst P (ok_is CertError (i.whole, s.0.1) (x, b) u.2) (
      subst Q (sym read.0.whole) read.0.stands,
      (
        xs,
        (
          record { some = omega (arith, some, size); each = all.1; rise = rise },
          omega (arith, read.0.fits.short, size),
        ),
        read.0.whole ∙ text,
      ),
    )

set_again : (bytes : Text) (p : ℕ) (rest : Text) → IsSet bytes
    → set_at (record { place = p; rest = bytes ++ rest }) ≡ Ok (
      bytes,
      record {
        place =
            p + length bytes;
        rest = rest;
      },
    )
unfolding set_at
set_again bytes p rest f =
    let xs : List Text = f.0 in
    let cs : Text = flat_map itself xs in
    let inner : ℕ = p + (length (element 0x31 cs) - length cs) in
    let fits : FitsElement 0x31 cs = record {
      is_tag = tag_of 0x31 (lit< tt) refl;
      short =
          f.1.1;
    } in
    let some : length cs ≢ 0 = omega (arith, f.1.0.some) in
    let rising = to_end_again (rising_form p) refl xs inner f.1.0.rise in
    let attributes = to_end_again attributes_form refl xs inner f.1.0.each in
    let P : Text → Type 0 = λ t. set_at (record { place = p; rest = t ++ rest })
    ≡ Ok (t, record { place = p + length t; rest = rest }) in
    subst P (sym f.2) (rw (
      wanted_again 0x31 cs p rest fits,
      ne_eqb (length cs) 0 some,
      rising,
      attributes,
    ) refl)

pub set_form : IsForm itself IsSet Anything set_at
set_form = record { takes = set_takes; again = λ x p rest f q. set_again x p rest f }

pub name_form : IsForm itself IsName Anything name_at
unfolding name_at
name_form = whole_form (many_form set_form set_some) 0x30 (tag_of 0x30 (lit< tt) refl)

-- ---- times

abbrev pub time_text : ℤ → Text
time_text z = element (time_tag z) (time_contents z)

tag_is : (tag : ℕ) (contents rest : Text) → (tag ≡ 23) ⊎ (tag ≡ 24)
    → tag_wanted (element tag contents ++ rest) ≡ tag
unfolding element
tag_is tag contents rest (inl same) = let P : ℕ → Type 0 =
    λ t. tag_wanted (element t contents ++ rest) ≡ t in subst P (sym same) refl
tag_is tag contents rest (inr same) = let P : ℕ → Type 0 =
    λ t. tag_wanted (element t contents ++ rest) ≡ t in subst P (sym same) refl

time_tag-is : (z : ℤ) → (time_tag z ≡ 23) ⊎ (time_tag z ≡ 24)
time_tag-is z = elim (time_shape z) [ inl s ↦ inl s.0 | inr s ↦ inr s.0 ]

time_fits : (z : ℤ) → FitsElement (time_tag z) (time_contents z)
time_fits z =
    let short = time-short z in
    record {
      is_tag = elim (time_tag-is z) [
        | inl s ↦ subst IsTag (sym s)
            (tag_of 0x17 (lit< tt) refl)
        | inr s ↦ subst IsTag (sym s) (tag_of 0x18 (lit< tt) refl)
      ];
      short = omega (arith, short);
    }

pub time_form : IsForm time_text IsUnixTime Anything time_at
unfolding time_at
time_form = record {
  takes = λ a z b h e.
      let tag : ℕ = tag_wanted a.rest in
      let s = bind_ok (der (wanted_at tag a)) (λ (v : Item
      × At). some_or BadTime (unix_time_in tag v.0.contents) >>= λ (m : ℤ). Ok (m, v.1)) (
        z,
        b,
      ) e in
      let t = bind_ok (some_or BadTime (unix_time_in tag s.0.0.contents)) (λ (m : ℤ). Ok (m, s.0.1))
      (z, b) s.2 in
      let known = unix_time_in-only tag s.0.0.contents t.0
      (some_or_ok BadTime (unix_time_in tag s.0.0.contents) t.0 t.1) in
      let read = wanted_takes tag a s.0.0 s.0.1 h (der_ok (wanted_at tag a) s.0 s.1) in
      let text : element s.0.0.tag s.0.0.contents ≡ time_text t.0 =
      ap (λ (n : ℕ). element n s.0.0.contents) (read.1 ∙ known.1)
      ∙ ap (element (time_tag t.0)) known.2 in
      let Q : Text → Type 0 = λ w. Stands a w s.0.1 in
      let P : ℤ × At → Type 0 = λ v. Stands a (time_text v.0) v.1 × IsUnixTime v.0 in
      subst P (ok_is CertError (t.0, s.0.1) (z, b) t.2) (subst Q text read.0.stands, known.0);
  again = λ z p rest f q.
      rw (
        tag_is (time_tag z) (time_contents z) rest (time_tag-is z),
        wanted_again (time_tag z) (time_contents z) p rest (time_fits z),
        unix_time_in-time z f,
      ) refl;
}

short_is : (tag : ℕ) (contents : Text) → length contents < 128
    → element tag contents ≡ short_element tag contents
unfolding element
short_is tag contents lt = rw (lt-ltb (length contents) 128 lt) refl

abbrev pub from_and_to : Period → ℤ × ℤ
from_and_to v = (v.not_before, v.not_after)

abbrev pub times_text : Period → Text
times_text v = both time_text time_text (from_and_to v)

times-short : (v : Period) → length (times_text v) ≤ 34
times-short v =
    let one : length (time_text v.not_before) ≤ 17 = short_time v.not_before in
    let two : length (time_text v.not_after) ≤ 17 = short_time v.not_after in
    omega (arith, one, two, length-append (time_text v.not_before) (time_text v.not_after))
  where
    short_time : (z : ℤ) → length (time_text z) ≤ 17
    short_time z =
        let short = time-short z in
        omega (
          arith,
          short,
          ap length (short_is (time_tag z) (time_contents z)
              (omega (arith, short))),
        )

-- The validity is the element that its times are written as.
validity_is : (v : Period) → element 0x30 (times_text v) ≡ validity_element v
unfolding validity_element
validity_is v =
    let one = short_is (time_tag v.not_before) (time_contents v.not_before) (omega (
      arith,
      time-short v.not_before,
    )) in
    let two = short_is (time_tag v.not_after) (time_contents v.not_after) (omega (
      arith,
      time-short v.not_after,
    )) in
    short_is 0x30 (times_text v) (omega (arith, times-short v))
    ∙ ap (short_element 0x30) (ap (λ (t : Text). t ++ time_text v.not_after) one
    ∙ ap (λ (t : Text). short_element (time_tag v.not_before) (time_contents v.not_before)
    ++ t) two)

pub validity_form : IsForm (λ (v : Text × Period). v.0) IsValidity Anything validity_at
unfolding validity_at
validity_form =
    fits_form (noted_form (ended_form (mapped_form (then_form time_form time_form) from_to
    from_and_to (λ x f. refl) (λ y f. refl)) tt) 0x30 (tag_of 0x30 (lit< tt) refl))
    (λ v f. record {
      period = record { not_before = f.1.0.0; not_after = f.1.0.1 };
      encoded = f.0 ∙ validity_is v.1;
    })
    (λ v f. (
      f.encoded ∙ sym (validity_is v.1),
      (
        (f.period.not_before, f.period.not_after),
        omega (arith, times-short v.1),
      ),
    ))
