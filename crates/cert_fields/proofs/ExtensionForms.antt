-- Extensions are encoded as the bytes from which they were read, and each encoding is read again.
use Rattle.std.proofs.Common.{◌≡◌, ◌≢◌, ℕ, ◌+◌, ◌^◌, ◌<◌, Bool, true, false, List, [], ◌∷◌, ◌++◌}
use Rattle.std.proofs.Common.{length, Ok, Err, Option, Some, None, IfSome, refl, sym, ap, subst}
use Rattle.std.proofs.Common.{arith, ◌⊎◌, lit<}
use Rattle.std.specs.Prelude.{if◌then◌else◌, not, is_some}
use Rattle.std.specs.List.{flat_map}
use Rattle.std.proofs.lemmas.Bool.{not-true, not_from_false}
use Rattle.std.proofs.lemmas.List.{length-append}
use Rattle.byte_formats.specs.Types.{Text}
use Rattle.byte_formats.specs.Offsets.{At, IsBytes, begins_with}
use Rattle.byte_formats.specs.Readings.{tested_at}
use Rattle.byte_formats.specs.Readings.{is_read}
use Rattle.byte_formats.specs.Readings.{Reading}
use Rattle.byte_formats.specs.Forms.{Stands, IsForm, Anything, Nothing, OtherThan, itself}
use Rattle.byte_formats.specs.Forms.{optional, FitsEach}
use Rattle.byte_formats.proofs.Steps.{bind_ok, pass_ok, ok_is, read_ok, IsBytes-prefix}
use Rattle.byte_formats.proofs.Steps.{IsBytes-back}
use Rattle.byte_formats.proofs.FormLaws.{said_form, fits_form, encoded_form, ended_form, both_form}
use Rattle.byte_formats.proofs.FormLaws.{then_form, mapped_form, tested_form, optional_form}
use Rattle.byte_formats.proofs.FormLaws.{or_nothing_form, some_form}
use Rattle.byte_formats.proofs.FormLists.{many_form, up_to_end_drains, each_form, each_drains}
use Rattle.der_core.specs.Elements.{element, length_octets}
use Rattle.der_core.specs.Items.{Item}
use Rattle.der_core.specs.Reading.{element_at}
use Rattle.der_core.specs.Fields.{der, all_of}
use Rattle.der_core.specs.Forms.{boolean, FitsBoolean}
use Rattle.der_core.specs.declared.fault.CertError.{CertError}
use Rattle.der_core.specs.declared.fault.CertError.TheVariants.{BadExtension, RepeatedExtension}
use Rattle.der_core.proofs.Elements.{element_takes, element_again, element-longer}
use Rattle.der_core.proofs.Elements.{begins_with-element}
use Rattle.der_core.proofs.Rules.{boolean_contents}
use Rattle.der_core.proofs.Fields.{tag_of, der_ok, contents_form}
use Rattle.der_core.proofs.FieldLaws.{all_takes, all_again, decoded_form, inside_form, whole_form}
use Rattle.cert_fields.specs.AltNames.{is_general_name, general_name_at, general_names_at}
use Rattle.cert_fields.specs.AltNames.{are_general_names}
use Rattle.cert_fields.specs.Extensions.{ExtensionFields, is_among, is_alt_name, new_identifier_at}
use Rattle.cert_fields.specs.Extensions.{critical_at, to_extension, has_its_form, identifier_of}
use Rattle.cert_fields.specs.Extensions.{extension_at, extension_list_at, extension_sequence_at}
use Rattle.cert_fields.specs.Extensions.{extensions_at}
use Rattle.cert_fields.specs.Grammar.{IsIdentifier, IsGeneralName, IsGeneralNames, mark}
use Rattle.cert_fields.specs.Grammar.{extension_contents, IsExtension, extension}
use Rattle.cert_fields.specs.Grammar.{IsExtensionSequence, IsExtensionsField}
use Rattle.cert_fields.proofs.FieldForms.{identifier_form}

-- ---- general names

general_name_form : IsForm itself IsGeneralName Anything general_name_at
unfolding general_name_at
general_name_form = record {
  takes = λ a bytes b h e.
      let s = bind_ok (der (element_at a)) (λ (v : Item
      × At). if is_general_name v.0.tag v.0.contents then Ok (v.0.whole, v.1)
      else Err BadExtension) (bytes, b) e in
      let g = pass_ok (is_general_name s.0.0.tag s.0.0.contents) (Ok (
        s.0.0.whole,
        s.0.1,
      )) BadExtension (bytes, b) s.2 in
      let read = element_takes a s.0.0 s.0.1 h (der_ok (element_at a) s.0 s.1) in
      let P : Text × At → Type 0 = λ v. Stands a v.0 v.1 × IsGeneralName v.0 in
      subst P (ok_is CertError (s.0.0.whole, s.0.1) (bytes, b) g.1) (
        rw read.whole read.stands,
        record {
          tag = s.0.0.tag;
          contents = s.0.0.contents;
          fits =
              read.fits;
          allowed = g.0;
          encoded = read.whole;
        },
      );
  again = λ bytes p rest f q.
      let P : Text → Type 0 = λ t. general_name_at (record { place = p; rest = t ++ rest })
      ≡ Ok (t, record { place = p + length t; rest = rest }) in
      subst P (sym f.encoded) (rw (element_again f.tag f.contents p rest f.fits, f.allowed) refl);
}

general_name_some : (bytes : Text) → IsGeneralName bytes → 0 < length bytes
general_name_some bytes f = omega (arith, ap length f.encoded, element-longer f.tag f.contents)

general_names_form : IsForm itself IsGeneralNames Anything general_names_at
unfolding general_names_at
general_names_form =
    whole_form (some_form (many_form general_name_form general_name_some) BadExtension
    (up_to_end_drains general_name_form general_name_some)) 0x30 (tag_of 0x30 (lit< tt) refl)

-- The test of the octets passes exactly general names.
pub general_names_only : (octets : Text) → IsBytes octets → are_general_names octets ≡ true
    → IsGeneralNames octets
unfolding are_general_names
general_names_only octets h e =
    let r = read_ok (all_of general_names_at octets) e in
    let known = all_takes general_names_form octets r.0 h r.1 in
    subst IsGeneralNames (sym known.0) known.1

pub general_names_again : (octets : Text) → IsGeneralNames octets → are_general_names octets ≡ true
unfolding are_general_names
general_names_again octets f = ap is_read (all_again general_names_form octets f)

-- ---- one extension

-- A test that reads the bytes of a value, said otherwise.
tested_as : {X E : Type 0} {encode : X → Text} {Fits : X → Type 0} {Follows : Text → Type 0}
    {read : Reading X E} {Says : X → Type 0}
    → IsForm encode Fits Follows read → (test : X → Bool) (fault : E)
    → ((x : X) → IsBytes (encode x) → test x ≡ true → Says x) → ((x : X) → Says x → test x ≡ true)
    → IsForm encode (λ x. Fits x × Says x) Follows (tested_at test fault read)
tested_as {X} {E} {encode} form test fault to from =
    let tested = tested_form form test fault in
    record {
      takes = λ a x b h e.
          let t = tested.takes a x b h e in
          let P : Text → Type 0 = IsBytes in
          (t.0, (t.1.0, to x (IsBytes-prefix (encode x) b.rest (subst P t.0.parts h)) t.1.1));
      again = λ x p rest f q. tested.again x p rest (f.0, from x f.1) q;
    }

new_identifier_form : (seen : List Text)
    → IsForm (element 0x06) (λ identifier. IsIdentifier identifier
    × (not (is_among identifier seen) ≡ true)) Anything (new_identifier_at seen)
unfolding new_identifier_at
new_identifier_form seen =
    tested_form identifier_form (λ identifier. not (is_among identifier seen)) RepeatedExtension

abbrev AnyMark : Bool → Type 0
AnyMark b = Unit {0}

abbrev truth : Bool → Text
truth b = element 0x01 (boolean b)

abbrev IsTruth : Bool → Type 0
IsTruth b = (FitsBoolean b × (length (boolean b) < 2 ^ 24)) × (b ≡ true)

abbrev marked : Bool → Option Bool
marked true = Some true
marked false = None

mark_is : (b : Bool) → optional truth (marked b) ≡ mark b
unfolding element
mark_is true = refl
mark_is false = refl

marked_back : (o : Option Bool) → IfSome o IsTruth → marked (is_some o) ≡ o
marked_back None f = refl
marked_back (Some b) f = ap (λ (t : Bool). Some t) (sym f.1)

marked_there : (b : Bool) → IfSome (marked b) IsTruth → is_some (marked b) ≡ b
marked_there true f = refl
marked_there false f = refl

marked_fits : (b : Bool) → IfSome (marked b) IsTruth
marked_fits true = ((tt, lit< tt), refl)
marked_fits false = tt

critical_form : IsForm mark AnyMark (OtherThan 0x01) critical_at
unfolding critical_at
critical_form =
    encoded_form (said_form (mapped_form (optional_form (tested_form
    (decoded_form boolean_contents 0x01 (tag_of 0x01 (lit< tt) refl)) (λ b. b) BadExtension) 1
    (λ b rest f. begins_with-element 0x01 (boolean b) rest)) is_some marked marked_back
    marked_there)
    (λ b f. tt) (λ b f. marked_fits b) (λ rest q. (tt, q))) (λ b f. mark_is b)

other_element : (byte tag : ℕ) (contents rest : Text) → tag ≢ byte
    → OtherThan byte (element tag contents ++ rest)
unfolding element
other_element byte tag contents rest ne = ne

abbrev from_extension : ExtensionFields → Text × (Bool × Text)
from_extension x = (x.identifier, (x.critical, x.octets))

abbrev Octets : Text → Type 0
Octets contents = length contents < 2 ^ 24

abbrev HasNames : ExtensionFields → Type 0
HasNames x = is_alt_name x ≡ true → IsGeneralNames x.octets

octets_bytes : (x : ExtensionFields) → IsBytes (extension_contents x) → IsBytes x.octets
unfolding element
octets_bytes x h =
    let following = IsBytes-back (element 0x06 x.identifier) (mark x.critical
    ++ element 0x04 x.octets) h in
    let last : IsBytes (4 ∷ (length_octets (length x.octets) ++ x.octets)) =
    IsBytes-back (mark x.critical) (element 0x04 x.octets) following in
    IsBytes-back (4 ∷ length_octets (length x.octets)) x.octets last

names_to : (x : ExtensionFields) → IsBytes (extension_contents x) → has_its_form x ≡ true
    → HasNames x
names_to x h e alt =
    let test : are_general_names x.octets ≡ true = rw alt at e in
    general_names_only x.octets (octets_bytes x h) test

names_from : (x : ExtensionFields) → HasNames x → has_its_form x ≡ true
names_from x f = go (is_alt_name x) refl
  where
    go : (b : Bool) → is_alt_name x ≡ b → (if b then are_general_names x.octets else true) ≡ true
    go true e = general_names_again x.octets (f e)
    go false e = refl

contents_short : (seen : List Text) (x : ExtensionFields) → IsExtension seen x
    → (length x.identifier < 2 ^ 24) × (length x.octets < 2 ^ 24)
contents_short seen x f =
    let all = length-append (element 0x06 x.identifier) (mark x.critical
    ++ element 0x04 x.octets) in
    let following = length-append (mark x.critical) (element 0x04 x.octets) in
    let one = element-longer 0x06 x.identifier in
    let two = element-longer 0x04 x.octets in
    (omega (arith, f.short, all, one), omega (arith, f.short, all, following, two))

pub extension_form : (seen : List Text)
    → IsForm extension (IsExtension seen) Anything (extension_at seen)
unfolding extension_at
extension_form seen =
    fits_form (inside_form (ended_form (tested_as (mapped_form (then_form (new_identifier_form seen)
    (both_form critical_form (contents_form 0x04 (tag_of 0x04 (lit< tt) refl))
    (λ y rest f q. other_element 0x01 0x04 y rest (λ e. absurd (omega arith))))) to_extension
    from_extension (λ x f. refl) (λ y f. refl)) has_its_form BadExtension names_to names_from) tt)
    0x30 (tag_of 0x30 (lit< tt) refl))
    (λ x f. record {
      identifier = f.0.0.0.0.0;
      new = not-true (is_among x.identifier seen) f.0.0.0.1;
      names = f.0.1;
      short = f.1;
    })
    (λ x f.
    let short = contents_short seen x f in (
      (
        (
          ((f.identifier, short.0), not_from_false (is_among x.identifier seen) f.new),
          (tt, short.1),
        ),
        f.names,
      ),
      f.short,
    ))

-- ---- the field

extension_some : (seen : List Text) (x : ExtensionFields) → IsExtension seen x
    → 0 < length (extension x)
extension_some seen x f = omega (arith, element-longer 0x30 (extension_contents x))

list_form : IsForm (flat_map extension) (FitsEach identifier_of IsExtension []) Nothing
    extension_list_at
unfolding extension_list_at
list_form = each_form identifier_of extension_form extension_some []

list_drains : (a : At) (xs : List ExtensionFields) (b : At) → IsBytes a.rest
    → extension_list_at a ≡ Ok (xs, b) → b.rest ≡ []
unfolding extension_list_at
list_drains = each_drains identifier_of extension_form extension_some []

sequence_form : IsForm itself IsExtensionSequence Anything extension_sequence_at
unfolding extension_sequence_at
sequence_form =
    whole_form (fits_form (some_form list_form BadExtension list_drains)
    (λ xs f. record { some = f.1; each = f.0 }) (λ xs f. (f.each, f.some))) 0x30
    (tag_of 0x30 (lit< tt) refl)

abbrev pub IsExtensions : Text → Type 0
IsExtensions bytes = (bytes ≡ []) ⊎ IsExtensionsField bytes

pub extensions_form : IsForm itself IsExtensions (λ rest. Anything rest
    × OtherThan 0xA3 rest) extensions_at
unfolding extensions_at
extensions_form =
    or_nothing_form (whole_form (ended_form sequence_form tt) 0xA3 (tag_of 0xA3 (lit< tt) refl)) 163
    (λ bytes rest f.
    let P : Text → Type 0 = λ t. begins_with 0xA3 (t ++ rest) ≡ true in
    subst P (sym f.2) (begins_with-element 0xA3 f.0 rest))
