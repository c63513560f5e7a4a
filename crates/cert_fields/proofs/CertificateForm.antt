-- A whole certificate is encoded as the bytes from which it was read, and each encoding is read
-- again.
use Rattle.std.proofs.Common.{◌≡◌, ℕ, ◌^◌, ◌<◌, true, false, [], ◌∷◌, ◌++◌, length, Result, Ok, Err}
use Rattle.std.proofs.Common.{IfOk, refl, sym, ap, subst, ◌∙◌, arith, inl, inr, lit<, eqb-true}
use Rattle.std.proofs.Common.{lt-ltb, ltb-true}
use Rattle.std.specs.Prelude.{◌==◌, nat_lt}
use Rattle.std.proofs.lemmas.List.{length-append}
use Rattle.std.proofs.lemmas.Slice.Eq.{bytes_eq-Decides}
use Rattle.byte_formats.specs.Types.{Text}
use Rattle.byte_formats.specs.Offsets.{IsBytes}
use Rattle.byte_formats.specs.Readings.{refused_at, Gives}
use Rattle.byte_formats.specs.Forms.{IsForm, Anything, Nothing, IsEncoding, itself, both}
use Rattle.byte_formats.specs.Forms.{FitsBoth}
use Rattle.byte_formats.proofs.FormLaws.{fits_form, encoded_form, ended_form, then_form}
use Rattle.byte_formats.proofs.FormLaws.{mapped_form}
use Rattle.byte_formats.proofs.FormLaws.{tested_form, headed_form, refused_form, one_form}
use Rattle.der_core.specs.Elements.{element}
use Rattle.der_core.specs.Integers.{integer}
use Rattle.der_core.specs.declared.fault.CertError.{CertError}
use Rattle.der_core.specs.declared.fault.CertError.TheVariants.{BadVersion, BadSerial}
use Rattle.der_core.specs.declared.fault.CertError.TheVariants.{AlgorithmsDiffer, UniqueId}
use Rattle.der_core.proofs.Elements.{element-longer, begins_with-element}
use Rattle.der_core.proofs.Fields.{tag_of, element_with_form, unsigned_form}
use Rattle.der_core.proofs.FieldLaws.{all_takes, all_again, inside_form}
use Rattle.cert_time.specs.Calendar.{Period}
use Rattle.cert_fields.specs.Extensions.{extensions_at}
use Rattle.cert_fields.specs.Certificate.{Parts, Body, nothing, version_at, serial_at, is_unique_id}
use Rattle.cert_fields.specs.Certificate.{after_serial_at, tbs_at, same_algorithm, signed_at}
use Rattle.cert_fields.specs.Certificate.{to_parts, certificate_at, parts_of}
use Rattle.cert_fields.specs.Encoding.{version, tbs_fields, certificate}
use Rattle.cert_fields.specs.Grammar.{IsAlgorithm, IsPublicKey, IsName, IsValidity}
use Rattle.cert_fields.specs.Grammar.{IsSignatureValue, IsCertificate}
use Rattle.cert_fields.specs.Views.{parts}
use Rattle.cert_fields.specs.declared.cert.Cert.{Cert}
use Rattle.cert_fields.proofs.FieldForms.{algorithm_form, spki_form, name_form, validity_form}
use Rattle.cert_fields.proofs.FieldForms.{signature_form}
use Rattle.cert_fields.proofs.ExtensionForms.{IsExtensions, extensions_form}

-- ---- version and serial number

abbrev IsVersion : ℕ → Type 0
IsVersion n = (n < 2 ^ 64) × ((n == 2) ≡ true)

abbrev number : ℕ → Text
number n = element 0x02 (integer n)

abbrev pub NoValue : Unit {0} → Type 0
NoValue x = Unit {0}

abbrev pub version_text : Unit {0} → Text
version_text x = version

version_is : element 0xA0 (element 0x02 (integer 2)) ≡ version
unfolding element integer
version_is = refl

version-short : length (number 2) < 2 ^ 24
unfolding element integer
version-short = lit< tt

pub version_form : IsForm version_text NoValue Anything version_at
unfolding version_at
version_form =
    encoded_form (fits_form (mapped_form (headed_form (inside_form (ended_form
    (tested_form (unsigned_form BadVersion) (λ n. n == 2) BadVersion) tt) 0xA0
    (tag_of 0xA0 (lit< tt) refl)) 160 (λ n rest f. begins_with-element 0xA0 (number n) rest)
    BadVersion) nothing (λ x. 2) (λ n f. sym (eqb-true n 2 f.0.1)) (λ y f. refl))
    (λ x f. tt) (λ x f. ((lit< tt, refl), version-short))) (λ x f. version_is)

abbrev pub IsSerial : ℕ → Type 0
IsSerial n = (n < 2 ^ 64) × (nat_lt 0 n ≡ true)

serial_form : IsForm number IsSerial Anything serial_at
unfolding serial_at
serial_form = tested_form (unsigned_form BadSerial) (λ n. nat_lt 0 n) BadSerial

-- ---- the fields after the serial number

abbrev unix_times_text : Text × Period → Text
unix_times_text v = v.0

no_unique_id : (bytes rest : Text) → IsExtensions bytes → rest ≡ []
    → is_unique_id (bytes ++ rest) ≡ false
unfolding element
no_unique_id bytes rest (inl none) end =
    let P : Text → Type 0 = λ t. is_unique_id t ≡ false in
    subst P (sym (ap (λ (b : Text). b ++ rest) none ∙ end)) refl
no_unique_id bytes rest (inr field) end =
    let P : Text → Type 0 = λ t. is_unique_id (t ++ rest) ≡ false in
    subst P (sym field.2) refl

last_field : IsForm itself IsExtensions Nothing (refused_at is_unique_id UniqueId extensions_at)
last_field = refused_form (ended_form extensions_form (tt, tt)) is_unique_id UniqueId no_unique_id

abbrev pub body_text : Body → Text
body_text = both itself (both itself (both unix_times_text (both itself (both itself itself))))

abbrev pub IsBody : Body → Type 0
IsBody = FitsBoth IsAlgorithm (FitsBoth IsName
    (FitsBoth IsValidity (FitsBoth IsName (FitsBoth IsPublicKey IsExtensions))))

body_form : IsForm body_text IsBody Nothing after_serial_at
unfolding after_serial_at
body_form =
    then_form algorithm_form (then_form name_form (then_form validity_form
    (then_form name_form (then_form spki_form last_field))))

-- ---- what is signed, and the whole

abbrev Signed : Type 0
Signed = Unit {0} × (ℕ × Body)

abbrev signed_text : Signed → Text
signed_text = both version_text (both number body_text)

abbrev IsSigned : Signed → Type 0
IsSigned = FitsBoth NoValue (FitsBoth IsSerial IsBody)

abbrev tbs_text : Signed → Text
tbs_text x = element 0x30 (signed_text x)

abbrev IsTbs : Signed → Type 0
IsTbs x = IsSigned x × (length (signed_text x) < 2 ^ 24)

tbs_form : IsForm tbs_text IsTbs Anything tbs_at
unfolding tbs_at
tbs_form = inside_form (then_form version_form (then_form serial_form body_form)) 0x30
    (tag_of 0x30 (lit< tt) refl)

abbrev IsSequence : Text → Type 0
IsSequence = IsEncoding (element 0x30) (λ contents. length contents < 2 ^ 24)

abbrev IsPair : Signed × Text → Type 0
IsPair x = FitsBoth IsTbs IsSequence x × (same_algorithm x ≡ true)

signed_form : IsForm (both tbs_text itself) IsPair Anything signed_at
unfolding signed_at
signed_form =
    tested_form (then_form tbs_form (element_with_form 0x30 (tag_of 0x30 (lit< tt) refl)))
    same_algorithm AlgorithmsDiffer

abbrev signature_text : Text → Text
signature_text proof = element 0x03 (0 ∷ proof)

abbrev Whole : Type 0
Whole = (Signed × Text) × Text

abbrev whole_text : Whole → Text
whole_text = both (both tbs_text itself) signature_text

abbrev IsWhole : Whole → Type 0
IsWhole = FitsBoth IsPair IsSignatureValue

abbrev from_parts : Parts → Whole
from_parts p = (
  (
    (
      tt,
      (
        p.serial,
        (
          p.algorithm,
          (
            p.issuer,
            ((p.validity_der, p.validity), (p.subject, (p.spki, p.extensions))),
          ),
        ),
      ),
    ),
    p.algorithm,
  ),
  p.proof,
)

-- Both algorithms are the same, so the parts say it once.
same_ways : (x : Whole) → IsWhole x → from_parts (to_parts x) ≡ x
same_ways x f =
    let same : x.0.0.1.1.0 ≡ x.0.1 = (bytes_eq-Decides x.0.0.1.1.0 x.0.1).0 f.0.1 in
    let inside : Text → Whole = λ t. (((tt, (x.0.0.1.0, (t, x.0.0.1.1.1))), x.0.1), x.1) in
    ap inside (sym same)

algorithm_sequence : (bytes : Text) → IsAlgorithm bytes → IsSequence bytes
algorithm_sequence bytes f = (both (element 0x06) itself f.0, f.1.1, f.2)

parts_to : (p : Parts) → IsWhole (from_parts p) × (length (whole_text (from_parts p)) < 2 ^ 24)
    → IsCertificate p
parts_to p f =
    let tbs : IsTbs (from_parts p).0.0 = f.0.0.0.0 in
    let serial : IsSerial p.serial = tbs.0.1.0 in
    let body : IsBody (from_parts p).0.0.1.1 = tbs.0.1.1 in
    record {
      positive = ltb-true 0 p.serial serial.1;
      serial = serial.0;
      algorithm = body.0;
      issuer = body.1.0;
      validity = body.1.1.0;
      subject = body.1.1.1.0;
      spki = body.1.1.1.1.0;
      extensions = body.1.1.1.1.1;
      short = f.1;
    }

parts_from : (p : Parts) → IsCertificate p → IsWhole (from_parts p)
    × (length (whole_text (from_parts p)) < 2 ^ 24)
parts_from p f =
    let all = length-append (element 0x30 (tbs_fields p) ++ p.algorithm)
    (element 0x03 (0 ∷ p.proof)) in
    let prefix = length-append (element 0x30 (tbs_fields p)) p.algorithm in
    let signed : length (tbs_fields p) < 2 ^ 24 =
    omega (arith, f.short, all, prefix, element-longer 0x30 (tbs_fields p)) in
    let proof : length (0 ∷ p.proof) < 2 ^ 24 =
    omega (arith, f.short, all, element-longer 0x03 (0 ∷ p.proof)) in
    let body : IsBody (from_parts p).0.0.1.1 =
    (f.algorithm, (f.issuer, (f.validity, (f.subject, (f.spki, f.extensions))))) in
    let tbs : IsTbs (from_parts p).0.0 =
    ((tt, ((f.serial, lt-ltb 0 p.serial f.positive), body)), signed) in (
      (
        (
          (tbs, algorithm_sequence p.algorithm f.algorithm),
          (bytes_eq-Decides p.algorithm p.algorithm).1 refl,
        ),
        proof,
      ),
      f.short,
    )

pub certificate_form : IsForm certificate IsCertificate Anything certificate_at
unfolding certificate_at certificate
certificate_form =
    fits_form (mapped_form (inside_form (ended_form (then_form signed_form signature_form) tt) 0x30
    (tag_of 0x30 (lit< tt) refl)) to_parts from_parts (λ x f. same_ways x f.0) (λ p f. refl))
    parts_to parts_from

-- What parse reads is the certificate of its parts, and only a certificate is read.
pub parts_only : (bytes : Text) (p : Parts) → IsBytes bytes → parts_of bytes ≡ Ok p
    → (bytes ≡ certificate p) × IsCertificate p
unfolding parts_of
parts_only = all_takes certificate_form

pub parts_again : (p : Parts) → IsCertificate p → parts_of (certificate p) ≡ Ok p
unfolding parts_of
parts_again = all_again certificate_form

pub one_certificate : (p q : Parts) (s t : Text) → IsCertificate p → IsCertificate q
    → certificate p ++ s ≡ certificate q ++ t → (p ≡ q) × (s ≡ t)
one_certificate = one_form certificate_form

-- ---- an answer that is exactly what is wanted

pub gives_found : (bytes : Text) (r : Result Cert CertError) → IsBytes bytes
    → Gives parts r (parts_of bytes)
    → IfOk r (λ c. (bytes ≡ certificate (parts c)) × IsCertificate (parts c))
gives_found bytes (Ok c) h e = parts_only bytes (parts c) h e
gives_found bytes (Err fault) h e = tt

pub gives_only : (bytes : Text) (r : Result Cert CertError) → Gives parts r (parts_of bytes)
    → (p : Parts) → IsCertificate p → bytes ≡ certificate p → Gives parts r (Ok p)
gives_only bytes r e p f same =
    let P : Result Parts CertError → Type 0 = λ wanted. Gives parts r wanted in
    subst P (ap parts_of same ∙ parts_again p f) e

pub written_again : {E : Type 0} (p : Parts) (r : Result Text E)
    → IfOk r (λ bytes. bytes ≡ certificate p)
    → IsCertificate p → IfOk r (λ bytes. parts_of bytes ≡ Ok p)
written_again p (Ok bytes) same f = ap parts_of same ∙ parts_again p f
written_again p (Err e) same f = tt
