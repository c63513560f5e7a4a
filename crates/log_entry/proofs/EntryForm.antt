-- A whole entry is encoded as the bytes from which it was read, and each encoding is read again.
use Rattle.std.proofs.Common.{◌≡◌, ℕ, ◌+◌, ◌*◌, ◌<◌, [], ◌∷◌, length, Option, Some}
use Rattle.std.proofs.Common.{◌++◌, None, Result, Ok, Err, IfOk, IfSome, true, refl, sym, ap}
use Rattle.std.proofs.Common.{subst, ◌∙◌}
use Rattle.std.proofs.Common.{arith, inl, inr, lit<, eqb-true, eq-eqb}
use Rattle.std.specs.Prelude.{◌==◌, if◌then◌else◌}
use Rattle.std.proofs.lemmas.List.{nil_from_length}
use Rattle.byte_formats.specs.Types.{Text}
use Rattle.byte_formats.specs.Offsets.{At, IsBytes, at, begins_with}
use Rattle.byte_formats.specs.Readings.{◌>>=◌, both_at, lifted, mapped_at, Gives}
use Rattle.byte_formats.specs.Forms.{IsForm, Anything, Nothing, OtherThan, itself, both, FitsBoth}
use Rattle.byte_formats.specs.Forms.{optional}
use Rattle.byte_formats.proofs.Steps.{bind_ok, chosen, pass_ok, ok_is, lifted_ok, IsBytes-rest}
use Rattle.byte_formats.proofs.FormLaws.{fits_form, encoded_form, ended_form, both_form}
use Rattle.byte_formats.proofs.FormLaws.{mapped_form, optional_form, then_form}
use Rattle.byte_formats.proofs.FormLaws.{tested_form, lifted_form, to_end_takes, to_end_again}
use Rattle.der_core.specs.Elements.{element}
use Rattle.der_core.specs.Reading.{end_at}
use Rattle.der_core.specs.Fields.{der}
use Rattle.der_core.proofs.Elements.{begins_with-element}
use Rattle.der_core.proofs.Fields.{der_ok, end_ok, tag_of, contents_form}
use Rattle.cert_time.specs.Calendar.{Period}
use Rattle.cert_fields.specs.Extensions.{extensions_at}
use Rattle.cert_fields.specs.Grammar.{IsAlgorithm, IsName, IsValidity}
use Rattle.cert_fields.proofs.FieldForms.{algorithm_form, name_form, validity_form}
use Rattle.cert_fields.proofs.CertificateForm.{NoValue, version_text, version_form}
use Rattle.cert_fields.proofs.ExtensionForms.{IsExtensions, extensions_form}
use Rattle.log_entry.specs.Entries.{TbsParts, key_hash_text, body_text, tbs_text, entry_text, IsTbs}
use Rattle.log_entry.specs.Entries.{IsEntry}
use Rattle.log_entry.specs.Reading.{field_at, has_hash_length, key_hash_at, named_algorithm_at}
use Rattle.log_entry.specs.Reading.{Fields, to_tbs}
use Rattle.log_entry.specs.Reading.{fields_at, body_of, as_tbs, typed, entry_in}
use Rattle.log_entry.specs.Views.{entry_parts}
use Rattle.log_entry.specs.declared.entry.Entry.{Entry}
use Rattle.log_entry.specs.declared.fault.EntryError.{EntryError}
use Rattle.log_entry.specs.declared.fault.EntryError.TheVariants.{Body, BadHashLength, NullHasBody}
use Rattle.log_entry.specs.declared.fault.EntryError.TheVariants.{UnknownType}

-- ---- the hash of the public key

abbrev pub IsHash : Text → Type 0
IsHash hash = length hash ≡ 32

hash_is : (hash : Text) → length hash ≡ 32 → element 0x04 hash ≡ key_hash_text hash
unfolding element
hash_is hash e = rw e refl

pub key_hash_form : IsForm key_hash_text IsHash Anything key_hash_at
unfolding key_hash_at
key_hash_form =
    encoded_form (fits_form (tested_form (lifted_form (contents_form 0x04 (tag_of 0x04 (lit< tt)
    refl)) Body) has_hash_length BadHashLength) (λ hash f. eqb-true (length hash) 32 f.1)
    (λ hash e. (omega arith, eq-eqb (length hash) 32 e))) hash_is

-- ---- the algorithm of the public key

algorithm_begins : (bytes rest : Text) → IsAlgorithm bytes
    → begins_with 0x30 (bytes ++ rest) ≡ true
algorithm_begins bytes rest f =
    let P : Text → Type 0 = λ t. begins_with 0x30 (t ++ rest) ≡ true in
    subst P (sym f.2) (begins_with-element 0x30 (both (element 0x06) itself f.0) rest)

abbrev Names : Option Text → Type 0
Names algorithm = IfSome algorithm IsAlgorithm

named_form : IsForm (optional itself) Names (λ rest. Anything rest × OtherThan 0x30 rest)
    named_algorithm_at
named_form = optional_form (lifted_form algorithm_form Body) 48 algorithm_begins

-- ---- the body

abbrev unix_times_text : Text × Period → Text
unix_times_text v = v.0

abbrev fields_text : Fields → Text
fields_text = both version_text (both itself
    (both unix_times_text (both itself (both (optional itself) (both key_hash_text itself)))))

abbrev AreFields : Fields → Type 0
AreFields = FitsBoth NoValue (FitsBoth IsName
    (FitsBoth IsValidity (FitsBoth IsName (FitsBoth Names (FitsBoth IsHash IsExtensions)))))

-- After the subject: the hash does not begin as an algorithm.
key_form : IsForm (both (optional itself) (both key_hash_text itself))
    (FitsBoth Names (FitsBoth IsHash IsExtensions)) Nothing
    (both_at named_algorithm_at (both_at key_hash_at (field_at extensions_at)))
key_form =
    both_form named_form (then_form key_hash_form
    (lifted_form (ended_form extensions_form (tt, tt)) Body))
    (λ y rest f q. (tt, λ e. absurd (omega arith)))

fields_form : IsForm fields_text AreFields Nothing fields_at
fields_form =
    then_form (lifted_form version_form Body) (then_form (lifted_form name_form Body)
    (then_form (lifted_form validity_form Body) (then_form (lifted_form name_form Body)
    key_form)))

abbrev from_tbs : TbsParts → Fields
from_tbs p = (
  tt,
  (
    p.issuer,
    (
      (p.validity_der, p.validity),
      (p.subject, (p.algorithm, (p.key_hash, p.extensions))),
    ),
  ),
)

tbs_to : (p : TbsParts) → AreFields (from_tbs p) → IsTbs p
tbs_to p f = record {
  issuer = f.1.0;
  validity = f.1.1.0;
  subject = f.1.1.1.0;
  algorithm = f.1.1.1.1.0;
  key_hash = f.1.1.1.1.1.0;
  extensions = f.1.1.1.1.1.1;
}

tbs_from : (p : TbsParts) → IsTbs p → AreFields (from_tbs p)
tbs_from p f =
    (tt, (f.issuer, (f.validity, (f.subject, (f.algorithm, (f.key_hash, f.extensions))))))

tbs_form : IsForm body_text IsTbs Nothing (mapped_at to_tbs fields_at)
tbs_form =
    fits_form (mapped_form fields_form to_tbs from_tbs (λ x f. refl) (λ p f. refl)) tbs_to tbs_from

body_takes : (a : At) (p : TbsParts) → IsBytes a.rest → body_of a ≡ Ok p → (a.rest ≡ body_text p)
    × IsTbs p
unfolding body_of
body_takes a p h e =
    let s = bind_ok (mapped_at to_tbs fields_at a) (λ (v : TbsParts
    × At). lifted Body (der (end_at v.1)) >>= λ (done : Unit {0}). Ok v.0) p e in
    let t = bind_ok (lifted Body (der (end_at s.0.1))) (λ (done : Unit {0}). Ok s.0.0) p s.2 in
    let P : TbsParts → Type 0 = λ v. (a.rest ≡ body_text v) × IsTbs v in
    subst P (ok_is EntryError s.0.0 p t.2) (to_end_takes tbs_form a s.0.0 s.0.1 h s.1
    (end_ok s.0.1 t.0 (der_ok (end_at s.0.1) t.0 (lifted_ok Body (der (end_at s.0.1)) t.0 t.1))))

body_again : (place : ℕ) (p : TbsParts) → IsTbs p
    → body_of (record { place = place; rest = body_text p }) ≡ Ok p
unfolding body_of
body_again place p f = rw (to_end_again tbs_form refl p place f) refl

-- ---- by the type

as_tbs_ok : (r : Result TbsParts EntryError) (e : Option TbsParts) → as_tbs r ≡ Ok e
    → (p : TbsParts) × (r ≡ Ok p) × (e ≡ Some p)
as_tbs_ok (Ok p) e same = (p, refl, sym (ok_is EntryError (Some p) e same))
as_tbs_ok (Err d) e same = absurd cc

abbrev Known : Text → Option TbsParts → Type 0
Known bytes e = (bytes ≡ entry_text e) × IsEntry e

typed_only : (high low : ℕ) (rest : Text) (e : Option TbsParts) → high < 256 → low < 256
    → IsBytes rest
    → typed (high * 256 + low) (high ∷ low ∷ rest) rest ≡ Ok e → Known (high ∷ low ∷ rest) e
unfolding tbs_text
typed_only high low rest e h l bytes same =
    let kind : ℕ = high * 256 + low in
    let empty : Result (Option TbsParts) EntryError =
    if length rest == 0 then Ok None else Err NullHasBody in
    let other : Result (Option TbsParts) EntryError = Err (UnknownType kind) in
    let body : Result (Option TbsParts) EntryError = as_tbs (body_of (at (high ∷ low ∷ rest) 2)) in
    elim (chosen (kind == 0) empty (if kind == 1 then body else other) (Ok e) same) [
      | inl c ↦
          let g = pass_ok (length rest == 0) (Ok None) NullHasBody e c.1 in
          let zero_is : kind ≡ 0 = eqb-true kind 0 c.0 in
          let nil : rest ≡ [] = nil_from_length rest (eqb-true (length rest) 0 g.0) in
          let first : high ≡ 0 = omega arith in
          let second : low ≡ 0 = omega arith in
          subst (Known (high ∷ low ∷ rest)) (ok_is EntryError None e g.1) (
            rw (
              first,
              second,
              nil,
            ) refl,
            tt,
          )
      | inr c ↦ elim (chosen (kind == 1) body other (Ok e) c.1) [
        | inl d ↦
            let one_is : kind ≡ 1 = eqb-true kind 1 d.0 in
            let first : high ≡ 0 = omega arith in
            let second : low ≡ 1 = omega arith in
            let p = as_tbs_ok (body_of (at (high ∷ low ∷ rest) 2)) e d.1 in
            let known = body_takes (at (high ∷ low ∷ rest) 2) p.0 bytes p.1 in
            subst (Known (high ∷ low ∷ rest)) (sym p.2) (
              rw (
                first,
                second,
              ) (ap (λ (t : Text). 0 ∷ 1 ∷ t) known.0),
              known.1,
            )
        | inr d ↦ absurd (cc (d.1))
      ]
    ]

pub entries_only : (bytes : Text) (e : Option TbsParts) → IsBytes bytes → entry_in bytes ≡ Ok e
    → (bytes ≡ entry_text e) × IsEntry e
unfolding entry_in
entries_only [] e h same = absurd cc
entries_only (high ∷ []) e h same = absurd cc
entries_only (high ∷ low ∷ rest) e h same =
    typed_only high low rest e (h 0) (h 1)
    (IsBytes-rest low rest (IsBytes-rest high (low ∷ rest) h)) same

pub entries_again : (e : Option TbsParts) → IsEntry e → entry_in (entry_text e) ≡ Ok e
unfolding entry_in tbs_text
entries_again None f = refl
entries_again (Some p) f = ap as_tbs (body_again 2 p f)

pub one_entry : (e f : Option TbsParts) → IsEntry e → IsEntry f → entry_text e ≡ entry_text f
    → e ≡ f
one_entry e f x y same = ok_is EntryError e f (sym (entries_again e x)
    ∙ (ap entry_in same ∙ entries_again f y))

-- ---- an answer that is exactly what is wanted

pub gives_found : (bytes : Text) (r : Result Entry EntryError) → IsBytes bytes
    → Gives entry_parts r (entry_in bytes)
    → IfOk r (λ e. (bytes ≡ entry_text (entry_parts e)) × IsEntry (entry_parts e))
gives_found bytes (Ok e) h same = entries_only bytes (entry_parts e) h same
gives_found bytes (Err fault) h same = tt

pub gives_only : (bytes : Text) (r : Result Entry EntryError) → Gives entry_parts r (entry_in bytes)
    → (e : Option TbsParts) → IsEntry e → bytes ≡ entry_text e → Gives entry_parts r (Ok e)
gives_only bytes r given e f same =
    let P : Result (Option TbsParts) EntryError → Type 0 = λ wanted. Gives entry_parts r wanted in
    subst P (ap entry_in same ∙ entries_again e f) given

pub written_again : {E : Type 0} (p : TbsParts) (r : Result Text E)
    → IfOk r (λ bytes. bytes ≡ tbs_text p)
    → IsTbs p → IfOk r (λ bytes. entry_in bytes ≡ Ok (Some p))
written_again p (Ok bytes) same f = ap entry_in same ∙ entries_again (Some p) f
written_again p (Err e) same f = tt
