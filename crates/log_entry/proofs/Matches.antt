-- A key matches an entry exactly if the grammars say so.
use Rattle.std.proofs.Common.{◌≡◌, true, false, length, Option, Some, None, IfSome, Result, Ok, Err}
use Rattle.std.proofs.Common.{refl, sym, ap, ◌∙◌}
use Rattle.std.specs.Prelude.{◌↔◌, is_none, is_some}
use Rattle.std.specs.Str.{bytes_eq}
use Rattle.std.proofs.lemmas.Bool.{and_parts}
use Rattle.std.proofs.lemmas.Slice.Eq.{bytes_eq-Decides}
use Rattle.byte_formats.specs.Types.{Text, HashFunction}
use Rattle.byte_formats.specs.Offsets.{IsBytes}
use Rattle.cert_time.specs.Times.{validity_element}
use Rattle.cert_fields.specs.Certificate.{Parts}
use Rattle.cert_fields.specs.Keys.{is_public_key, key_algorithm}
use Rattle.cert_fields.specs.Grammar.{IsAlgorithm, IsPublicKey, IsCertificate}
use Rattle.cert_fields.proofs.PublicKeys.{algorithm_of, public_key_only, public_key_again}
use Rattle.log_entry.specs.Entries.{TbsParts, tbs_text, IsTbs}
use Rattle.log_entry.specs.EntryOf.{tbs_with, entry_of, IsMadeOf}
use Rattle.log_entry.specs.Forms.{algorithm_for, form_of, form_with}
use Rattle.log_entry.specs.Reading.{entry_in}
use Rattle.log_entry.specs.Matching.{algorithm_agrees, has_form, holds, is_in_form, matches}
use Rattle.log_entry.specs.Matching.{Matches}
use Rattle.log_entry.specs.declared.entry.Form.{Form}
use Rattle.log_entry.specs.declared.entry.Form.TheVariants.{One, Two}
use Rattle.log_entry.specs.declared.fault.EntryError.{EntryError}
use Rattle.log_entry.proofs.EntryForm.{entries_only, entries_again}

-- ---- matching

-- The algorithm, if there is one, is that of the key.
abbrev pub IsOfKey : Option Text → Text → Type 0
IsOfKey algorithm spki = IfSome algorithm (λ bytes. bytes ≡ key_algorithm spki)

agrees_ok : (algorithm : Option Text) (spki : Text) → algorithm_agrees algorithm spki ≡ true
    → IsOfKey algorithm spki
agrees_ok None spki e = tt
agrees_ok (Some bytes) spki e = (bytes_eq-Decides bytes (key_algorithm spki)).0 e

agrees_so : (algorithm : Option Text) (spki : Text) → IsOfKey algorithm spki
    → algorithm_agrees algorithm spki ≡ true
agrees_so None spki is = refl
agrees_so (Some bytes) spki is = (bytes_eq-Decides bytes (key_algorithm spki)).1 is

pub record IsHeld (h : HashFunction) (spki : Text) (r : Result (Option TbsParts) EntryError)
    : Type 0 where
  pub parts : TbsParts
  pub read : r ≡ Ok (Some parts)
  pub algorithm : IsOfKey parts.algorithm spki
  pub hash : parts.key_hash ≡ h spki

holds_ok : (h : HashFunction) (spki : Text) (r : Result (Option TbsParts) EntryError)
    → holds h spki r ≡ true → IsHeld h spki r
holds_ok h spki (Ok (Some p)) e =
    let two = and_parts (algorithm_agrees p.algorithm spki) (bytes_eq p.key_hash (h spki)) e in
    record {
      parts = p;
      read = refl;
      algorithm = agrees_ok p.algorithm spki two.0;
      hash = (bytes_eq-Decides p.key_hash (h spki)).0 two.1;
    }
holds_ok h spki (Ok None) e = absurd cc
holds_ok h spki (Err d) e = absurd cc

pub matches_only : (h : HashFunction) (entry spki : Text) → IsBytes entry → IsBytes spki
    → matches h entry spki ≡ true → Matches h entry spki
unfolding matches
matches_only h entry spki some other e =
    let two = and_parts (holds h spki (entry_in entry)) (is_public_key spki) e in
    let p = holds_ok h spki (entry_in entry) two.0 in
    let known = entries_only entry (Some p.parts) some p.read in
    record {
      parts = p.parts;
      fits = known.1;
      encoded = known.0;
      key = public_key_only spki other two.1;
      hash = p.hash;
      algorithm = p.algorithm;
    }

pub matches_again : (h : HashFunction) (entry spki : Text) → Matches h entry spki
    → matches h entry spki ≡ true
unfolding matches
matches_again h entry spki m =
    let found : entry_in entry ≡ Ok (Some m.parts) = ap entry_in m.encoded
    ∙ entries_again (Some m.parts) m.fits in
    let named = agrees_so m.parts.algorithm spki m.algorithm in
    let hashed = (bytes_eq-Decides m.parts.key_hash (h spki)).1 m.hash in
    let held : holds h spki (entry_in entry) ≡ true = ap (holds h spki) found
    ∙ rw (named, hashed) refl in
    rw (held, public_key_again spki m.key) refl

pub written_matches : (h : HashFunction) (p : TbsParts) (spki : Text) → IsTbs p → IsPublicKey spki
    → IsOfKey p.algorithm spki → p.key_hash ≡ h spki → matches h (tbs_text p) spki ≡ true
written_matches h p spki f key named same =
    matches_again h (tbs_text p) spki (record {
      parts = p;
      fits = f;
      encoded = refl;
      key = key;
      hash = same;
      algorithm = named;
    })

-- ---- the entry of a certificate

pub algorithm_is : (form : Form) (spki : Text) → IsPublicKey spki
    → IfSome (algorithm_for form spki) IsAlgorithm
algorithm_is One spki key = tt
algorithm_is Two spki key = algorithm_of spki key

-- What a form has of a key is of the key.
pub algorithm_own : (form : Form) (spki : Text) → IsOfKey (algorithm_for form spki) spki
algorithm_own One spki = tt
algorithm_own Two spki = refl

certificate_tbs : (h : HashFunction) (form : Form) (p : Parts)
    → ((bytes : Text) → length (h bytes) ≡ 32)
    → IsCertificate p → IsTbs (tbs_with p form (h p.spki))
certificate_tbs h form p sized f = record {
  issuer = f.issuer;
  validity = f.validity;
  subject = f.subject;
  algorithm = algorithm_is form p.spki f.spki;
  key_hash = sized p.spki;
  extensions = f.extensions;
}

pub certificate_entry : (h : HashFunction) (form : Form) (p : Parts)
    → ((bytes : Text) → length (h bytes) ≡ 32) → IsCertificate p
    → entry_in (entry_of h form p) ≡ Ok (Some (tbs_with p form (h p.spki)))
unfolding entry_of
certificate_entry h form p sized f = entries_again (Some (tbs_with p form (h p.spki)))
    (certificate_tbs h form p sized f)

pub certificate_matches : (h : HashFunction) (form : Form) (p : Parts)
    → ((bytes : Text) → length (h bytes) ≡ 32) → IsCertificate p
    → matches h (entry_of h form p) p.spki ≡ true
unfolding entry_of
certificate_matches h form p sized f = written_matches h (tbs_with p form (h p.spki)) p.spki
    (certificate_tbs h form p sized f) f.spki (algorithm_own form p.spki) refl

-- ---- the form of an entry

pub form_again : (form : Form) (spki : Text) → form_with (algorithm_for form spki) ≡ form
form_again One spki = refl
form_again Two spki = refl

-- What is read in a form has it.
form_read : (form : Form) (r : Result (Option TbsParts) EntryError) (p : TbsParts)
    (algorithm : Option Text) → r ≡ Ok (Some p) → p.algorithm ≡ algorithm
    → (is_in_form form r ≡ true) ↔ (form_with algorithm ≡ form)
form_read form r p algorithm read named = by form algorithm
    (ap (is_in_form form) read) named
  where
    by : (form : Form) (algorithm : Option Text)
        → is_in_form form r ≡ is_in_form form (Ok (Some p)) → p.algorithm ≡ algorithm
        → (is_in_form form r ≡ true) ↔ (form_with algorithm ≡ form)
    by One None same named = (λ is. refl, λ is. same ∙ ap is_none named)
    by Two (Some a) same named = (λ is. refl, λ is. same ∙ ap is_some named)
    by Two None same named = (
      λ is. let wrong : false ≡ true = sym (ap is_some named) ∙ sym same ∙ is in absurd cc,
      λ is. absurd cc,
    )
    by One (Some a) same named = (
      λ is. let wrong : false ≡ true = sym (ap is_none named) ∙ sym same ∙ is in absurd cc,
      λ is. absurd cc,
    )

pub form_alone : (form : Form) (entry : Text) (p : TbsParts) → entry_in entry ≡ Ok (Some p)
    → (has_form form entry ≡ true) ↔ (form_of p ≡ form)
unfolding has_form
form_alone form entry p read =
    form_read form (entry_in entry) p p.algorithm read refl

pub certificate_form : (h : HashFunction) (form : Form) (p : Parts)
    → ((bytes : Text) → length (h bytes) ≡ 32) → IsCertificate p
    → has_form form (entry_of h form p) ≡ true
certificate_form h form p sized f =
    (form_alone form (entry_of h form p) (tbs_with p form (h p.spki))
    (certificate_entry h form p sized f)).1 (form_again form p.spki)

-- ---- the certificates of an entry

algorithm_made : (algorithm : Option Text) (spki : Text) → IsOfKey algorithm spki
    → algorithm_for (form_with algorithm) spki ≡ algorithm
algorithm_made None spki is = refl
algorithm_made (Some bytes) spki is = ap Some (sym is)

made_tbs : (h : HashFunction) (t : TbsParts) (p : Parts) → IsTbs t → IsCertificate p
    → IsMadeOf h t p → tbs_with p (form_of t) (h p.spki) ≡ t
made_tbs h t p f q m =
    let der : p.validity_der ≡ t.validity_der =
    q.validity.encoded ∙ (ap validity_element m.validity ∙ sym f.validity.encoded) in
    let named = algorithm_made t.algorithm p.spki m.algorithm in
    rw (m.issuer, m.validity, der, m.subject, named, m.key, m.extensions) refl

pub made_encoded : (h : HashFunction) (t : TbsParts) (p : Parts) → IsTbs t → IsCertificate p
    → IsMadeOf h t p → entry_of h (form_of t) p ≡ tbs_text t
unfolding entry_of
made_encoded h t p f q m = ap tbs_text (made_tbs h t p f q m)

pub made_read : (h : HashFunction) (entry : Text) (t : TbsParts) (p : Parts) → IsBytes entry
    → entry_in entry ≡ Ok (Some t)
    → IsCertificate p → IsMadeOf h t p → entry_of h (form_of t) p ≡ entry
made_read h entry t p bytes e q m =
    let known = entries_only entry (Some t) bytes e in
    made_encoded h t p known.1 q m ∙ sym known.0
