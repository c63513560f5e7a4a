-- The name of a log is read exactly from its encoding.
use Rattle.std.proofs.Common.{◌≡◌, ℕ, ◌%◌, ◌^◌, ◌<◌, Bool, true, false, length, Result, Ok, Err}
use Rattle.std.proofs.Common.{Option, Some, None, IfSome, MatchOption, refl, sym, ap, subst, ◌∙◌}
use Rattle.std.proofs.Common.{arith, lit<}
use Rattle.std.specs.Prelude.{if◌then◌else◌, ◌==◌}
use Rattle.std.specs.Borrow.{Bor}
use Rattle.std.proofs.lemmas.List.{length-append}
use Rattle.std.proofs.lemmas.Slice.Eq.{bytes_eq-Decides}
use Rattle.byte_formats.specs.Types.{Text}
use Rattle.byte_formats.specs.Offsets.{IsBytes}
use Rattle.byte_formats.specs.Readings.{is_read, Reading}
use Rattle.byte_formats.specs.Forms.{IsForm, Anything, FitsBoth}
use Rattle.byte_formats.proofs.FormLaws.{fits_form, ended_form, then_form, mapped_form, tested_form}
use Rattle.der_core.specs.Elements.{element}
use Rattle.der_core.specs.Fields.{inside_at, all_of}
use Rattle.der_core.specs.declared.fault.CertError.{CertError}
use Rattle.der_core.specs.declared.fault.CertError.TheVariants.{BadName}
use Rattle.der_core.proofs.Elements.{element-longer}
use Rattle.der_core.proofs.Fields.{tag_of, contents_form}
use Rattle.der_core.proofs.FieldLaws.{inside_form, all_takes, all_again}
use Rattle.tls_wire.specs.Arcs.{IsAnchorId}
use Rattle.tls_wire.specs.Anchors.{is_anchor_text, text_of}
use Rattle.tls_wire.proofs.AnchorForm.{text_again}
use Rattle.tls_wire.proofs.AnchorTexts.{text-short}
use Rattle.cert_names.proofs.Sizes.{name-size}
use Rattle.cert_names.specs.Names.{attribute_contents, set_contents, name_contents}
use Rattle.cert_names.specs.LogNames.{log_id, name_with, IsLogName, is_log_id, second, log_text_at}
use Rattle.cert_names.specs.LogNames.{log_attribute_at, log_set_at, log_name_at, id_only, log_in}

abbrev Short : Text → Type 0
Short contents = length contents < 2 ^ 24

abbrev Pair : Type 0
Pair = Text × Text

abbrev with_id : Text → Pair
with_id text = (log_id, text)

abbrev IsPair : Pair → Type 0
IsPair x = FitsBoth Short Short x × (is_log_id x ≡ true)

id_back : (x : Pair) → IsPair x → with_id (second x) ≡ x
id_back x f = ap (λ (id : Text). (id, x.1)) (sym ((bytes_eq-Decides x.0 log_id).0 f.1))

parts_form : IsForm (attribute_contents log_id) (λ text. IsPair (with_id text)) Anything log_text_at
unfolding log_text_at
parts_form =
    mapped_form (tested_form (then_form (contents_form 6 (tag_of 6 (lit< tt) refl))
    (contents_form 12 (tag_of 12 (lit< tt) refl))) is_log_id BadName) second with_id id_back
    (λ y f. refl)

-- An element around a text.
around : {encode : Text → Text} {Fits : Text → Type 0} {read : Reading Text CertError}
    → IsForm encode Fits Anything read → (tag : ℕ) → tag < 256 → (tag % 32 == 31) ≡ false
    → IsForm (λ text. element tag (encode text)) (λ text. Fits text × Short (encode text)) Anything
    (inside_at tag read)
around form tag byte low = inside_form (ended_form form tt) tag (tag_of tag byte low)

name_form : IsForm name_with (λ text. Short (name_contents log_id text)) Anything log_name_at
unfolding log_name_at log_set_at log_attribute_at name_with
name_form =
    fits_form (around (around (around parts_form 48 (lit< tt) refl) 49 (lit< tt) refl) 48 (lit< tt)
    refl) (λ text f. f.1)
    (λ text short.
    let set : Short (set_contents log_id text) =
    omega (arith, short, element-longer 49 (set_contents log_id text)) in
    let attribute : Short (attribute_contents log_id text) =
    omega (arith, set, element-longer 48 (attribute_contents log_id text)) in
    let own : Short text = omega (
      arith,
      attribute,
      length-append (element 6 log_id) (element 12 text),
      element-longer 12 text,
    ) in
    (((((lit< tt, own), refl), attribute), set), short))

pub log_only : (name text : Text) → IsBytes name → log_in name ≡ Some text → IsLogName name text
unfolding log_in
log_only name text h e = go (all_of log_name_at name) refl e
  where
    go : (r : Result Text CertError) → all_of log_name_at name ≡ r → id_only r ≡ Some text
        → IsLogName name text
    go (Ok t) read found = chosen_text t (is_anchor_text t) refl read found
      where
        chosen_text : (t : Text) (b : Bool) → is_anchor_text t ≡ b → all_of log_name_at name ≡ Ok t
            → (if b then Some t else None) ≡ Some text → IsLogName name text
        chosen_text t true id read found =
            let known = all_takes name_form name t h read in
            let P : Text → Type 0 = IsLogName name in
            let same : t ≡ text = cc in
            subst P same (record { id = id; short = known.1; encoded = known.0 })
        chosen_text t false id read found = absurd cc
    go (Err fault) read found = absurd cc

pub log_again : (name text : Text) → IsLogName name text → log_in name ≡ Some text
unfolding log_in
log_again name text f = ap (λ (n : Text). id_only (all_of log_name_at n)) f.encoded
    ∙ rw (all_again name_form text f.short, f.id) refl

-- ---- an answer that is exactly the text

abbrev pub Exactly : Text → Option (Bor Text) → Type 0
Exactly name r = MatchOption r (log_in name ≡ None) (λ text. log_in name ≡ Some text.now)

pub found : (name : Text) (r : Option (Bor Text)) → IsBytes name → Exactly name r
    → IfSome r (λ text. IsLogName name text.now)
found name (Some text) h e = log_only name text.now h e
found name None h e = tt

pub only : (name : Text) (r : Option (Bor Text)) → Exactly name r → (text : Text)
    → IsLogName name text → MatchOption r ⊥ (λ id. id.now ≡ text)
only name (Some id) e text f = cc (sym e ∙ log_again name text f)
only name None e text f = absurd (none (sym e ∙ log_again name text f))
  where
    none : None ≡ Some text → ⊥
    none e = cc

pub id_named : (id : Text) → IsAnchorId id → IsLogName (name_with (text_of id)) (text_of id)
id_named id f = record {
  id = ap is_read (text_again id f);
  short = omega (arith, name-size log_id (text_of id), text-short id f);
  encoded = refl;
}
