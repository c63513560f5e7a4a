-- What is issued is an entry of the log, to which the key of the request belongs.
use Rattle.std.proofs.Common.{◌≡◌, ℕ, ◌<◌, ◌≤◌, true, false, List, [], ◌∷◌, length, Option, Some}
use Rattle.std.proofs.Common.{None, IfSome, Ok, refl, sym, ap, subst, ◌∙◌, ◌++◌, get_or, append-nil}
use Rattle.std.proofs.Common.{arith, lit<, inr}
use Rattle.std.proofs.Math.Seq.{get_or-append_seam}
use Rattle.std.specs.Prelude.{is_none, map}
use Rattle.std.specs.List.{flat_map, list_any, AllByRecursion}
use Rattle.std.proofs.lemmas.List.{length-append}
use Rattle.std.proofs.lemmas.List.Folds.{flat_map-map}
use Rattle.byte_formats.specs.Forms.{itself}
use Rattle.tls_wire.specs.Arcs.{IsAnchorId}
use Rattle.tls_wire.specs.Anchors.{text_of}
use Rattle.tls_wire.proofs.AnchorTexts.{text-short}
use Rattle.der_core.specs.Elements.{element}
use Rattle.der_core.specs.Forms.{IsElement, IsOid, IsRisen}
use Rattle.der_core.proofs.Elements.{element-longer, element-short}
use Rattle.der_core.proofs.Fields.{tag_of}
use Rattle.cert_names.specs.LogNames.{log_id, name_with}
use Rattle.cert_names.specs.Names.{attribute_contents, set_contents, name_contents, name_of}
use Rattle.cert_names.proofs.Sizes.{attribute-size}
use Rattle.cert_fields.specs.Identifiers.{subject_alt_name}
use Rattle.cert_fields.specs.AltNames.{dns_name, names_in}
use Rattle.cert_fields.specs.Extensions.{ExtensionFields, extensions_in, alt_name_octets}
use Rattle.cert_fields.specs.Extensions.{dns_names_in, has_unknown_critical, is_unknown_critical}
use Rattle.cert_fields.specs.Grammar.{IsAttribute, IsSet, IsName, IsGeneralName, IsGeneralNames}
use Rattle.cert_fields.specs.Grammar.{IsExtension, extension, extension_contents, AreExtensions}
use Rattle.cert_fields.specs.Grammar.{IsExtensionsField}
use Rattle.cert_fields.specs.Found.{name_text, FitsName, dns_only}
use Rattle.cert_fields.proofs.Found.{extensions_found, names_found}
use Rattle.log_entry.specs.Entries.{IsTbs}
use Rattle.log_entry.specs.Reading.{entry_in}
use Rattle.log_entry.specs.Matching.{has_form, matches}
use Rattle.log_entry.specs.declared.entry.Form.{Form}
use Rattle.log_entry.proofs.EntryForm.{entries_again}
use Rattle.log_entry.proofs.Matches.{algorithm_is, algorithm_own, form_again, form_alone}
use Rattle.log_entry.proofs.Matches.{written_matches}
use Rattle.issuance_log.specs.Folds.{LogState, with_item}
use Rattle.authority_core.specs.Acceptance.{IsOwnEntry}
use Rattle.cert_names.specs.Hosts.{IsHostName}
use Rattle.authority_core.specs.Requests.{IsCommonName, CanBeIssued, RequestParts}
use Rattle.authority_core.specs.Issuing.{common_name_id, subject_of, dns_names, alt_name_of}
use Rattle.authority_core.specs.Issuing.{extensions_of, tbs_for, entry_for}
use Rattle.authority_core.proofs.Identifiers.{common_name_oid, alt_name_oid, log_oid}
use Rattle.authority_core.proofs.Labels.{host-short, host-ascii}
use Rattle.authority_core.proofs.Sizes.{sole, names-short, contents-short, extension-short}

-- ---- names of one attribute

text_element : (text : List ℕ) → length text ≤ 5355 → IsElement (element 12 text)
text_element text few = record {
  tag = 12;
  contents = text;
  fits = record { is_tag = tag_of 12 (lit< tt) refl; short = omega (arith, few) };
  encoded = refl;
}

module _ (identifier text : List ℕ) (oid : IsOid identifier) (small : length identifier
    ≤ 10) (few : length text ≤ 5355) where
  fields-few : length (attribute_contents identifier text) ≤ 5375
  fields-few = omega (arith, small, few, attribute-size identifier text)

  attribute-few : length (set_contents identifier text) ≤ 5380
  attribute-few = omega (arith, fields-few, element-short 48 (attribute_contents identifier text))

  set-few : length (name_contents identifier text) ≤ 5385
  set-few = omega (arith, attribute-few, element-short 49 (set_contents identifier text))

  attribute_is : IsAttribute (set_contents identifier text)
  attribute_is = (
    (identifier, element 12 text),
    (((oid, omega (arith, small)), text_element text few), omega (arith, fields-few)),
    refl,
  )

  first_of_set : IsRisen [] (set_contents identifier text)
  unfolding element
  first_of_set = record {
    is_element = record {
      tag = 48;
      contents = attribute_contents identifier text;
      fits = record { is_tag = tag_of 48 (lit< tt) refl; short = omega (arith, fields-few) };
      encoded = refl;
    };
    risen = refl;
  }

  set_is : IsSet (name_contents identifier text)
  set_is =
      let alone : flat_map itself (set_contents identifier text ∷ [])
      ≡ set_contents identifier text = append-nil (set_contents identifier text) in (
        set_contents identifier text ∷ [],
        (
          record {
            some = omega (
              arith,
              ap length alone,
              element-longer 48 (attribute_contents identifier text),
            );
            each = (attribute_is, tt);
            rise = (first_of_set, tt);
          },
          omega (arith, ap length alone, attribute-few),
        ),
        ap (element 49) (sym alone),
      )

  name_is : IsName (name_of identifier text)
  name_is =
      let alone : flat_map itself (name_contents identifier text ∷ [])
      ≡ name_contents identifier text = append-nil (name_contents identifier text) in (
        name_contents identifier text ∷ [],
        ((set_is, tt), omega (arith, ap length alone, set-few)),
        ap (element 48) (sym alone),
      )

issuer_is : (id : List ℕ) → IsAnchorId id → IsName (name_with (text_of id))
unfolding name_with
issuer_is id f = name_is log_id (text_of id) log_oid (omega arith) (text-short id f)

subject_is : (common_name : Option (List ℕ)) → IfSome common_name IsCommonName
    → IsName (subject_of common_name)
unfolding subject_of
subject_is None f = ([], (tt, lit< tt), refl)
subject_is (Some text) f = name_is common_name_id text common_name_oid (omega arith)
    (omega (arith, f.1))

-- ---- the extensions

host_is : (name : List ℕ) → IsHostName name → IsGeneralName (element dns_name name)
host_is name f = record {
  tag = dns_name;
  contents = name;
  fits = record { is_tag = tag_of 130 (lit< tt) refl; short = omega (arith, host-short name f) };
  allowed = host-ascii name f;
  encoded = refl;
}

hosts_are : (names : List (List ℕ)) → AllByRecursion IsHostName names
    → AllByRecursion IsGeneralName (map (element dns_name) names)
hosts_are [] f = tt
hosts_are (name ∷ names) f = (host_is name f.0, hosts_are names f.1)

names-some : (names : List (List ℕ)) → 1 ≤ length names → 0 < length (dns_names names)
names-some [] some = absurd (omega (arith, some))
names-some (name ∷ names) some = omega (
  arith,
  element-longer 130 name,
  length-append (element 130 name) (dns_names names),
)

octets_are : (r : RequestParts) → CanBeIssued r → IsGeneralNames (element 48 (dns_names r.names))
octets_are r f =
    let same : flat_map itself (map (element dns_name) r.names) ≡ dns_names r.names =
    flat_map-map itself (element dns_name) r.names in (
      map (element dns_name) r.names,
      (
        (hosts_are r.names f.names.each, omega (arith, ap length same, names-some r.names f.some)),
        omega (arith, ap length same, names-short r.names f.names),
      ),
      ap (element 48) (sym same),
    )

alt_name_is : (r : RequestParts) → CanBeIssued r → IsExtension [] (alt_name_of r)
alt_name_is r f = record {
  identifier = alt_name_oid;
  new = refl;
  names = λ same. octets_are r f;
  short = omega (arith, contents-short r f);
}

extensions_are : (r : RequestParts) → CanBeIssued r → AreExtensions (alt_name_of r ∷ [])
extensions_are r f = record {
  some = omega (
    arith,
    ap length (sole (alt_name_of r)),
    element-longer 48 (extension_contents (alt_name_of r)),
  );
  each = (alt_name_is r f, tt);
}

list-few : (r : RequestParts) → CanBeIssued r
    → length (flat_map extension (alt_name_of r ∷ [])) ≤ 26010
list-few r f = omega (arith, ap length (sole (alt_name_of r)), extension-short r f)

sequence-few : (r : RequestParts) → CanBeIssued r
    → length (element 48 (flat_map extension (alt_name_of r ∷ []))) ≤ 26020
sequence-few r f = omega (
  arith,
  list-few r f,
  element-short 48 (flat_map extension (alt_name_of r ∷ [])),
)

field_is : (r : RequestParts) → CanBeIssued r → IsExtensionsField (extensions_of r)
unfolding extensions_of
field_is r f =
    let list : List ℕ = flat_map extension (alt_name_of r ∷ []) in (
      element 48 list,
      (
        (
          alt_name_of r ∷ [],
          (extensions_are r f, omega (arith, list-few r f)),
          refl,
        ),
        omega (arith, sequence-few r f),
      ),
      refl,
    )

-- ---- the entry

module _ (h : List ℕ → List ℕ) (form : Form) (id : List ℕ) (r : RequestParts)
    (sized : (bytes : List ℕ) → length (h bytes) ≡ 32) (anchor : IsAnchorId id)
    (f : CanBeIssued r) where
  pub fields_are : IsTbs (tbs_for h form id r)
  fields_are = record {
    issuer = issuer_is id anchor;
    validity = record { period = f.validity; encoded = refl };
    subject = subject_is r.common_name f.common_name;
    algorithm = algorithm_is form r.key f.key;
    key_hash = sized r.key;
    extensions = inr (field_is r f);
  }

  pub entry_read : entry_in (entry_for h form id r) ≡ Ok (Some (tbs_for h form id r))
  unfolding entry_for
  entry_read = entries_again (Some (tbs_for h form id r)) fields_are

  pub key_belongs : matches h (entry_for h form id r) r.key ≡ true
  unfolding entry_for
  key_belongs =
      written_matches h (tbs_for h form id r) r.key fields_are f.key (algorithm_own form r.key) refl

  -- It has the form that was asked for.
  pub form_asked : has_form form (entry_for h form id r) ≡ true
  form_asked =
      (form_alone form (entry_for h form id r) (tbs_for h form id r) entry_read).1
      (form_again form r.key)

-- ---- what is found in the extensions

alone_found : (r : RequestParts) → CanBeIssued r
    → extensions_in (extensions_of r) ≡ alt_name_of r ∷ []
unfolding extensions_of
alone_found r f =
    extensions_found (alt_name_of r ∷ []) (extensions_are r f)
    (omega (arith, sequence-few r f))

abbrev as_name : List ℕ → ℕ × List ℕ
as_name name = (dns_name, name)

name_texts : (names : List (List ℕ)) → flat_map name_text (map as_name names) ≡ dns_names names
name_texts names = flat_map-map name_text as_name names

names_fit : (names : List (List ℕ)) → AllByRecursion IsHostName names
    → AllByRecursion FitsName (map as_name names)
names_fit [] f = tt
names_fit (name ∷ names) f = (
  record {
    is_tag = tag_of 130 (lit< tt) refl;
    short =
        omega (arith, host-short name f.0);
  },
  names_fit names f.1,
)

only_names : (names : List (List ℕ)) → dns_only (map as_name names) ≡ names
only_names [] = refl
only_names (name ∷ names) = ap (λ (rest : List (List ℕ)). name ∷ rest) (only_names names)

pub names_asked : (r : RequestParts) → CanBeIssued r → dns_names_in (extensions_of r) ≡ r.names
names_asked r f =
    let texts = name_texts r.names in
    ap (λ (xs : List ExtensionFields). names_in (alt_name_octets xs)) (alone_found r f)
    ∙ ap (λ (t : List ℕ). names_in (element 48 t)) (sym texts)
    ∙ names_found (map as_name r.names) (names_fit r.names f.names.each) (omega (
      arith,
      ap length texts,
      names-short r.names f.names,
    ))
    ∙ only_names r.names

pub all_known : (r : RequestParts) → CanBeIssued r → has_unknown_critical (extensions_of r) ≡ false
all_known r f = ap (list_any is_unknown_critical) (alone_found r f) ∙ alone_known r.common_name
  where
    alone_known : (o : Option (List ℕ))
        → list_any is_unknown_critical (record {
          identifier = subject_alt_name;
          critical =
              is_none o;
          octets = element 48 (dns_names r.names);
        } ∷ []) ≡ false
    alone_known None = refl
    alone_known (Some name) = refl

-- ---- an entry of the log

pub own_entry : (h : List ℕ → List ℕ) (form : Form) (id : List ℕ) (r : RequestParts)
    → ((bytes : List ℕ) → length (h bytes) ≡ 32) → IsAnchorId id → CanBeIssued r
    → IsOwnEntry id (entry_for h form id r)
own_entry h form id r sized anchor f = record {
  fields = tbs_for h form id r;
  read = entry_read h form id r sized anchor f;
  issuer = refl;
  known = all_known r f;
}

-- and the log has it, at the index where it was added
pub own_added : (s t : LogState) (id entry key : List ℕ) (index : ℕ) → t ≡ with_item entry key s
    → index ≡ length s.entries → id ≡ s.settings.id → IsOwnEntry id entry
    → IsOwnEntry t.settings.id (get_or t.entries index [])
own_added s t id entry key index grown last same own =
    let at : get_or t.entries index [] ≡ entry =
    ap (λ (x : LogState). get_or x.entries index []) grown
    ∙ ap (λ (n : ℕ). get_or (s.entries ++ entry ∷ []) n []) last
    ∙ get_or-append_seam s.entries entry [] [] in
    let named : id ≡ t.settings.id = same ∙ sym (ap (λ (x : LogState). x.settings.id) grown) in
    subst (IsOwnEntry t.settings.id) (sym at)
    (subst (λ (name : List ℕ). IsOwnEntry name entry) named own)
