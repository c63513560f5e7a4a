-- What is looked for in the extensions field of a certificate is found there.
use Rattle.std.proofs.Common.{◌≡◌, ℕ, zero, suc, ◌+◌, ◌-◌, ◌^◌, ◌<◌, Bool, true, false, List}
use Rattle.std.proofs.Common.{[], ◌∷◌, ◌++◌, length, slice_index_or, Contains, Ok, refl}
use Rattle.std.proofs.Common.{sym, ap, subst, ◌∙◌, append-nil, arith, lit<, inl, inr, true≢false}
use Rattle.std.specs.Prelude.{if◌then◌else◌, ◌==◌}
use Rattle.std.specs.Str.{bytes_eq}
use Rattle.std.specs.List.{flat_map, list_any, AllByRecursion}
use Rattle.std.proofs.lemmas.Bool.{or_parts}
use Rattle.std.proofs.lemmas.List.Folds.{list_any-append}
use Rattle.std.proofs.lemmas.Slice.Eq.{bytes_eq-Decides}
use Rattle.byte_formats.specs.Types.{Text}
use Rattle.byte_formats.specs.Forms.{itself, FitsEach}
use Rattle.byte_formats.specs.Left.{first_at}
use Rattle.der_core.specs.Elements.{element, FitsElement}
use Rattle.der_core.specs.Reading.{wanted_at}
use Rattle.der_core.specs.Forms.{element_item}
use Rattle.der_core.proofs.Elements.{element_again, wanted_again, element-longer}
use Rattle.der_core.proofs.Fields.{tag_of}
use Rattle.cert_fields.specs.AltNames.{dns_name, names_left, names_inside, names_in}
use Rattle.cert_fields.specs.Extensions.{ExtensionFields, is_among, is_alt_name, identifier_of}
use Rattle.cert_fields.specs.Extensions.{extensions_left, list_in}
use Rattle.cert_fields.specs.Extensions.{extensions_after, extensions_in, is_unknown_critical}
use Rattle.cert_fields.specs.Extensions.{has_unknown_critical, alt_name_octets, dns_names_in}
use Rattle.cert_fields.specs.Identifiers.{subject_alt_name}
use Rattle.cert_fields.specs.Grammar.{IsGeneralName, IsGeneralNames, IsExtension}
use Rattle.cert_fields.specs.Grammar.{extension, AreExtensions}
use Rattle.cert_fields.specs.Found.{sequence_text, extensions_text, AreExtensionsOf, name_text}
use Rattle.cert_fields.specs.Found.{FitsName, AreNamesOf, dns_only}
use Rattle.byte_formats.proofs.Left.{left_found}
use Rattle.cert_fields.proofs.Walks.{names_step, extension_takes}
use Rattle.cert_fields.proofs.ExtensionForms.{IsExtensions, extension_form}

-- An extension whose identifier is new is new where none came before.
first_fits : (seen : List Text) (x : ExtensionFields) → IsExtension seen x → IsExtension [] x
first_fits seen x f = record {
  identifier = f.identifier;
  new = refl;
  names =
      f.names;
  short = f.short;
}

extensions_again : (seen : List Text) (xs : List ExtensionFields) (p : ℕ)
    → FitsEach identifier_of IsExtension seen xs
    → extensions_left (record { place = p; rest = flat_map extension xs }) ≡ xs
extensions_again seen xs p f = left_found extension_takes (extension_form []) xs p (all seen xs f)
  where
    all : (seen : List Text) (xs : List ExtensionFields)
        → FitsEach identifier_of IsExtension seen xs → AllByRecursion (IsExtension []) xs
    all seen [] f = tt
    all seen (x ∷ xs) f = (first_fits seen x f.0, all (seen ++ x.identifier ∷ []) xs f.1)

-- One element that is all that is left.
alone : (tag : ℕ) (contents : Text) (p : ℕ) → FitsElement tag contents
    → wanted_at tag (record { place = p; rest = element tag contents })
    ≡ Ok (
      element_item tag contents p,
      record {
        place =
            p + length (element tag contents);
        rest = [];
      },
    )
alone tag contents p fits =
    ap (λ (t : Text). wanted_at tag (record { place = p; rest = t }))
    (sym (append-nil (element tag contents))) ∙ wanted_again tag contents p [] fits

pub extensions_found : (xs : List ExtensionFields) → AreExtensions xs
    → length (sequence_text xs) < 2 ^ 24 → extensions_in (extensions_text xs) ≡ xs
unfolding list_in
extensions_found xs f short =
    let cs : Text = flat_map extension xs in
    let sequence : Text = sequence_text xs in
    let inner : length cs < 2 ^ 24 = omega (arith, short, element-longer 0x30 cs) in
    let place : ℕ = 0 + (length (extensions_text xs) - length sequence) in
    let field = alone 0xA3 sequence 0 (record {
      is_tag = tag_of 0xA3 (lit< tt) refl;
      short =
          short;
    }) in
    let list = alone 0x30 cs place (record {
      is_tag = tag_of 0x30 (lit< tt) refl;
      short =
          inner;
    }) in
    let found : list_in (extensions_text xs) ≡ Ok (record {
      place =
          place + (length sequence - length cs);
      rest = cs;
    }) = rw (field, list) refl in
    ap extensions_after found
    ∙ extensions_again [] xs (place + (length sequence - length cs)) f.each

names_again : (ns : List (ℕ × Text)) (p : ℕ) → AllByRecursion FitsName ns
    → names_left (record { place = p; rest = flat_map name_text ns }) ≡ dns_only ns
unfolding first_at
names_again [] p f = refl
names_again (n ∷ ns) p f =
    let one = element_again n.0 n.1 p (flat_map name_text ns) f.0 in
    let others = names_again ns (p + length (name_text n)) f.1 in
    names_step (record { place = p; rest = flat_map name_text (n ∷ ns) }) (element_item n.0 n.1 p)
    (record { place = p + length (name_text n); rest = flat_map name_text ns }) one
    ∙ ap (λ (found : List Text). if n.0 == dns_name then n.1 ∷ found else found) others

pub names_found : (ns : List (ℕ × Text)) → AllByRecursion FitsName ns
    → length (flat_map name_text ns) < 2 ^ 24 → names_in (element 0x30 (flat_map name_text ns))
    ≡ dns_only ns
names_found ns f short =
    let cs : Text = flat_map name_text ns in
    let one = alone 0x30 cs 0 (record { is_tag = tag_of 0x30 (lit< tt) refl; short = short }) in
    ap names_inside one ∙ names_again ns (0 + (length (element 0x30 cs) - length cs)) f

pub octets_found : (octets : Text) (ns : List (ℕ × Text)) → AreNamesOf octets ns
    → names_in octets ≡ dns_only ns
octets_found octets ns f = ap names_in f.encoded ∙ names_found ns f.each f.short

-- ---- the field of a certificate

-- The field is the encoding of some extensions, or absent.
pub field_extensions : (field : Text) → IsExtensions field → (xs : List ExtensionFields)
    × AreExtensionsOf field xs
field_extensions field (inl none) = ([], inl (none, refl))
field_extensions field (inr f) =
    let (contents, (sequence, short), encoded) = f in
    let (xs, (fits, inner), same) = sequence in
    let size : length (sequence_text xs) < 2 ^ 24 = omega (arith, short, ap length same) in
    (xs, inr (fits, size, encoded ∙ ap (element 0xA3) same))

absent : extensions_in [] ≡ []
unfolding list_in wanted_at
absent = refl

absent_names : dns_names_in [] ≡ []
unfolding list_in wanted_at
absent_names = refl

pub found_in : (field : Text) (xs : List ExtensionFields) → AreExtensionsOf field xs
    → extensions_in field ≡ xs
found_in field xs (inl (none, nothing)) = ap extensions_in none ∙ (absent ∙ sym nothing)
found_in field xs (inr (fits, short, encoded)) = ap extensions_in encoded
    ∙ extensions_found xs fits short

pub critical_found : (field : Text) (xs : List ExtensionFields) → AreExtensionsOf field xs
    → has_unknown_critical field ≡ list_any is_unknown_critical xs
critical_found field xs f = ap (list_any is_unknown_critical) (found_in field xs f)

no_octets : (xs : List ExtensionFields) → list_any is_alt_name xs ≡ false → alt_name_octets xs ≡ []
no_octets [] none = refl
no_octets (x ∷ xs) none =
    let (this, others) = or_parts (is_alt_name x) (list_any is_alt_name xs) none in
    rw this (no_octets xs others)

no_names : names_in [] ≡ []
unfolding wanted_at
no_names = refl

pub no_names_found : (field : Text) (xs : List ExtensionFields) → AreExtensionsOf field xs
    → list_any is_alt_name xs ≡ false → dns_names_in field ≡ []
no_names_found field xs f none = ap (λ (ys : List ExtensionFields). names_in (alt_name_octets ys))
    (found_in field xs f) ∙ (ap names_in (no_octets xs none) ∙ no_names)

-- An extension of a list has none of the identifiers before the list.
not_among : (seen : List Text) (xs : List ExtensionFields) (k : ℕ) (x : ExtensionFields)
    → FitsEach identifier_of IsExtension seen xs
    → k < length xs → slice_index_or xs k x ≡ x → is_among x.identifier seen ≡ false
not_among seen [] k x f less same = absurd (omega (arith, less))
not_among seen (y ∷ ys) zero x f less same =
    let P : ExtensionFields → Type 0 = λ z. is_among z.identifier seen ≡ false in
    subst P same f.0.new
not_among seen (y ∷ ys) (suc k) x f less same =
    let later = not_among (seen ++ y.identifier ∷ []) ys k x f.1 (omega (arith, less)) same in
    (or_parts (is_among x.identifier seen) (is_among x.identifier (y.identifier ∷ []))
    (sym (list_any-append (λ other. bytes_eq other x.identifier) seen (y.identifier ∷ []))
    ∙ later)).0

-- A list has at most one subjectAltName, whose octets are those that are found.
one_alt_name : (seen : List Text) (xs : List ExtensionFields) (k : ℕ) (x : ExtensionFields)
    → FitsEach identifier_of IsExtension seen xs
    → k < length xs → slice_index_or xs k x ≡ x → is_alt_name x ≡ true
    → alt_name_octets xs ≡ x.octets
one_alt_name seen [] k x f less same alt = absurd (omega (arith, less))
one_alt_name seen (y ∷ ys) zero x f less same alt =
    let P : ExtensionFields → Type 0 = λ z. is_alt_name z ≡ true in
    let first : is_alt_name y ≡ true = subst P (sym same) alt in
    rw first (ap (λ (z : ExtensionFields). z.octets) same)
one_alt_name seen (y ∷ ys) (suc k) x f less same alt =
    go (is_alt_name y) refl (one_alt_name (seen ++ y.identifier ∷ []) ys k x f.1 (omega (
      arith,
      less,
    )) same alt)
  where
    go : (b : Bool) → is_alt_name y ≡ b → alt_name_octets ys ≡ x.octets
        → (if b then y.octets else alt_name_octets ys) ≡ x.octets
    go false e others = others
    go true e others =
        let later = not_among (seen ++ y.identifier ∷ []) ys k x f.1 (omega (arith, less)) same in
        let apart = (or_parts (is_among x.identifier seen)
        (is_among x.identifier (y.identifier ∷ []))
        (sym (list_any-append (λ other. bytes_eq other x.identifier) seen (y.identifier ∷ []))
        ∙ later)).1 in
        let differ = (or_parts (bytes_eq y.identifier x.identifier) false apart).0 in
        let alike : y.identifier ≡ x.identifier =
        (bytes_eq-Decides y.identifier subject_alt_name).0 e
        ∙ sym ((bytes_eq-Decides x.identifier subject_alt_name).0 alt) in
        absurd (true≢false (sym ((bytes_eq-Decides y.identifier x.identifier).1 alike) ∙ differ))

pub names_of_field : (field : Text) (xs : List ExtensionFields) (x : ExtensionFields) (ns : List (ℕ
    × Text)) → AreExtensionsOf field xs
    → Contains xs x → is_alt_name x ≡ true → AreNamesOf x.octets ns
    → dns_names_in field ≡ dns_only ns
names_of_field field xs x ns (inl (none, nothing)) (k, less, same) alt names =
    absurd (omega (arith, less, ap length nothing))
names_of_field field xs x ns (inr (fits, short, encoded)) (k, less, same) alt names =
    ap (λ (ys : List ExtensionFields). names_in (alt_name_octets ys))
    (found_in field xs (inr (fits, short, encoded)))
    ∙ (ap names_in (one_alt_name [] xs k x fits.each less same alt)
    ∙ octets_found x.octets ns names)

-- ---- the names of a subjectAltName

abbrev pairs : (names : List Text) → AllByRecursion IsGeneralName names → List (ℕ × Text)
pairs [] f = []
pairs (n ∷ ns) f = (f.0.tag, f.0.contents) ∷ pairs ns f.1

pairs_encode : (names : List Text) (f : AllByRecursion IsGeneralName names)
    → flat_map itself names ≡ flat_map name_text (pairs names f)
pairs_encode [] f = refl
pairs_encode (n ∷ ns) f = ap (λ (t : Text). t ++ flat_map itself ns) f.0.encoded
    ∙ ap (λ (t : Text). element f.0.tag f.0.contents ++ t) (pairs_encode ns f.1)

pairs_fit : (names : List Text) (f : AllByRecursion IsGeneralName names)
    → AllByRecursion FitsName (pairs names f)
pairs_fit [] f = tt
pairs_fit (n ∷ ns) f = (f.0.fits, pairs_fit ns f.1)

pub octets_names : (octets : Text) → IsGeneralNames octets → (ns : List (ℕ × Text))
    × AreNamesOf octets ns
octets_names octets (names, (each, short), encoded) =
    let same = pairs_encode names each.0 in (
      pairs names each.0,
      record {
        each = pairs_fit names each.0;
        short =
            omega (arith, short, ap length same);
        encoded = encoded ∙ ap (element 0x30) same;
      },
    )
