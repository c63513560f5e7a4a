-- Extensions (RFC 5280, sections 4.1 and 4.2).
use Rattle.std.specs.Prelude.{ℕ, ◌&&◌, ◌||◌, Bool, true, false, not, List, [], ◌∷◌}
use Rattle.std.specs.Prelude.{length, is_some, Result, Ok, Err, if◌then◌else◌}
use Rattle.std.specs.List.{list_any}
use Rattle.std.specs.Str.{bytes_eq}
use Rattle.byte_formats.specs.Types.{Text}
use Rattle.byte_formats.specs.Offsets.{At, at}
use Rattle.byte_formats.specs.Readings.{◌>>=◌, both_at, mapped_at, tested_at, optional_at}
use Rattle.byte_formats.specs.Readings.{or_nothing_at, some_at, Reading}
use Rattle.byte_formats.specs.Lists.{each_at}
use Rattle.byte_formats.specs.Left.{first_at, left_at}
use Rattle.der_core.specs.Items.{inside}
use Rattle.der_core.specs.Reading.{wanted_at}
use Rattle.der_core.specs.Contents.{boolean_of, oid_of}
use Rattle.der_core.specs.Fields.{inside_at, whole_at, decoded_at, contents_at}
use Rattle.der_core.specs.declared.fault.DerError.{DerError}
use Rattle.der_core.specs.declared.fault.CertError.{CertError}
use Rattle.der_core.specs.declared.fault.CertError.TheVariants.{BadExtension, RepeatedExtension}
use Rattle.cert_fields.specs.Identifiers.{subject_alt_name, is_known_extension}
use Rattle.cert_fields.specs.AltNames.{are_general_names, names_in}

-- An extension: its identifier, whether it is critical, and its octets.
pub record ExtensionFields : Type 0 where
  pub identifier : Text
  pub critical : Bool
  pub octets : Text

-- These bytes are among those that were seen.
abbrev pub is_among : Text → List Text → Bool
is_among bytes seen = list_any (λ other. bytes_eq other bytes) seen

-- The identifier, which isn't among those before it.
unfoldable pub new_identifier_at : List Text → Reading Text CertError
new_identifier_at seen =
    tested_at (λ identifier. not (is_among identifier seen)) RepeatedExtension
    (decoded_at 0x06 oid_of)

-- The mark of a critical extension: TRUE. FALSE is the default, and a default isn't written (X.690,
-- section 11.5).
unfoldable pub critical_at : Reading Bool CertError
critical_at =
    mapped_at is_some (optional_at 0x01 (tested_at (λ b. b) BadExtension
    (decoded_at 0x01 boolean_of)))

-- An extension from its identifier, its mark and its octets.
abbrev pub to_extension : Text × (Bool × Text) → ExtensionFields
to_extension x = record { identifier = x.0; critical = x.1.0; octets = x.1.1 }

-- An extension is the subjectAltName (4.2.1.6).
abbrev pub is_alt_name : ExtensionFields → Bool
is_alt_name x = bytes_eq x.identifier subject_alt_name

-- The octets of a subjectAltName are general names.
abbrev pub has_its_form : ExtensionFields → Bool
has_its_form x = if is_alt_name x then are_general_names x.octets else true

-- Extension, after extensions with these identifiers: an identifier, a mark, an OCTET STRING.
unfoldable pub extension_at : List Text → Reading ExtensionFields CertError
extension_at seen =
    inside_at 0x30 (tested_at has_its_form BadExtension
    (mapped_at to_extension
    (both_at (new_identifier_at seen) (both_at critical_at (contents_at 0x04)))))

-- Its identifier.
abbrev pub identifier_of : ExtensionFields → Text
identifier_of x = x.identifier

-- Extensions up to the end.
unfoldable pub extension_list_at : Reading (List ExtensionFields) CertError
extension_list_at a = each_at identifier_of extension_at (length a.rest) [] a

-- Extensions: a SEQUENCE of extensions, at least one.
unfoldable pub extension_sequence_at : Reading Text CertError
extension_sequence_at = whole_at 0x30 (some_at BadExtension extension_list_at)

-- The field: extensions after its tag, or nothing.
unfoldable pub extensions_at : Reading Text CertError
extensions_at = or_nothing_at 0xA3 (whole_at 0xA3 extension_sequence_at)

-- ---- what is found in the bytes of the field, whether or not they are in the grammar

-- The identifier of the extension that stands here.
unfoldable pub head_at : Reading Text DerError
head_at a =
    wanted_at 0x30 a >>= λ e.
    wanted_at 0x06 (inside e.0) >>= λ identifier. Ok (identifier.0.contents, e.1)

-- The identifiers of the first n extensions.
abbrev pub identifiers : ℕ → At → List Text
identifiers = first_at head_at

-- One of them stands twice.
abbrev pub are_repeated : List Text → Bool
are_repeated [] = false
are_repeated (identifier ∷ others) = is_among identifier others || are_repeated others

-- One of them is among those that were seen.
abbrev pub any_among : List Text → List Text → Bool
any_among seen identifiers = list_any (λ identifier. is_among identifier seen) identifiers

-- The extensions, up to the first that doesn't read.
abbrev pub extensions_left : At → List ExtensionFields
extensions_left = left_at (extension_at [])

-- The position of the first extension in the bytes of the field.
unfoldable pub list_in : Text → Result At DerError
list_in bytes =
    wanted_at 0xA3 (at bytes 0) >>= λ field.
    wanted_at 0x30 (inside field.0) >>= λ list. Ok (inside list.0)

-- The extensions from a position on that was found; none where none was.
abbrev pub extensions_after : Result At DerError → List ExtensionFields
extensions_after (Ok a) = extensions_left a
extensions_after (Err fault) = []

-- The extensions in the bytes of the field: those that read, from the left.
abbrev pub extensions_in : Text → List ExtensionFields
extensions_in bytes = extensions_after (list_in bytes)

-- A critical extension that isn't known.
abbrev pub is_unknown_critical : ExtensionFields → Bool
is_unknown_critical x = x.critical && not (is_known_extension x.identifier)

-- One of the extensions in the bytes of the field is critical and isn't known.
abbrev pub has_unknown_critical : Text → Bool
has_unknown_critical bytes = list_any is_unknown_critical (extensions_in bytes)

-- The octets of the first subjectAltName, or no octets.
abbrev pub alt_name_octets : List ExtensionFields → Text
alt_name_octets [] = []
alt_name_octets (x ∷ xs) = if is_alt_name x then x.octets else alt_name_octets xs

-- The dNSNames in the bytes of the field.
abbrev pub dns_names_in : Text → List Text
dns_names_in bytes = names_in (alt_name_octets (extensions_in bytes))
