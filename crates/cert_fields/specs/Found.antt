-- The extensions field of a certificate, as the encoding of its extensions, and the names that are
-- found in it.
use Rattle.std.specs.Prelude.{◌≡◌, ℕ, ◌^◌, ◌<◌, ◌⊎◌, ◌==◌, List, [], ◌∷◌, length, if◌then◌else◌}
use Rattle.std.specs.List.{flat_map, AllByRecursion}
use Rattle.byte_formats.specs.Types.{Text}
use Rattle.der_core.specs.Elements.{element, FitsElement}
use Rattle.cert_fields.specs.AltNames.{dns_name}
use Rattle.cert_fields.specs.Extensions.{ExtensionFields}
use Rattle.cert_fields.specs.Grammar.{extension, AreExtensions}

-- The contents of the field: a SEQUENCE of the extensions.
abbrev pub sequence_text : List ExtensionFields → Text
sequence_text xs = element 0x30 (flat_map extension xs)

-- The field: its tag, a SEQUENCE, the extensions.
abbrev pub extensions_text : List ExtensionFields → Text
extensions_text xs = element 0xA3 (sequence_text xs)

-- The extensions of a certificate whose field is this: none where it is absent.
abbrev pub AreExtensionsOf : Text → List ExtensionFields → Type 0
AreExtensionsOf field xs =
    ((field ≡ []) × (xs ≡ []))
    ⊎ (AreExtensions xs × (length (sequence_text xs) < 2 ^ 24) × (field ≡ extensions_text xs))

-- A general name by its tag and its contents.
abbrev pub name_text : ℕ × Text → Text
name_text name = element name.0 name.1

-- The name is an element.
abbrev pub FitsName : ℕ × Text → Type 0
FitsName name = FitsElement name.0 name.1

-- The octets of a subjectAltName are a SEQUENCE of these names.
pub record AreNamesOf (octets : Text) (names : List (ℕ × Text)) : Type 0 where
  pub each : AllByRecursion FitsName names
  pub short : length (flat_map name_text names) < 2 ^ 24
  pub encoded : octets ≡ element 0x30 (flat_map name_text names)

-- The contents of the dNSNames, in their order.
abbrev pub dns_only : List (ℕ × Text) → List Text
dns_only [] = []
dns_only (name ∷ names) = if name.0 == dns_name then name.1 ∷ dns_only names else dns_only names
