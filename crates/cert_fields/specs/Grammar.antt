-- The grammar of a certificate (RFC 5280, section 4.1): what its parts are, apart from any reader.
use Rattle.std.specs.Prelude.{◌≡◌, ℕ, ◌^◌, ◌<◌, ◌⊎◌, Bool, true, false, List, [], ◌∷◌, ◌++◌, length}
use Rattle.std.specs.List.{flat_map, AllByRecursion}
use Rattle.byte_formats.specs.Types.{Text}
use Rattle.byte_formats.specs.Forms.{IsEncoding, itself, both, FitsBoth, FitsEach}
use Rattle.der_core.specs.Elements.{element, FitsElement}
use Rattle.der_core.specs.Forms.{IsElement, IsOid, bit_string, IsBitString, IsRisen}
use Rattle.cert_time.specs.Calendar.{Period, IsPeriod}
use Rattle.cert_time.specs.Times.{validity_element}
use Rattle.cert_fields.specs.AltNames.{is_general_name}
use Rattle.cert_fields.specs.Extensions.{ExtensionFields, is_among, is_alt_name, identifier_of}
use Rattle.cert_fields.specs.Certificate.{Parts}
use Rattle.cert_fields.specs.Encoding.{certificate_fields}

-- The bytes are one element with this tag, and its contents encode a value.
abbrev pub IsElementOf : {X : Type 0} → ℕ → (X → Text) → (X → Type 0) → Text → Type 0
IsElementOf tag encode Fits =
    IsEncoding (λ x. element tag (encode x)) (λ x. Fits x × (length (encode x) < 2 ^ 24))

-- The contents of an object identifier's element.
abbrev pub IsIdentifier : Text → Type 0
IsIdentifier contents = IsOid contents × (length contents < 2 ^ 24)

-- One element, or nothing.
abbrev pub IsElementOrNothing : Text → Type 0
IsElementOrNothing bytes = (bytes ≡ []) ⊎ IsElement bytes

-- AlgorithmIdentifier (4.1.1.2): a SEQUENCE of an object identifier and at most one element.
abbrev pub IsAlgorithm : Text → Type 0
IsAlgorithm =
    IsElementOf 0x30 (both (element 0x06) itself) (FitsBoth IsIdentifier IsElementOrNothing)

-- The number of unused bits and the bytes of a BIT STRING's element.
abbrev pub IsBits : ℕ × Text → Type 0
IsBits b = IsBitString b × (length (bit_string b) < 2 ^ 24)

-- SubjectPublicKeyInfo (4.1.2.7): a SEQUENCE of an algorithm and a BIT STRING.
abbrev pub IsPublicKey : Text → Type 0
IsPublicKey =
    IsElementOf 0x30 (both itself (λ b. element 0x03 (bit_string b))) (FitsBoth IsAlgorithm IsBits)

-- AttributeTypeAndValue (4.1.2.4): a SEQUENCE of an object identifier and one element.
abbrev pub IsAttribute : Text → Type 0
IsAttribute = IsElementOf 0x30 (both (element 0x06) itself) (FitsBoth IsIdentifier IsElement)

-- Attributes in rising order, at least one.
pub record AreAttributes (attributes : List Text) : Type 0 where
  pub some : 0 < length (flat_map itself attributes)
  pub each : AllByRecursion IsAttribute attributes
  pub rise : FitsEach itself IsRisen [] attributes

-- RelativeDistinguishedName: a SET of them.
abbrev pub IsSet : Text → Type 0
IsSet = IsElementOf 0x31 (flat_map itself) AreAttributes

-- Name (4.1.2.4): a SEQUENCE of sets, or of none.
abbrev pub IsName : Text → Type 0
IsName = IsElementOf 0x30 (flat_map itself) (AllByRecursion IsSet)

-- Validity (4.1.2.5): the element that its times are written as.
pub record IsValidity (v : Text × Period) : Type 0 where
  pub period : IsPeriod v.1
  pub encoded : v.0 ≡ validity_element v.1

-- The bytes of a signature (4.1.1.3): as a BIT STRING they are short enough for a length of three
-- bytes.
abbrev pub IsSignatureValue : Text → Type 0
IsSignatureValue proof = length (0 ∷ proof) < 2 ^ 24

-- GeneralName (4.2.1.6): one element with one of the tags; a dNSName is ASCII.
pub record IsGeneralName (bytes : Text) : Type 0 where
  pub tag : ℕ
  pub contents : Text
  pub fits : FitsElement tag contents
  pub allowed : is_general_name tag contents ≡ true
  pub encoded : bytes ≡ element tag contents

-- GeneralNames (4.2.1.6): a SEQUENCE of them, at least one.
abbrev pub IsGeneralNames : Text → Type 0
IsGeneralNames =
    IsElementOf 0x30 (flat_map itself)
    (λ names. AllByRecursion IsGeneralName names × (0 < length (flat_map itself names)))

-- The mark of a critical extension: a BOOLEAN of TRUE, or nothing.
abbrev pub mark : Bool → Text
mark false = []
mark true = 0x01 ∷ 0x01 ∷ 0xFF ∷ []

-- Identifier, mark and octets of an extension.
abbrev pub extension_contents : ExtensionFields → Text
extension_contents x = element 0x06 x.identifier ++ (mark x.critical ++ element 0x04 x.octets)

-- Extension (4.1.2.9), after extensions with these identifiers.
pub record IsExtension (seen : List Text) (x : ExtensionFields) : Type 0 where
  pub identifier : IsOid x.identifier
  pub new : is_among x.identifier seen ≡ false
  pub names : is_alt_name x ≡ true → IsGeneralNames x.octets
  pub short : length (extension_contents x) < 2 ^ 24

-- Its contents in a SEQUENCE.
abbrev pub extension : ExtensionFields → Text
extension x = element 0x30 (extension_contents x)

-- Extensions, at least one, with different identifiers.
pub record AreExtensions (xs : List ExtensionFields) : Type 0 where
  pub some : 0 < length (flat_map extension xs)
  pub each : FitsEach identifier_of IsExtension [] xs

-- A SEQUENCE of them.
abbrev pub IsExtensionSequence : Text → Type 0
IsExtensionSequence = IsElementOf 0x30 (flat_map extension) AreExtensions

-- The field (4.1): the sequence in its tag.
abbrev pub IsExtensionsField : Text → Type 0
IsExtensionsField = IsElementOf 0xA3 itself IsExtensionSequence

-- Certificate (4.1): each part is in its grammar, and the whole is short enough for a length of
-- three bytes.
pub record IsCertificate (p : Parts) : Type 0 where
  pub positive : 0 < p.serial
  pub serial : p.serial < 2 ^ 64
  pub algorithm : IsAlgorithm p.algorithm
  pub issuer : IsName p.issuer
  pub validity : IsValidity (p.validity_der, p.validity)
  pub subject : IsName p.subject
  pub spki : IsPublicKey p.spki
  pub extensions : (p.extensions ≡ []) ⊎ IsExtensionsField p.extensions
  pub short : length (certificate_fields p) < 2 ^ 24
