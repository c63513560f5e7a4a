-- Entries: how their parts are encoded, one after the other, and what the parts are, apart from any
-- reader.
use Rattle.std.specs.Prelude.{◌≡◌, ◌⊎◌, [], ◌∷◌, ◌++◌, length, Option, Some, None, IfSome}
use Rattle.byte_formats.specs.Types.{Text, Hash}
use Rattle.byte_formats.specs.Forms.{itself, optional}
use Rattle.cert_time.specs.Calendar.{Period}
use Rattle.cert_fields.specs.Encoding.{version}
use Rattle.cert_fields.specs.Grammar.{IsAlgorithm, IsName, IsValidity, IsExtensionsField}

-- The parts of an entry of type 1. Issuer, validity, subject, algorithm and extensions are whole
-- elements. The algorithm is that of the public key, in an entry of form two alone; the extensions
-- are absent where their list is empty.
pub record TbsParts : Type 0 where
  pub issuer : Text
  pub validity : Period
  pub validity_der : Text
  pub subject : Text
  pub algorithm : Option Text
  pub key_hash : Hash
  pub extensions : Text

-- The hash of the public key: an OCTET STRING of 32 bytes.
abbrev pub key_hash_text : Hash → Text
key_hash_text hash = 0x04 ∷ 0x20 ∷ hash

-- The body: the fields as they stand in a certificate, with the hash instead of the key, and in
-- form two the algorithm of the key before it.
abbrev pub body_text : TbsParts → Text
body_text p = version ++ (p.issuer ++ (p.validity_der ++ (p.subject ++
    (optional itself p.algorithm ++ (key_hash_text p.key_hash ++ p.extensions)))))

-- An entry of type 1: its type in two bytes, and its body.
unfoldable pub tbs_text : TbsParts → Text
tbs_text p = 0 ∷ 1 ∷ body_text p

-- An entry of type 0, the null entry, or one of type 1.
abbrev pub entry_text : Option TbsParts → Text
entry_text None = 0 ∷ 0 ∷ []
entry_text (Some p) = tbs_text p

-- Each part is in its grammar (RFC 5280, section 4.1).
pub record IsTbs (p : TbsParts) : Type 0 where
  pub issuer : IsName p.issuer
  pub validity : IsValidity (p.validity_der, p.validity)
  pub subject : IsName p.subject
  pub algorithm : IfSome p.algorithm IsAlgorithm
  pub key_hash : length p.key_hash ≡ 32
  pub extensions : (p.extensions ≡ []) ⊎ IsExtensionsField p.extensions

-- The null entry is one, and one of type 1 is where its parts are.
abbrev pub IsEntry : Option TbsParts → Type 0
IsEntry None = Unit {0}
IsEntry (Some p) = IsTbs p
