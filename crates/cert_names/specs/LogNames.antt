-- The name of a log, as the issuer of certificates: one attribute that holds the text of the log's
-- id.
use Rattle.std.specs.Prelude.{◌≡◌, ◌^◌, ◌<◌, Bool, true, [], ◌∷◌, length, Option, Some, None}
use Rattle.std.specs.Prelude.{Result, Ok, Err, if◌then◌else◌}
use Rattle.std.specs.Str.{bytes_eq}
use Rattle.byte_formats.specs.Types.{Text}
use Rattle.byte_formats.specs.Readings.{Reading, both_at, mapped_at, tested_at}
use Rattle.der_core.specs.Fields.{inside_at, contents_at, all_of}
use Rattle.der_core.specs.declared.fault.CertError.{CertError}
use Rattle.der_core.specs.declared.fault.CertError.TheVariants.{BadName}
use Rattle.tls_wire.specs.Anchors.{is_anchor_text}
use Rattle.cert_names.specs.Names.{name_contents, name_of}

-- The attribute of a log's id: the object identifier 1.3.6.1.4.1.44363.47.1.
abbrev pub log_id : Text
log_id = 0x2B ∷ 0x06 ∷ 0x01 ∷ 0x04 ∷ 0x01 ∷ 0x82 ∷ 0xDA ∷ 0x4B ∷ 0x2F ∷ 0x01 ∷ []

-- The name with this text.
unfoldable pub name_with : Text → Text
name_with text = name_of log_id text

-- The name of the log whose id has this text.
pub record IsLogName (name text : Text) : Type 0 where
  pub id : is_anchor_text text ≡ true
  pub short : length (name_contents log_id text) < 2 ^ 24
  pub encoded : name ≡ name_with text

-- ---- reading

-- The attribute is a log's id.
abbrev pub is_log_id : Text × Text → Bool
is_log_id x = bytes_eq x.0 log_id

-- The text of an attribute.
abbrev pub second : Text × Text → Text
second x = x.1

-- The text after the identifier.
unfoldable pub log_text_at : Reading Text CertError
log_text_at =
    mapped_at second (tested_at is_log_id BadName (both_at (contents_at 0x06) (contents_at 0x0C)))

-- The text in the attribute, in its set, in the name.
unfoldable pub log_attribute_at : Reading Text CertError
log_attribute_at = inside_at 0x30 log_text_at

unfoldable pub log_set_at : Reading Text CertError
log_set_at = inside_at 0x31 log_attribute_at

unfoldable pub log_name_at : Reading Text CertError
log_name_at = inside_at 0x30 log_set_at

-- The text that was read, where it is that of an id.
abbrev pub id_only : {E : Type 0} → Result Text E → Option Text
id_only (Ok text) = if is_anchor_text text then Some text else None
id_only (Err e) = None

-- The text of the id in the name of a log; in any other name, none.
unfoldable pub log_in : Text → Option Text
log_in name = id_only (all_of log_name_at name)
