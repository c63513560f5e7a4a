-- What is issued: the entry that a request makes in the log of the authority.
use Rattle.std.specs.Prelude.{List, [], ◌∷◌, Option, Some, None, is_none}
use Rattle.std.specs.List.{flat_map}
use Rattle.byte_formats.specs.Types.{Text, HashFunction}
use Rattle.tls_wire.specs.Anchors.{text_of}
use Rattle.der_core.specs.Elements.{element}
use Rattle.cert_time.specs.Times.{validity_element}
use Rattle.cert_names.specs.LogNames.{name_with}
use Rattle.cert_names.specs.Names.{name_of}
use Rattle.cert_fields.specs.Identifiers.{subject_alt_name}
use Rattle.cert_fields.specs.AltNames.{dns_name}
use Rattle.cert_fields.specs.Extensions.{ExtensionFields}
use Rattle.cert_fields.specs.Found.{extensions_text}
use Rattle.log_entry.specs.Entries.{TbsParts, tbs_text}
use Rattle.log_entry.specs.Forms.{algorithm_for}
use Rattle.log_entry.specs.declared.entry.Form.{Form}
use Rattle.authority_core.specs.Requests.{RequestParts}

-- ---- the subject (RFC 5280, sections 4.1.2.4 and 4.1.2.6)

-- id-at-commonName, 2.5.4.3.
abbrev pub common_name_id : Text
common_name_id = 0x55 ∷ 0x04 ∷ 0x03 ∷ []

-- A name of one common name, or the empty name.
unfoldable pub subject_of : Option Text → Text
subject_of None = element 0x30 []
subject_of (Some text) = name_of common_name_id text

-- ---- the extensions (RFC 5280, section 4.2.1.6)

-- The names as dNSNames, in their order.
abbrev pub dns_names : List Text → Text
dns_names names = flat_map (element dns_name) names

-- subjectAltName. It is critical exactly if the subject is empty.
abbrev pub alt_name_of : RequestParts → ExtensionFields
alt_name_of r = record {
  identifier = subject_alt_name;
  critical = is_none r.common_name;
  octets = element 0x30 (dns_names r.names);
}

-- The extensions field: subjectAltName alone.
unfoldable pub extensions_of : RequestParts → Text
extensions_of r = extensions_text (alt_name_of r ∷ [])

-- ---- the entry

-- The fields of the entry of a request, in this form, in the log with this id, under the hash
-- function h.
abbrev pub tbs_for : HashFunction → Form → Text → RequestParts → TbsParts
tbs_for h form id r = record {
  issuer = name_with (text_of id);
  validity = r.validity;
  validity_der = validity_element r.validity;
  subject = subject_of r.common_name;
  algorithm = algorithm_for form r.key;
  key_hash = h r.key;
  extensions = extensions_of r;
}

-- The entry: of type 1, with these fields.
unfoldable pub entry_for : HashFunction → Form → Text → RequestParts → Text
entry_for h form id r = tbs_text (tbs_for h form id r)
