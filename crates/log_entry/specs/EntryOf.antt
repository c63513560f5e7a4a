-- The entry from which a certificate was made.
use Rattle.std.specs.Prelude.{◌≡◌, IfSome}
use Rattle.byte_formats.specs.Types.{Text, Hash, HashFunction}
use Rattle.cert_fields.specs.Certificate.{Parts}
use Rattle.cert_fields.specs.Keys.{key_algorithm}
use Rattle.log_entry.specs.Entries.{TbsParts, tbs_text}
use Rattle.log_entry.specs.Forms.{algorithm_for}
use Rattle.log_entry.specs.declared.entry.Form.{Form}

-- The fields of a certificate's entry in this form, with this hash instead of its key.
abbrev pub tbs_with : Parts → Form → Hash → TbsParts
tbs_with p form key_hash = record {
  issuer = p.issuer;
  validity = p.validity;
  validity_der = p.validity_der;
  subject = p.subject;
  algorithm = algorithm_for form p.spki;
  key_hash = key_hash;
  extensions = p.extensions;
}

-- The entry of a certificate in this form, under the hash function h: 00 01, then version, issuer,
-- validity and subject as in the certificate, then for form two the AlgorithmIdentifier with which
-- the subjectPublicKeyInfo begins, then 04 20 and the hash of the subjectPublicKeyInfo, then the
-- extensions where there are some.
unfoldable pub entry_of : HashFunction → Form → Parts → Text
entry_of h form p = tbs_text (tbs_with p form (h p.spki))

-- A certificate is made of these fields of an entry: it has them, and a key whose hash is theirs,
-- and whose algorithm is theirs if they have one.
pub record IsMadeOf (h : HashFunction) (t : TbsParts) (p : Parts) : Type 0 where
  pub issuer : p.issuer ≡ t.issuer
  pub validity : p.validity ≡ t.validity
  pub subject : p.subject ≡ t.subject
  pub algorithm : IfSome t.algorithm (λ algorithm. algorithm ≡ key_algorithm p.spki)
  pub key : h p.spki ≡ t.key_hash
  pub extensions : p.extensions ≡ t.extensions
