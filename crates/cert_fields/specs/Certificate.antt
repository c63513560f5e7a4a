-- A certificate (RFC 5280, section 4.1): its fields, one after the other, with the first fault from
-- the left.
use Rattle.std.specs.Prelude.{ℕ, nat_lt, ◌==◌, ◌||◌, Bool, Result}
use Rattle.std.specs.Str.{bytes_eq}
use Rattle.byte_formats.specs.Types.{Text}
use Rattle.byte_formats.specs.Offsets.{begins_with}
use Rattle.byte_formats.specs.Readings.{both_at, mapped_at, tested_at, headed_at, refused_at}
use Rattle.byte_formats.specs.Readings.{Reading}
use Rattle.der_core.specs.Fields.{inside_at, element_with_at, unsigned_at, all_of}
use Rattle.der_core.specs.declared.fault.CertError.{CertError}
use Rattle.der_core.specs.declared.fault.CertError.TheVariants.{BadVersion, BadSerial}
use Rattle.der_core.specs.declared.fault.CertError.TheVariants.{AlgorithmsDiffer, UniqueId}
use Rattle.cert_time.specs.Calendar.{Period}
use Rattle.cert_fields.specs.Keys.{algorithm_at, spki_at, signature_at}
use Rattle.cert_fields.specs.Names.{name_at}
use Rattle.cert_fields.specs.Times.{validity_at}
use Rattle.cert_fields.specs.Extensions.{extensions_at}

-- The parts of a certificate. Each list of bytes but the proof is a whole element; the extensions
-- are absent where their list is empty. The proof is the bytes of the signature.
pub record Parts : Type 0 where
  pub serial : ℕ
  pub algorithm : Text
  pub issuer : Text
  pub validity : Period
  pub validity_der : Text
  pub subject : Text
  pub spki : Text
  pub extensions : Text
  pub proof : Text

abbrev pub nothing : ℕ → Unit {0}
nothing n = tt

-- Version: 2 is version 3 (4.1.2.1). It isn't the default, so it is written.
unfoldable pub version_at : Reading (Unit {0}) CertError
version_at =
    mapped_at nothing (headed_at 0xA0 BadVersion
    (inside_at 0xA0 (tested_at (λ n. n == 2) BadVersion (unsigned_at BadVersion))))

-- The serial number (4.1.2.2): from 1 to 2 ^ 64 - 1.
unfoldable pub serial_at : Reading ℕ CertError
serial_at = tested_at (λ n. nat_lt 0 n) BadSerial (unsigned_at BadSerial)

-- A unique identifier of the issuer or the subject (4.1.2.8), in the primitive or the constructed
-- form.
abbrev pub is_unique_id : Text → Bool
is_unique_id rest =
    begins_with 0x81 rest || begins_with 0x82 rest
    || begins_with 0xA1 rest || begins_with 0xA2 rest

-- The fields after the serial number: algorithm, issuer, validity, subject, public key, extensions.
abbrev pub Body : Type 0
Body = Text × (Text × ((Text × Period) × (Text × (Text × Text))))

unfoldable pub after_serial_at : Reading Body CertError
after_serial_at =
    both_at algorithm_at (both_at name_at (both_at validity_at (both_at name_at
    (both_at spki_at (refused_at is_unique_id UniqueId extensions_at)))))

-- TBSCertificate: what is signed.
unfoldable pub tbs_at : Reading (Unit {0} × (ℕ × Body)) CertError
tbs_at = inside_at 0x30 (both_at version_at (both_at serial_at after_serial_at))

-- The algorithm in what is signed is the one beside it.
abbrev pub same_algorithm : (Unit {0} × (ℕ × Body)) × Text → Bool
same_algorithm x = bytes_eq x.0.1.1.0 x.1

-- What is signed, and the algorithm beside it, which is the same (4.1.1.2).
unfoldable pub signed_at : Reading ((Unit {0} × (ℕ × Body)) × Text) CertError
signed_at = tested_at same_algorithm AlgorithmsDiffer (both_at tbs_at (element_with_at 0x30))

-- The parts of what was read.
abbrev pub to_parts : ((Unit {0} × (ℕ × Body)) × Text) × Text → Parts
to_parts x =
    let b : Body = x.0.0.1.1 in
    record {
      serial = x.0.0.1.0;
      algorithm = x.0.1;
      issuer = b.1.0;
      validity = b.1.1.0.1;
      validity_der = b.1.1.0.0;
      subject = b.1.1.1.0;
      spki = b.1.1.1.1.0;
      extensions = b.1.1.1.1.1;
      proof = x.1;
    }

-- Certificate: what is signed, the algorithm, the signature.
unfoldable pub certificate_at : Reading Parts CertError
certificate_at = mapped_at to_parts (inside_at 0x30 (both_at signed_at signature_at))

-- The parts of the certificate that these bytes are, or the first fault from the left, an outer
-- element before its parts.
unfoldable pub parts_of : Text → Result Parts CertError
parts_of = all_of certificate_at
