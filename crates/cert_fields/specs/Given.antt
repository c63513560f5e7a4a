-- What is written: the parts that the caller gives, with the algorithm of Merkle tree proofs.
use Rattle.std.specs.Prelude.{ℕ, ◌+◌, [], ◌∷◌, length}
use Rattle.byte_formats.specs.Types.{Text}
use Rattle.cert_time.specs.Times.{validity_element}
use Rattle.cert_time.specs.Periods.{period}
use Rattle.cert_fields.specs.Certificate.{Parts}
use Rattle.cert_fields.specs.declared.parts.CertParts.{CertParts}

-- The AlgorithmIdentifier of Merkle tree proofs: the object identifier 1.3.6.1.4.1.44363.47.0,
-- without parameters.
abbrev pub mtc_proof : Text
mtc_proof =
    0x30 ∷ 0x0C ∷ 0x06 ∷ 0x0A ∷ 0x2B ∷ 0x06 ∷ 0x01 ∷ 0x04 ∷ 0x01 ∷ 0x82 ∷ 0xDA ∷ 0x4B ∷ 0x2F ∷ 0x00
    ∷ []

-- The parts of the certificate that is written, of those that the caller gives.
abbrev pub given : CertParts → Parts
given p = record {
  serial = p.serial;
  algorithm = mtc_proof;
  issuer = p.issuer;
  validity = period p.validity;
  validity_der = validity_element (period p.validity);
  subject = p.subject;
  spki = p.spki;
  extensions = p.extensions;
  proof = p.proof;
}

-- The bytes of all parts together.
abbrev pub size_of : CertParts → ℕ
size_of p =
    length p.issuer + length p.subject + length p.spki + length p.extensions + length p.proof
