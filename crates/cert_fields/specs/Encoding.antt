-- How the parts of a certificate are encoded, one after the other (RFC 5280, section 4.1).
use Rattle.std.specs.Prelude.{[], ◌∷◌, ◌++◌}
use Rattle.byte_formats.specs.Types.{Text}
use Rattle.der_core.specs.Elements.{element}
use Rattle.der_core.specs.Integers.{integer}
use Rattle.cert_fields.specs.Certificate.{Parts}

-- Version 3, as an INTEGER of 2 in its tag.
abbrev pub version : Text
version = 0xA0 ∷ 0x03 ∷ 0x02 ∷ 0x01 ∷ 0x02 ∷ []

-- The fields that are signed.
abbrev pub tbs_fields : Parts → Text
tbs_fields p =
    version ++ (element 0x02 (integer p.serial) ++ (p.algorithm ++ (p.issuer
    ++ (p.validity_der ++ (p.subject ++ (p.spki ++ p.extensions))))))

-- What is signed, the algorithm again, and the signature as a BIT STRING without unused bits.
abbrev pub certificate_fields : Parts → Text
certificate_fields p = (element 0x30 (tbs_fields p) ++ p.algorithm) ++ element 0x03 (0 ∷ p.proof)

unfoldable pub certificate : Parts → Text
certificate p = element 0x30 (certificate_fields p)
