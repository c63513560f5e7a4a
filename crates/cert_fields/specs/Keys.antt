-- Algorithms, public keys and the signature's bits (RFC 5280, sections 4.1.1.2, 4.1.1.3 and
-- 4.1.2.7).
use Rattle.std.specs.Prelude.{ℕ, ◌==◌, Bool, [], Result, Ok, Err, if◌then◌else◌}
use Rattle.byte_formats.specs.Types.{Text}
use Rattle.byte_formats.specs.Readings.{◌>>=◌, both_at, last_at, is_read, Reading}
use Rattle.der_core.specs.Contents.{oid_of, bits_of}
use Rattle.der_core.specs.Fields.{inside_at, whole_at, decoded_at, any_at, all_of}
use Rattle.der_core.specs.declared.fault.DerError.{DerError}
use Rattle.der_core.specs.declared.fault.DerError.TheVariants.{BadBits}
use Rattle.der_core.specs.declared.fault.CertError.{CertError}

-- AlgorithmIdentifier: an object identifier and at most one element.
unfoldable pub algorithm_at : Reading Text CertError
algorithm_at = whole_at 0x30 (both_at (decoded_at 0x06 oid_of) (last_at any_at))

-- SubjectPublicKeyInfo: an algorithm and a BIT STRING.
unfoldable pub spki_at : Reading Text CertError
spki_at = whole_at 0x30 (both_at algorithm_at (decoded_at 0x03 bits_of))

-- Its algorithm and its bits: how many of them are unused, and the bytes.
unfoldable pub key_parts_at : Reading (Text × (ℕ × Text)) CertError
key_parts_at = inside_at 0x30 (both_at algorithm_at (decoded_at 0x03 bits_of))

abbrev pub first_part : Result (Text × (ℕ × Text)) CertError → Text
first_part (Ok parts) = parts.0
first_part (Err e) = []

-- The algorithm of a SubjectPublicKeyInfo, its first part. No bytes where these are none.
unfoldable pub key_algorithm : Text → Text
key_algorithm bytes = first_part (all_of key_parts_at bytes)

-- The bytes are one SubjectPublicKeyInfo and nothing else.
unfoldable pub is_public_key : Text → Bool
is_public_key bytes = is_read (all_of spki_at bytes)

-- A BIT STRING of whole bytes: no bit of it is unused.
unfoldable pub whole_bits_of : ℕ → Text → Result Text DerError
whole_bits_of place contents =
    bits_of place contents >>= λ b. if b.0 == 0 then Ok b.1 else Err (BadBits place)

-- The signature: the bytes of a BIT STRING.
unfoldable pub signature_at : Reading Text CertError
signature_at = decoded_at 0x03 whole_bits_of
