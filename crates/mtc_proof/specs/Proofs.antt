-- Proofs and their signatures: how their parts are encoded (the draft on Merkle Tree Certificates,
-- where it defines MTCProof and MTCSignature, in the presentation language of RFC 8446, section 3).
use Rattle.std.specs.Prelude.{◌≡◌, ℕ, ◌^◌, ◌<◌, List, ◌++◌, length}
use Rattle.byte_formats.specs.Types.{Hash, Text}
use Rattle.std.specs.List.{flat_map, AllByRecursion}
use Rattle.std.specs.Int.{w8, w16, w64}
use Rattle.tls_wire.specs.Encoding.{number, vector, hashes, AreHashes}

-- A signature: the id of the cosigner, and what it signed with.
pub record SigParts : Type 0 where
  pub cosigner : Text
  pub signature : Text

-- The id after a length of one byte, the signature after a length of two bytes.
abbrev pub signature_text : SigParts → Text
signature_text s = vector w8 s.cosigner ++ vector w16 s.signature

-- What has such an encoding: an id of 1 to 255 bytes, and a signature whose length fits two bytes.
pub record IsMtcSignature (s : SigParts) : Type 0 where
  pub some : 0 < length s.cosigner
  pub cosigner : length s.cosigner < 2 ^ 8
  pub signature : length s.signature < 2 ^ 16

-- The bytes are signatures, one after the other, or none.
pub record AreSignatures (bytes : Text) : Type 0 where
  pub list : List SigParts
  pub each : AllByRecursion IsMtcSignature list
  pub encoded : bytes ≡ flat_map signature_text list

-- The parts of a proof: the interval, the path, and the bytes of the signatures.
pub record ProofParts : Type 0 where
  pub start : ℕ
  pub end : ℕ
  pub path : List Hash
  pub signatures : Text

-- Two numbers of eight bytes, the hashes of the path in a vector, and the signatures in a vector.
abbrev pub proof_text : ProofParts → Text
proof_text p =
    number w64 p.start ++ (number w64 p.end ++ (hashes p.path ++ vector w16 p.signatures))

-- What has such an encoding: numbers that fit eight bytes, and a path and signatures that fit
-- vectors.
pub record IsProof (p : ProofParts) : Type 0 where
  pub start : p.start < 2 ^ 64
  pub end : p.end < 2 ^ 64
  pub path : AreHashes p.path
  pub short : length p.signatures < 2 ^ 16
  pub signatures : AreSignatures p.signatures
