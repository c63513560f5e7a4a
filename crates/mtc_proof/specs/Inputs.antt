-- What a cosigner signs (the draft on Merkle Tree Certificates, where it defines
-- MTCSubtreeSignatureInput), in the presentation language of TLS (RFC 8446, section 3).
use Rattle.std.specs.Prelude.{◌≡◌, ℕ, ◌^◌, ◌<◌, [], ◌∷◌, ◌++◌, length}
use Rattle.std.specs.Int.{w8, w64}
use Rattle.byte_formats.specs.Types.{Hash, Text}
use Rattle.tls_wire.specs.Encoding.{number, vector}

-- The subtree of a log, its hash, and the cosigner that signs it.
pub record InputParts : Type 0 where
  pub cosigner : Text
  pub log : Text
  pub start : ℕ
  pub end : ℕ
  pub hash : Hash

-- "mtc-subtree/v1", a line feed and a zero byte: what is signed for another purpose begins
-- otherwise.
abbrev pub input_label : Text
input_label =
    0x6D ∷ 0x74 ∷ 0x63 ∷ 0x2D ∷ 0x73 ∷ 0x75 ∷ 0x62 ∷ 0x74 ∷ 0x72 ∷ 0x65 ∷ 0x65 ∷ 0x2F ∷ 0x76 ∷ 0x31
    ∷ 0x0A ∷ 0x00 ∷ []

-- The label, the ids of the cosigner and of the log, each after its length of one byte, start and
-- end in eight bytes each, and the hash.
unfoldable pub input_text : InputParts → Text
input_text p =
    input_label ++ (vector w8 p.cosigner ++ (vector w8 p.log
    ++ (number w64 p.start ++ (number w64 p.end ++ p.hash))))

-- What the cosigner signs of the log's subtree [start, end), where it has this hash.
abbrev pub signed_text : Text → Text → ℕ → ℕ → Hash → Text
signed_text cosigner log start end hash =
    input_text
    (record { cosigner = cosigner; log = log; start = start; end = end; hash = hash })

-- What has such an encoding: ids whose lengths fit one byte, numbers that fit eight, a hash of 32
-- bytes.
pub record IsInput (p : InputParts) : Type 0 where
  pub cosigner : length p.cosigner < 2 ^ 8
  pub log : length p.log < 2 ^ 8
  pub start : p.start < 2 ^ 64
  pub end : p.end < 2 ^ 64
  pub hash : length p.hash ≡ 32
