-- The requests to a cosigner: how their parts are encoded, in the presentation language of RFC 8446
-- (sections 3.3 and 3.4).
use Rattle.std.specs.Prelude.{◌≡◌, ℕ, ◌^◌, ◌<◌, List, ◌++◌, length}
use Rattle.byte_formats.specs.Types.{Hash, Text}
use Rattle.std.specs.Int.{w8, w64}
use Rattle.tls_wire.specs.Encoding.{AreHashes, hashes, number, vector}

-- To hold the root of a larger log: the log's id, its size and root, and the consistency proof of
-- what is held.
pub record AdvanceParts : Type 0 where
  pub log : Text
  pub size : ℕ
  pub root : Hash
  pub proof : List Hash

-- The id after a length of one byte, the size in eight bytes, the root in 32, and the hashes in a
-- vector.
abbrev pub advance_text : AdvanceParts → Text
advance_text r = vector w8 r.log ++ (number w64 r.size ++ (r.root ++ hashes r.proof))

-- What has such an encoding.
pub record IsAdvance (r : AdvanceParts) : Type 0 where
  pub some : 0 < length r.log
  pub log : length r.log < 2 ^ 8
  pub size : r.size < 2 ^ 64
  pub root : length r.root ≡ 32
  pub proof : AreHashes r.proof

-- To sign a subtree of what is held: the log's id, the interval, the hash of the subtree, and its
-- consistency proof.
pub record SubtreeParts : Type 0 where
  pub log : Text
  pub start : ℕ
  pub end : ℕ
  pub hash : Hash
  pub proof : List Hash

-- The id after a length of one byte, start and end in eight bytes each, the hash in 32, and the
-- hashes in a vector.
abbrev pub subtree_text : SubtreeParts → Text
subtree_text r =
    vector w8 r.log ++ (number w64 r.start ++ (number w64 r.end ++ (r.hash ++ hashes r.proof)))

-- What has such an encoding.
pub record IsSubtreeRequest (r : SubtreeParts) : Type 0 where
  pub some : 0 < length r.log
  pub log : length r.log < 2 ^ 8
  pub start : r.start < 2 ^ 64
  pub end : r.end < 2 ^ 64
  pub hash : length r.hash ≡ 32
  pub proof : AreHashes r.proof
