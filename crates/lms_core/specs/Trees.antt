-- LMS, trees of one-time keys (RFC 8554, section 5; of private keys 5.2), with SHA-256. The nodes
-- are numbered from the root, which is 1; below node r are 2 * r and 2 * r + 1, and leaf q is node
-- 2^h + q.
use Rattle.std.specs.Prelude.{ℕ, zero, suc, ◌+◌, ◌-◌, ◌*◌, ◌/◌, ◌%◌, ◌^◌, ◌==◌, if◌then◌else◌, []}
use Rattle.std.specs.Prelude.{◌∷◌, ◌++◌, take}
use Rattle.std.specs.Int.{w32, to_be_bytes}
use Rattle.byte_formats.specs.Types.{Hash, Text}
use Rattle.sha2.specs.Sha256.{sha256}
use Rattle.lmots_core.specs.declared.parameters.OtsType.{OtsType}
use Rattle.lmots_core.specs.Parameters.{typecode}
use Rattle.lmots_core.specs.Strings.{value_at, concatenated}
use Rattle.lmots_core.specs.Ots.{public_key, signature}
use Rattle.lms_core.specs.declared.heights.LmsType.{LmsType}
use Rattle.lms_core.specs.declared.private_key.PrivateKey.{PrivateKey}
use Rattle.lms_core.specs.Heights.{height, lms_code}

-- The private key of a secret of 48 bytes: the identifier I and the seed.
abbrev pub private_key : LmsType → OtsType → Text → PrivateKey
private_key l t secret = record { lms = l; ots = t; id = take 16 secret; seed = value_at secret 16 }

-- ---- nodes (5.3)

-- The leaf at node r, over the one-time public key there.
unfoldable pub leaf_node : Text → ℕ → Hash → Hash
leaf_node id r key = sha256 (id ++ to_be_bytes w32 r ++ 0x82 ∷ 0x82 ∷ [] ++ key)

-- The inner node r, over the two nodes below it.
unfoldable pub inner_node : Text → ℕ → Hash → Hash → Hash
inner_node id r left right = sha256 (id ++ to_be_bytes w32 r ++ 0x83 ∷ 0x83 ∷ [] ++ left ++ right)

-- T[r], the value of node r, which stands so many levels above the leaves.
unfoldable pub tree_value : PrivateKey → ℕ → ℕ → Hash
tree_value k zero r = leaf_node k.id r (public_key k.ots k.id (r - 2 ^ height k.lms) k.seed)
tree_value k (suc d) r = inner_node k.id r (tree_value k d (2 * r)) (tree_value k d (2 * r + 1))

-- The public key: both types, I and the root.
unfoldable pub lms_public : PrivateKey → Text
lms_public k =
    to_be_bytes w32 (lms_code k.lms) ++ to_be_bytes w32 (typecode k.ots) ++ k.id
    ++ tree_value k (height k.lms) 1

-- ---- signatures (5.4)

-- The other node below the same parent.
abbrev pub sibling : ℕ → ℕ
sibling r = if r % 2 == 0 then r + 1 else r - 1

-- path[i] of leaf q: what stands beside the way up, i levels above the leaves.
abbrev pub path_node : PrivateKey → ℕ → ℕ → Hash
path_node k q i = tree_value k i (sibling ((2 ^ height k.lms + q) / 2 ^ i))

-- The signature of a message by one-time key q of the tree.
unfoldable pub lms_signature : PrivateKey → ℕ → Text → Text
lms_signature k q message =
    to_be_bytes w32 q ++ signature k.ots k.id q k.seed message ++ to_be_bytes w32 (lms_code k.lms)
    ++ concatenated (path_node k q) (height k.lms)

-- ---- the root that a leaf and its path lead to (5.4.2, algorithm 6a)

-- The parent of node r, from its value and its sibling's.
abbrev pub parent : Text → ℕ → Hash → Hash → Hash
parent id r value beside =
    if r % 2 == 0 then inner_node id (r / 2) value beside else inner_node id (r / 2) beside value

-- The node i levels above node r, from the value x of node r and the path.
unfoldable pub climbed : Text → ℕ → Text → Hash → ℕ → Hash
climbed id r path x zero = x
climbed id r path x (suc i) = parent id (r / 2 ^ i) (climbed id r path x i) (value_at path (32 * i))
