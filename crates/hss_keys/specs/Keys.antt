-- Keys of one level or of two that sign (RFC 8554, 6). With two levels each one-time key of the
-- upper tree signs the public key of one lower tree, whose one-time keys sign messages. The lower
-- trees have a height of their own and the width of the upper one.
use Rattle.std.specs.Prelude.{◌≡◌, ℕ, ◌+◌, ◌-◌, ◌*◌, ◌/◌, ◌%◌, ◌^◌, ◌<◌, ◌≤◌, ◌++◌, length}
use Rattle.std.specs.Prelude.{take, Option, Some, None, IfSome}
use Rattle.std.specs.Int.{w32, to_be_bytes}
use Rattle.byte_formats.specs.Types.{Text}
use Rattle.lmots_core.specs.Ots.{secret_start}
use Rattle.lmots_core.specs.declared.parameters.OtsType.{OtsType}
use Rattle.lms_core.specs.Heights.{IsSigningHeight, height, lms_signature_length}
use Rattle.lms_core.specs.Trees.{lms_public, lms_signature, private_key}
use Rattle.lms_core.specs.declared.heights.LmsType.{LmsType}
use Rattle.lms_core.specs.declared.private_key.PrivateKey.{PrivateKey}
use Rattle.hss_core.specs.Hss.{Verifies, levels_public, one_level_public, one_level_signature}

-- The private key of the top tree and, of a key of two levels, the height of the lower trees.
pub record SigningKey : Type 0 where
  pub top : PrivateKey
  pub low : Option LmsType

-- ---- lower trees

-- The secret of lower tree c, of 48 bytes. It is derived as the starts of the chains of upper
-- one-time key c are (appendix A), with numbers that no chain and no randomizer has.
unfoldable pub lower_secret : Text → ℕ → Text → Text
lower_secret id c seed = take 16 (secret_start id c seed 65534) ++ secret_start id c seed 65535

-- The private key of lower tree c.
abbrev pub lower_key : PrivateKey → LmsType → ℕ → PrivateKey
lower_key top low c = private_key low top.ots (lower_secret top.id c top.seed)

-- how many lower trees there may be: as many as the upper tree has one-time keys
abbrev pub most_children : LmsType → Option LmsType → ℕ
most_children top None = 0
most_children top (Some low) = 2 ^ height top

-- how many one-time keys sign messages, if so many lower trees are made
abbrev pub keys_there : LmsType → Option LmsType → ℕ → ℕ
keys_there top None children = 2 ^ height top
keys_there top (Some low) children = children * 2 ^ height low

-- how many of these are of lower trees before the newest
abbrev pub keys_before : Option LmsType → ℕ → ℕ
keys_before None children = 0
keys_before (Some low) children = (children - 1) * 2 ^ height low

-- ---- public keys and signatures (6.1, 6.2)

abbrev pub public_with : PrivateKey → Option LmsType → Text
public_with top None = one_level_public top
public_with top (Some low) = levels_public 1 (lms_public top)

-- The public key: the number of levels, and that of the top tree.
abbrev pub public_of : SigningKey → Text
public_of k = public_with k.top k.low

-- The number of signed keys, which is one; the upper tree's signature of the public key of the
-- lower tree by one-time key c, and that public key; the lower tree's signature of the message by
-- one-time key r.
unfoldable pub two_level_signature : PrivateKey → PrivateKey → ℕ → ℕ → Text → Text
two_level_signature top lower c r message =
    to_be_bytes w32 1 ++ lms_signature top c (lms_public lower) ++ lms_public lower
    ++ lms_signature lower r message

abbrev pub signature_with : PrivateKey → Option LmsType → ℕ → Text → Text
signature_with top None q message = one_level_signature top q message
signature_with top (Some low) q message =
    let c = q / 2 ^ height low in
    two_level_signature top (lower_key top low c) c (q % 2 ^ height low) message

-- The signature of a message by one-time key q. With two levels the lower trees have the one-time
-- keys one after the other.
abbrev pub key_signature : SigningKey → ℕ → Text → Text
key_signature k q message = signature_with k.top k.low q message

-- how long the signatures are
abbrev pub signature_length_with : PrivateKey → Option LmsType → ℕ
signature_length_with top None = 4 + lms_signature_length top.lms top.ots
signature_length_with top (Some low) =
    4 + lms_signature_length top.lms top.ots + 56 + lms_signature_length low top.ots

-- ---- keys that count

-- A key, how many lower trees it has, and the number of the one-time key that signs next.
pub record SigningState : Type 0 where
  pub key : SigningKey
  pub children : ℕ
  pub next : ℕ

-- The key of a secret.
abbrev pub signing_key : LmsType → Option LmsType → OtsType → Text → SigningKey
signing_key lms low ots secret = record { top = private_key lms ots secret; low = low }

-- The same with these counts.
abbrev pub signing_state : LmsType → Option LmsType → OtsType → Text → ℕ → ℕ → SigningState
signing_state lms low ots secret children next =
    record { key = signing_key lms low ots secret; children = children; next = next }

-- The trees can be made, and there are no more lower ones than upper one-time keys. All one-time
-- keys before the newest lower tree have signed, and no more than there are.
pub record CountsKeys (s : SigningState) : Type 0 where
  pub top : IsSigningHeight s.key.top.lms
  pub low : IfSome s.key.low IsSigningHeight
  pub few : s.children ≤ most_children s.key.top.lms s.key.low
  pub from : keys_before s.key.low s.children ≤ s.next
  pub to : s.next ≤ keys_there s.key.top.lms s.key.low s.children

-- ---- the laws

-- What a key signs, with any one-time key that it may have, verifies under its public key.
abbrev pub KeySignatureVerifies : SigningKey → ℕ → Text → Type 0
KeySignatureVerifies k q message = length k.top.id ≡ 16
    → q < keys_there k.top.lms k.low (most_children k.top.lms k.low)
    → Verifies (public_of k) message (key_signature k q message)

-- What a signature of two levels has of the upper tree: the number of signed keys, the signature of
-- the lower tree's public key, and that key.
abbrev pub upper_part : PrivateKey → Text → Text
upper_part top signature = take (4 + lms_signature_length top.lms top.ots + 56) signature

-- Two signatures by one-time keys of one lower tree have the same of the upper tree, so that upper
-- one-time key c signs nothing but the public key of lower tree c.
abbrev pub UpperKeysSignOnce : PrivateKey → LmsType → ℕ → ℕ → Text → Text → Type 0
UpperKeysSignOnce top low q p message other = q / 2 ^ height low ≡ p / 2 ^ height low
    → upper_part top (signature_with top (Some low) q message)
    ≡ upper_part top (signature_with top (Some low) p other)
