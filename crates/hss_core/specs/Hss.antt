-- HSS, levels of LMS trees (RFC 8554, 6): the tree of each level signs the public key of the next
-- one, and the lowest signs the message.
use Rattle.std.specs.Prelude.{◌≡◌, ℕ, zero, suc, ◌+◌, ◌==◌, ◌&&◌, if◌then◌else◌, Bool, false}
use Rattle.std.specs.Prelude.{nat_le, not, ◌++◌, length, take, drop, Option, Some, None}
use Rattle.std.specs.Option.{option_map_or}
use Rattle.std.specs.Int.{w32, to_be_bytes}
use Rattle.byte_formats.specs.Types.{Text}
use Rattle.lmots_core.specs.declared.parameters.OtsType.{OtsType}
use Rattle.lmots_core.specs.Strings.{u32_at}
use Rattle.lms_core.specs.declared.heights.LmsType.{LmsType}
use Rattle.lms_core.specs.declared.private_key.PrivateKey.{PrivateKey}
use Rattle.lms_core.specs.declared.refusals.SigError.{SigError}
use Rattle.lms_core.specs.declared.refusals.SigError.TheVariants.{BadKey, BadLength, TypeDiffers}
use Rattle.lms_core.specs.Heights.{lms_signature_length}
use Rattle.lms_core.specs.Trees.{lms_public, lms_signature, private_key}
use Rattle.lms_core.specs.Refusals.{check_refusal, prefix_types, key_types}

-- ---- keys and signatures of one level (6.1, 6.2)

-- The public key: the number of levels, and the public key of the top tree.
unfoldable pub one_level_public : PrivateKey → Text
one_level_public k = to_be_bytes w32 1 ++ lms_public k

-- The signature of a message by one-time key q: the number of signed keys, which is none, and the
-- tree's signature.
unfoldable pub one_level_signature : PrivateKey → ℕ → Text → Text
one_level_signature k q message = to_be_bytes w32 0 ++ lms_signature k q message

-- ---- the grammar of public keys

abbrev pub with_levels : ℕ → Option (LmsType × OtsType) → Option (ℕ × LmsType × OtsType)
with_levels levels None = None
with_levels levels (Some (l, t)) = Some (levels, l, t)

-- The levels and the top types of a public key: 60 bytes, 1 to 8 levels, known typecodes.
unfoldable pub hss_key_types : Text → Option (ℕ × LmsType × OtsType)
hss_key_types key =
    if (length key == 60) && nat_le 1 (u32_at key 0) && nat_le (u32_at key 0) 8
    then with_levels (u32_at key 0) (key_types (drop 4 key)) else None

-- ---- the parts of a signature

abbrev pub length_of : Option (LmsType × OtsType) → Option ℕ
length_of None = None
length_of (Some (l, t)) = Some (lms_signature_length l t)

-- The bytes of the LMS signature that the bytes begin with, where they begin with one.
abbrev pub prefix_length : Text → Option ℕ
prefix_length s = length_of (prefix_types s)

-- The public key after a signature of n bytes, and what follows that key.
abbrev pub next_public_key : ℕ → Text → Text
next_public_key n s = take 56 (drop n s)

abbrev pub after_next_key : ℕ → Text → Text
after_next_key n s = drop (n + 56) s

-- The bytes are so many pairs of a signature and a public key, and one last signature.
unfoldable pub parts_fit : ℕ → Text → Bool
parts_fit zero s = option_map_or (λ n. n == length s) (prefix_length s) false
parts_fit (suc pairs) s =
    option_map_or (λ n. nat_le (n + 56) (length s) && parts_fit pairs (after_next_key n s))
    (prefix_length s) false

-- ---- refusals (6.3)

abbrev pub first_refusal : Option SigError → Option SigError → Option SigError
first_refusal None second = second
first_refusal (Some refusal) second = Some refusal

-- From the top down: so many signed keys, each by the key above it, and then the message.
unfoldable pub levels_refusal : ℕ → Text → Text → Text → Option SigError
levels_refusal zero key message s = check_refusal key message s
levels_refusal (suc pairs) key message s =
    option_map_or (λ n. first_refusal (check_refusal key (next_public_key n s) (take n s))
    (levels_refusal pairs (next_public_key n s) message (after_next_key n s)))
    (prefix_length s) (Some BadLength)

-- The refusal under a key with these levels and top types.
abbrev pub refusal_of_types : Option (ℕ × LmsType × OtsType) → Text → Text → Text → Option SigError
refusal_of_types None key message s = Some BadKey
refusal_of_types (Some (levels, l, t)) key message s =
    if not (nat_le 4 (length s) && parts_fit (u32_at s 0) (drop 4 s)) then Some BadLength
    else (if not (u32_at s 0 + 1 == levels) then Some TypeDiffers
    else levels_refusal (u32_at s 0) (drop 4 key) message (drop 4 s))

-- What a public key, a message and a signature are answered: the first refusal that holds, if any.
unfoldable pub hss_refusal : Text → Text → Text → Option SigError
hss_refusal key message s = refusal_of_types (hss_key_types key) key message s

-- The signature verifies: forms and types fit, and each level leads to its key's root.
abbrev pub Verifies : Text → Text → Text → Type 0
Verifies key message s = hss_refusal key message s ≡ None

-- ---- the laws

-- What a key of one level signs verifies under its public key.
abbrev pub OneLevelSignatureVerifies : LmsType → OtsType → Text → ℕ → Text → Type 0
OneLevelSignatureVerifies l t secret q message =
    let k = private_key l t secret in
    Verifies (one_level_public k) message (one_level_signature k q message)

-- The public key of so many levels below the top one, whose tree has this public key, and a
-- signature with so many signed keys.
abbrev pub levels_public : ℕ → Text → Text
levels_public below public = to_be_bytes w32 (below + 1) ++ public

abbrev pub levels_signature : ℕ → Text → Text
levels_signature pairs parts = to_be_bytes w32 pairs ++ parts

-- A key that a tree signs, and what verifies under that key, verify together under the tree's key:
-- with one level more, and the tree's signature and the signed key before the rest.
abbrev pub SignedKeyVerifies : PrivateKey → ℕ → ℕ → Text → Text → Text → Type 0
SignedKeyVerifies k q below public message parts =
    Verifies (levels_public below public) message (levels_signature below parts)
    → Verifies (levels_public (below + 1) (lms_public k)) message
    (levels_signature (below + 1) (lms_signature k q public ++ public ++ parts))
