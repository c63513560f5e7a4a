-- What an LMS public key, a message and a signature are answered (RFC 8554, 5.4.2): nothing where
-- the signature verifies, and otherwise the first refusal that holds.
use Rattle.std.specs.Prelude.{◌≡◌, ℕ, ◌+◌, ◌^◌, ◌==◌, ◌&&◌, if◌then◌else◌, Bool, false, nat_lt, not}
use Rattle.std.specs.Prelude.{length, take, drop, Option, Some, None, Result, Ok, Err}
use Rattle.std.specs.Str.{bytes_eq}
use Rattle.byte_formats.specs.Types.{Hash, Text}
use Rattle.lmots_core.specs.declared.parameters.OtsType.{OtsType}
use Rattle.lmots_core.specs.Parameters.{signature_length, typecode, type_of_code}
use Rattle.lmots_core.specs.Strings.{value_at, u32_at}
use Rattle.lmots_core.specs.Ots.{candidate_key}
use Rattle.lms_core.specs.declared.heights.LmsType.{LmsType}
use Rattle.lms_core.specs.declared.refusals.SigError.{SigError}
use Rattle.lms_core.specs.declared.refusals.SigError.TheVariants.{BadKey, BadLength, TypeDiffers}
use Rattle.lms_core.specs.declared.refusals.SigError.TheVariants.{BadIndex, WrongRoot}
use Rattle.lms_core.specs.Heights.{height, lms_code, lms_type_of_code, lms_signature_length}
use Rattle.lms_core.specs.Trees.{climbed, leaf_node, lms_public, lms_signature, private_key}

-- ---- keys (5.3)

abbrev pub types_of : Option LmsType → Option OtsType → Option (LmsType × OtsType)
types_of None t = None
types_of (Some l) None = None
types_of (Some l) (Some t) = Some (l, t)

-- The types of a public key: 56 bytes that begin with two known typecodes.
abbrev pub key_types : Text → Option (LmsType × OtsType)
key_types key =
    if length key == 56
    then types_of (lms_type_of_code (u32_at key 0)) (type_of_code (u32_at key 4))
    else None

-- ---- signatures

abbrev pub prefix_after : OtsType → Option LmsType → Text → Option (LmsType × OtsType)
prefix_after t None s = None
prefix_after t (Some l) s =
    if nat_lt (length s) (lms_signature_length l t) then None else Some (l, t)

-- The types, where the whole signature is there: that of the one-time key, and then that of the
-- tree.
abbrev pub prefix_with : Option OtsType → Text → Option (LmsType × OtsType)
prefix_with None s = None
prefix_with (Some t) s =
    if nat_lt (length s) (8 + signature_length t) then None
    else prefix_after t (lms_type_of_code (u32_at s (4 + signature_length t))) s

-- The types of the signature that the bytes begin with: the one-time typecode stands at offset 4,
-- that of the tree after the one-time signature. None where the bytes begin with no whole
-- signature.
unfoldable pub prefix_types : Text → Option (LmsType × OtsType)
prefix_types s = if nat_lt (length s) 8 then None else prefix_with (type_of_code (u32_at s 4)) s

-- The root that a signature leads to from the candidate key of its leaf.
abbrev pub root_of_key : LmsType → OtsType → Text → Text → Hash → Hash
root_of_key l t id s key =
    let r = 2 ^ height l + u32_at s 0 in
    climbed id r (drop (8 + signature_length t) s) (leaf_node id r key) (height l)

-- There is a candidate key, and this is the root to which it leads.
abbrev pub is_root : LmsType → OtsType → Text → Text → Hash → Option Hash → Bool
is_root l t id s root None = false
is_root l t id s root (Some key) = bytes_eq (root_of_key l t id s key) root

-- The root that a whole signature leads to is this one (algorithm 6a).
unfoldable pub yields_root : LmsType → OtsType → Text → Text → Text → Hash → Bool
yields_root l t id message s root =
    let once = take (signature_length t) (drop 4 s) in
    is_root l t id s root (candidate_key id (u32_at s 0) message once)

-- ---- refusals

-- For a whole signature with these types, under a key of 56 bytes, which need not be in its
-- grammar.
unfoldable pub level_refusal : Text → Text → LmsType → OtsType → Text → Option SigError
level_refusal key message l t s =
    if not ((lms_code l == u32_at key 0) && (typecode t == u32_at key 4)) then Some TypeDiffers
    else (if not (nat_lt (u32_at s 0) (2 ^ height l)) then Some BadIndex
    else (if yields_root l t (take 16 (drop 8 key)) message s (value_at key 24) then None
    else Some WrongRoot))

-- The same with the types that the bytes begin with: they must be one whole signature.
abbrev pub refusal_with : Text → Text → Option (LmsType × OtsType) → Text → Option SigError
refusal_with key message None s = Some BadLength
refusal_with key message (Some (l, t)) s =
    if lms_signature_length l t == length s then level_refusal key message l t s else Some BadLength

-- The same of any bytes: they must be one whole signature.
unfoldable pub check_refusal : Text → Text → Text → Option SigError
check_refusal key message s = refusal_with key message (prefix_types s) s

abbrev pub refusal_under : Option (LmsType × OtsType) → Text → Text → Text → Option SigError
refusal_under None key message s = Some BadKey
refusal_under (Some types) key message s = check_refusal key message s

-- The same under any key: it must be in its grammar.
unfoldable pub lms_refusal : Text → Text → Text → Option SigError
lms_refusal key message s = refusal_under (key_types key) key message s

-- ---- the law: what a tree signs verifies under its public key
abbrev pub SignatureVerifies : LmsType → OtsType → Text → ℕ → Text → Type 0
SignatureVerifies l t secret q message =
    let k = private_key l t secret in
    lms_refusal (lms_public k) message (lms_signature k q message) ≡ None
