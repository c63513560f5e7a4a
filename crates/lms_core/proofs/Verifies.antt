-- What a tree signs verifies under its public key.
use Rattle.std.proofs.Common.{◌≡◌, ℕ, ◌+◌, ◌-◌, ◌*◌, ◌^◌, ◌<◌, ◌≤◌, true, [], ◌++◌, length, take}
use Rattle.std.proofs.Common.{drop, Some, None, refl, sym, arith, append_assoc, append-nil}
use Rattle.std.proofs.Common.{length-append, eq-eqb, lt_trans, le_refl}
use Rattle.std.proofs.lemmas.List.{drop_at, length-take-le, take_all}
use Rattle.std.proofs.lemmas.Bool.{le-ltb, lt-ltb}
use Rattle.std.proofs.lemmas.Nat.{from_be_bytes-to_be_bytes_4}
use Rattle.std.proofs.lemmas.Slice.Eq.{bytes_eq-Decides}
use Rattle.std.specs.Int.{w32, to_be_bytes}
use Rattle.byte_formats.specs.Types.{Text}
use Rattle.lmots_core.specs.declared.parameters.OtsType.{OtsType}
use Rattle.lmots_core.specs.Parameters.{signature_length, typecode, type_of_code}
use Rattle.lmots_core.specs.Strings.{value_at, concatenated, u32_at}
use Rattle.lmots_core.specs.Ots.{candidate_key, public_key, signature}
use Rattle.lmots_core.proofs.Yields.{concatenated-part, length-concatenated, length-signature}
use Rattle.lmots_core.proofs.Yields.{signature_yields_key, type_of_code-typecode, typecode_small}
use Rattle.lms_core.specs.declared.heights.LmsType.{LmsType}
use Rattle.lms_core.specs.declared.heights.LmsType.TheVariants.{H5, H10, H15, H20, H25}
use Rattle.lms_core.specs.declared.private_key.PrivateKey.{PrivateKey}
use Rattle.lms_core.specs.Heights.{height, lms_code, lms_signature_length, lms_type_of_code}
use Rattle.lms_core.specs.Trees.{lms_public, lms_signature, path_node, private_key, tree_value}
use Rattle.lms_core.specs.Refusals.{check_refusal, prefix_types, key_types, level_refusal}
use Rattle.lms_core.specs.Refusals.{lms_refusal, root_of_key, types_of, yields_root}
use Rattle.lms_core.specs.Refusals.{SignatureVerifies}
use Rattle.lms_core.proofs.Climbs.{climbed-tree_value, top}
use Rattle.lms_core.proofs.Levels.{length-tree_value}
use Rattle.lms_core.proofs.Parts.{part, word_part}

pub lms_code_small : (l : LmsType) → lms_code l < 2 ^ 32
lms_code_small H5 = omega arith
lms_code_small H10 = omega arith
lms_code_small H15 = omega arith
lms_code_small H20 = omega arith
lms_code_small H25 = omega arith

pub leaves_small : (l : LmsType) → 2 ^ height l < 2 ^ 32
leaves_small H5 = omega arith
leaves_small H10 = omega arith
leaves_small H15 = omega arith
leaves_small H20 = omega arith
leaves_small H25 = omega arith

lms_type_of_code-lms_code : (l : LmsType) → lms_type_of_code (lms_code l) ≡ Some l
lms_type_of_code-lms_code H5 = refl
lms_type_of_code-lms_code H10 = refl
lms_type_of_code-lms_code H15 = refl
lms_type_of_code-lms_code H20 = refl
lms_type_of_code-lms_code H25 = refl

types_of-codes : (l : LmsType) (t : OtsType)
    → types_of (lms_type_of_code (lms_code l)) (type_of_code (typecode t)) ≡ Some (l, t)
types_of-codes l t = rw (lms_type_of_code-lms_code l, type_of_code-typecode t) refl

-- ---- the parts of a public key

pub length-lms_public : (k : PrivateKey) → length k.id ≡ 16 → length (lms_public k) ≡ 56
unfolding lms_public
length-lms_public k size =
    omega (
      arith,
      size,
      length-append (to_be_bytes w32 (lms_code k.lms) ++ to_be_bytes w32 (typecode k.ots) ++ k.id)
          (tree_value k (height k.lms) 1),
      length-append (to_be_bytes w32 (lms_code k.lms) ++ to_be_bytes w32 (typecode k.ots)) k.id,
      length-tree_value k (height k.lms) 1,
    )

pub lms_public-types : (k : PrivateKey)
    → (u32_at (lms_public k) 0 ≡ lms_code k.lms) × (u32_at (lms_public k) 4 ≡ typecode k.ots)
unfolding lms_public u32_at
lms_public-types k = (
  from_be_bytes-to_be_bytes_4 (lms_code k.lms) (lms_code_small k.lms),
  from_be_bytes-to_be_bytes_4 (typecode k.ots) (typecode_small k.ots),
)

pub lms_public-id : (k : PrivateKey) → length k.id ≡ 16 → take 16 (drop 8 (lms_public k)) ≡ k.id
unfolding lms_public
lms_public-id k size =
    part (to_be_bytes w32 (lms_code k.lms) ++ to_be_bytes w32 (typecode k.ots)) k.id
    (tree_value k (height k.lms) 1) 8 16 refl size

pub lms_public-root : (k : PrivateKey) → length k.id ≡ 16
    → value_at (lms_public k) 24 ≡ tree_value k (height k.lms) 1
unfolding lms_public
lms_public-root k size =
    let types = to_be_bytes w32 (lms_code k.lms) ++ to_be_bytes w32 (typecode k.ots) in
    let root = tree_value k (height k.lms) 1 in
    let prefix : length (types ++ k.id) ≡ 24 = omega (arith, length-append types k.id, size) in
    rw (drop_at (types ++ k.id) root 24 prefix)
    (take_all 32 root (omega (arith, length-tree_value k (height k.lms) 1)))

pub key_types-lms_public : (k : PrivateKey) → length k.id ≡ 16
    → key_types (lms_public k) ≡ Some (k.lms, k.ots)
key_types-lms_public k size =
    rw (
      length-lms_public k size,
      (lms_public-types k).0,
      (lms_public-types k).1,
    ) (types_of-codes k.lms k.ots)

-- ---- the parts of a signature

-- what precedes the path
abbrev before_path : PrivateKey → ℕ → Text → Text
before_path k q message =
    to_be_bytes w32 q ++ signature k.ots k.id q k.seed message ++ to_be_bytes w32 (lms_code k.lms)

length-before_path : (k : PrivateKey) (q : ℕ) (message : Text)
    → length (before_path k q message) ≡ 8 + signature_length k.ots
length-before_path k q message =
    let once = signature k.ots k.id q k.seed message in
    omega (
      arith,
      length-append (to_be_bytes w32 q ++ once) (to_be_bytes w32 (lms_code k.lms)),
      length-signature k.ots k.id q k.seed message,
    )

length-path_node : (k : PrivateKey) (q i : ℕ) → length (path_node k q i) ≡ 32
length-path_node k q i = length-tree_value k i _

pub length-lms_signature : (k : PrivateKey) (q : ℕ) (message : Text)
    → length (lms_signature k q message) ≡ lms_signature_length k.lms k.ots
unfolding lms_signature
length-lms_signature k q message =
    let path = concatenated (path_node k q) (height k.lms) in
    omega (
      arith,
      length-append (before_path k q message) path,
      length-before_path k q message,
      length-concatenated (path_node k q) (height k.lms) (length-path_node k q),
    )

lms_signature-index : (k : PrivateKey) (q : ℕ) (message : Text) → q < 2 ^ 32
    → u32_at (lms_signature k q message) 0 ≡ q
unfolding lms_signature u32_at
lms_signature-index k q message small = from_be_bytes-to_be_bytes_4 q small

lms_signature-ots : (k : PrivateKey) (q : ℕ) (message rest : Text)
    → u32_at (lms_signature k q message ++ rest) 4 ≡ typecode k.ots
unfolding lms_signature signature u32_at
lms_signature-ots k q message rest =
    from_be_bytes-to_be_bytes_4 (typecode k.ots) (typecode_small k.ots)

lms_signature-lms : (k : PrivateKey) (q : ℕ) (message rest : Text)
    → u32_at (lms_signature k q message ++ rest) (4 + signature_length k.ots) ≡ lms_code k.lms
unfolding lms_signature
lms_signature-lms k q message rest =
    let once = signature k.ots k.id q k.seed message in
    let prefix : length (to_be_bytes w32 q ++ once) ≡ 4 + signature_length k.ots =
    omega (
      arith,
      length-append (to_be_bytes w32 q) once,
      length-signature k.ots k.id q k.seed message,
    ) in
    let path = concatenated (path_node k q) (height k.lms) in
    rw append_assoc (word_part (to_be_bytes w32 q ++ once) (path ++ rest)
    (4 + signature_length k.ots) (lms_code k.lms)
    prefix (lms_code_small k.lms))

lms_signature-once : (k : PrivateKey) (q : ℕ) (message : Text)
    → take (signature_length k.ots) (drop 4 (lms_signature k q message))
    ≡ signature k.ots k.id q k.seed message
unfolding lms_signature
lms_signature-once k q message =
    let once = signature k.ots k.id q k.seed message in
    let code = to_be_bytes w32 (lms_code k.lms) in
    let path = concatenated (path_node k q) (height k.lms) in
    rw append_assoc (part (to_be_bytes w32 q) once (code ++ path) 4 (signature_length k.ots) refl
    (length-signature k.ots k.id q k.seed message))

lms_signature-path : (k : PrivateKey) (q : ℕ) (message : Text)
    → drop (8 + signature_length k.ots) (lms_signature k q message)
    ≡ concatenated (path_node k q) (height k.lms)
unfolding lms_signature
lms_signature-path k q message =
    drop_at (before_path k q message) (concatenated (path_node k q) (height k.lms))
    (8 + signature_length k.ots)
    (length-before_path k q message)

-- bytes that are long enough for their typecodes begin with a signature
prefix_types-long : (l : LmsType) (t : OtsType) (s : Text) → lms_signature_length l t ≤ length s
    → u32_at s 4 ≡ typecode t → u32_at s (4 + signature_length t) ≡ lms_code l
    → prefix_types s ≡ Some (l, t)
unfolding prefix_types
prefix_types-long l t s long once tree =
    let first = le-ltb (length s) 8 (omega arith) in
    let second = le-ltb (length s) (8 + signature_length t) (omega arith) in
    let third = le-ltb (length s) (lms_signature_length l t) long in
    rw (first, once, type_of_code-typecode t, second, tree, lms_type_of_code-lms_code l, third) refl

-- whatever follows a signature
pub prefix_types-append : (k : PrivateKey) (q : ℕ) (message rest : Text)
    → prefix_types (lms_signature k q message ++ rest) ≡ Some (k.lms, k.ots)
prefix_types-append k q message rest =
    prefix_types-long k.lms k.ots (lms_signature k q message ++ rest)
    (omega (
      arith,
      length-append (lms_signature k q message) rest,
      length-lms_signature k q message,
    ))
    (lms_signature-ots k q message rest) (lms_signature-lms k q message rest)

pub prefix_types-lms_signature : (k : PrivateKey) (q : ℕ) (message : Text)
    → prefix_types (lms_signature k q message) ≡ Some (k.lms, k.ots)
prefix_types-lms_signature k q message = rw append-nil at (prefix_types-append k q message [])

-- ---- the root

lms_signature-root : (k : PrivateKey) (q : ℕ) (message : Text) → q < 2 ^ height k.lms
    → root_of_key k.lms k.ots k.id (lms_signature k q message) (public_key k.ots k.id q k.seed)
    ≡ tree_value k (height k.lms) 1
unfolding tree_value
lms_signature-root k q message below =
    let h = height k.lms in
    let small : q < 2 ^ 32 = lt_trans below (leaves_small k.lms) in
    let back : 2 ^ h + q - 2 ^ h ≡ q = omega arith in
    let path = concatenated (path_node k q) h in
    let beside : (j : ℕ) → j < h → value_at path (32 * j) ≡ path_node k q j =
    λ j within. concatenated-part (path_node k q) h j (length-path_node k q) within in
    let up = climbed-tree_value k (2 ^ h + q) path h h beside (le_refl h) in
    rw (lms_signature-index k q message small, lms_signature-path k q message) (rw (
      top h q below,
      back,
    ) at up)

lms_signature-yields : (k : PrivateKey) (q : ℕ) (message : Text) → q < 2 ^ height k.lms
    → yields_root k.lms k.ots k.id message (lms_signature k q message)
    (tree_value k (height k.lms) 1) ≡ true
unfolding yields_root
lms_signature-yields k q message below =
    let small : q < 2 ^ 32 = lt_trans below (leaves_small k.lms) in
    let signed = lms_signature k q message in
    let found : candidate_key k.id (u32_at signed 0) message
    (take (signature_length k.ots) (drop 4 signed))
    ≡ Some (public_key k.ots k.id q k.seed) =
    rw (lms_signature-index k q message small, lms_signature-once k q message)
    (signature_yields_key k.ots k.id k.seed message q) in
    let root = tree_value k (height k.lms) 1 in
    rw (found, lms_signature-root k q message below) ((bytes_eq-Decides root root).1 refl)

-- ---- the law

pub check_refusal-lms_signature : (k : PrivateKey) (q : ℕ) (message : Text) → length k.id ≡ 16
    → q < 2 ^ height k.lms
    → check_refusal (lms_public k) message (lms_signature k q message) ≡ None
unfolding check_refusal level_refusal
check_refusal-lms_signature k q message size below =
    let small : q < 2 ^ 32 = lt_trans below (leaves_small k.lms) in
    let whole = eq-eqb (lms_signature_length k.lms k.ots) (length (lms_signature k q message))
    (sym (length-lms_signature k q message)) in
    let tree = eq-eqb (lms_code k.lms) (u32_at (lms_public k) 0) (sym (lms_public-types k).0) in
    let once = eq-eqb (typecode k.ots) (u32_at (lms_public k) 4) (sym (lms_public-types k).1) in
    let index = lt-ltb q (2 ^ height k.lms) below in
    rw (
      prefix_types-lms_signature k q message,
      whole,
      tree,
      once,
      lms_signature-index k q message small,
      index,
      lms_public-id k size,
      lms_public-root k size,
      lms_signature-yields k q message below,
    ) refl

pub signature_verifies : (l : LmsType) (t : OtsType) (secret message : Text) (q : ℕ)
    → length secret ≡ 48
    → q < 2 ^ height l → SignatureVerifies l t secret q message
unfolding lms_refusal
signature_verifies l t secret message q size below =
    let k = private_key l t secret in
    let id : length (take 16 secret) ≡ 16 = length-take-le 16 secret (omega arith) in
    rw (key_types-lms_public k id) (check_refusal-lms_signature k q message id below)
