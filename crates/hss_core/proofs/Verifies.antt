-- What a key signs verifies under its public key.
use Rattle.std.proofs.Common.{◌≡◌, ℕ, ◌^◌, ◌<◌, true, ◌++◌, length, Some, refl, sym, arith}
use Rattle.std.proofs.Common.{length-append, eq-eqb}
use Rattle.std.proofs.lemmas.Bool.{le-leb}
use Rattle.std.proofs.lemmas.List.{length-take-le}
use Rattle.std.specs.Int.{w32, to_be_bytes}
use Rattle.byte_formats.specs.Types.{Text}
use Rattle.lmots_core.specs.declared.parameters.OtsType.{OtsType}
use Rattle.lmots_core.specs.Strings.{u32_at}
use Rattle.lms_core.specs.declared.heights.LmsType.{LmsType}
use Rattle.lms_core.specs.declared.private_key.PrivateKey.{PrivateKey}
use Rattle.lms_core.specs.Heights.{height, lms_signature_length}
use Rattle.lms_core.specs.Trees.{lms_public, lms_signature, private_key}
use Rattle.lms_core.proofs.Verifies.{check_refusal-lms_signature, prefix_types-lms_signature}
use Rattle.lms_core.proofs.Verifies.{key_types-lms_public, length-lms_public, length-lms_signature}
use Rattle.hss_core.specs.Hss.{hss_key_types, one_level_public, hss_refusal, one_level_signature}
use Rattle.hss_core.specs.Hss.{levels_refusal, parts_fit, OneLevelSignatureVerifies, Verifies}

-- a key of one level is read
hss_key_types-one_level_public : (k : PrivateKey) → length k.id ≡ 16
    → hss_key_types (one_level_public k) ≡ Some (1, k.lms, k.ots)
unfolding hss_key_types one_level_public u32_at
hss_key_types-one_level_public k size =
    let all : length (to_be_bytes w32 1 ++ lms_public k) ≡ 60 =
    omega (arith, length-append (to_be_bytes w32 1) (lms_public k), length-lms_public k size) in
    rw (all, key_types-lms_public k size) refl

-- and its signature is one part
parts_fit-lms_signature : (k : PrivateKey) (q : ℕ) (message : Text)
    → parts_fit 0 (lms_signature k q message) ≡ true
unfolding parts_fit
parts_fit-lms_signature k q message =
    let whole = eq-eqb (lms_signature_length k.lms k.ots) (length (lms_signature k q message))
    (sym (length-lms_signature k q message)) in
    rw (prefix_types-lms_signature k q message, whole) refl

-- what a tree signs verifies, with the number of levels before key and signature
pub hss_refusal-one_level_signature : (k : PrivateKey) (q : ℕ) (message : Text) → length k.id ≡ 16
    → q < 2 ^ height k.lms
    → Verifies (one_level_public k) message (one_level_signature k q message)
unfolding hss_refusal one_level_public one_level_signature levels_refusal u32_at
hss_refusal-one_level_signature k q message size below =
    let signed = to_be_bytes w32 0 ++ lms_signature k q message in
    let long = le-leb 4 (length signed) (omega (
      arith,
      length-append (to_be_bytes w32 0) (lms_signature k q message),
    )) in
    rw (hss_key_types-one_level_public k size, long, parts_fit-lms_signature k q message)
    (check_refusal-lms_signature k q message size below)

pub signature_verifies : (l : LmsType) (t : OtsType) (secret message : Text) (q : ℕ)
    → length secret ≡ 48
    → q < 2 ^ height l → OneLevelSignatureVerifies l t secret q message
signature_verifies l t secret message q size below =
    hss_refusal-one_level_signature (private_key l t secret) q message
    (length-take-le 16 secret (omega arith)) below
