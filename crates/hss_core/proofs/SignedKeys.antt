-- A key that a tree signs, and what verifies under that key, verify together.
use Rattle.std.proofs.Common.{◌≡◌, ℕ, ◌+◌, ◌^◌, ◌<◌, ◌≤◌, Bool, true, false, if◌then◌else◌, ◌&&◌}
use Rattle.std.proofs.Common.{◌++◌, length, take, drop, Option, Some, None, refl, arith}
use Rattle.std.proofs.Common.{append_assoc, length-append, eq-eqb}
use Rattle.std.specs.Prelude.{not}
use Rattle.std.proofs.lemmas.Bool.{eqb-true, le-leb}
use Rattle.std.proofs.lemmas.List.{drop_at, take_at}
use Rattle.std.proofs.lemmas.Nat.{from_be_bytes-to_be_bytes_4}
use Rattle.std.specs.Int.{w32, to_be_bytes}
use Rattle.byte_formats.specs.Types.{Text}
use Rattle.lmots_core.specs.declared.parameters.OtsType.{OtsType}
use Rattle.lmots_core.specs.Strings.{u32_at}
use Rattle.lms_core.specs.declared.heights.LmsType.{LmsType}
use Rattle.lms_core.specs.declared.private_key.PrivateKey.{PrivateKey}
use Rattle.lms_core.specs.declared.refusals.SigError.{SigError}
use Rattle.lms_core.specs.Heights.{height, lms_signature_length}
use Rattle.lms_core.specs.Trees.{lms_public, lms_signature}
use Rattle.lms_core.specs.Refusals.{check_refusal}
use Rattle.lms_core.proofs.Parts.{part}
use Rattle.lms_core.proofs.Verifies.{check_refusal-lms_signature, prefix_types-append}
use Rattle.lms_core.proofs.Verifies.{key_types-lms_public, length-lms_public, length-lms_signature}
use Rattle.hss_core.specs.Hss.{after_next_key, prefix_length, hss_key_types, hss_refusal}
use Rattle.hss_core.specs.Hss.{next_public_key}
use Rattle.hss_core.specs.Hss.{levels_public, levels_refusal, levels_signature, parts_fit}
use Rattle.hss_core.specs.Hss.{refusal_of_types, SignedKeyVerifies, Verifies}
use Rattle.hss_core.proofs.Parts.{levels_refusal-passed, parts_fit-pair}

-- the number before a key or a signature
number_first : (n : ℕ) (rest : Text) → n < 2 ^ 32 → u32_at (to_be_bytes w32 n ++ rest) 0 ≡ n
unfolding u32_at
number_first n rest small = from_be_bytes-to_be_bytes_4 n small

-- what passes two tests, and is then not refused
both_passed : (a b : Bool) (first second : SigError) (r : Option SigError)
    → (if not a then Some first else (if not b then Some second else r)) ≡ None → (a ≡ true)
    × (r ≡ None)
both_passed true true first second r passed = (refl, passed)
both_passed true false first second r passed = cc
both_passed false b first second r passed = cc

right_true : (a b : Bool) → (a && b) ≡ true → b ≡ true
right_true true b both = both
right_true false b both = cc

-- what verifies has whole parts, which pass from the top down
parts_passed : (o : Option (ℕ × LmsType × OtsType)) (key message s : Text)
    → refusal_of_types o key message s ≡ None
    → (parts_fit (u32_at s 0) (drop 4 s) ≡ true)
    × (levels_refusal (u32_at s 0) (drop 4 key) message (drop 4 s) ≡ None)
parts_passed None key message s passed = cc
parts_passed (Some (levels, l, t)) key message s passed =
    let both = both_passed _ _ _ _ _ passed in (right_true _ _ both.0, both.1)

-- and its key has the length of keys
key_long : (a b c : Bool) (o : Option (ℕ × LmsType × OtsType)) (key message s : Text)
    → refusal_of_types (if a && b && c then o else None) key message s ≡ None → a ≡ true
key_long true b c o key message s passed = refl
key_long false b c o key message s passed = cc

key_size : (key message s : Text) → Verifies key message s → length key ≡ 60
unfolding hss_refusal hss_key_types
key_size key message s passed = eqb-true (length key) 60 (key_long _ _ _ _ key message s passed)

-- a key of so many levels below the top is read
hss_key_types-levels_public : (k : PrivateKey) (below : ℕ) → length k.id ≡ 16 → below ≤ 7
    → hss_key_types (levels_public below (lms_public k)) ≡ Some (below + 1, k.lms, k.ots)
unfolding hss_key_types
hss_key_types-levels_public k below size few =
    let all : length (to_be_bytes w32 (below + 1) ++ lms_public k) ≡ 60 =
    omega (
      arith,
      length-append (to_be_bytes w32 (below + 1)) (lms_public k),
      length-lms_public k size,
    ) in
    let number = number_first (below + 1) (lms_public k) (omega arith) in
    let some = le-leb 1 (below + 1) (omega arith) in
    let most = le-leb (below + 1) 8 (omega arith) in
    rw (all, number, some, most, key_types-lms_public k size) refl

pub signed_key_verifies : (k : PrivateKey) (q below : ℕ) (public message parts : Text)
    → length k.id ≡ 16
    → q < 2 ^ height k.lms → below < 7 → SignedKeyVerifies k q below public message parts
unfolding hss_refusal
signed_key_verifies k q below public message parts id index few verifies =
    let s = lms_signature k q public ++ public ++ parts in
    let size = lms_signature_length k.lms k.ots in
    let below_first = number_first below parts (omega arith) in
    let passed = rw below_first at (parts_passed _ (levels_public below public) message
    (levels_signature below parts) verifies) in
    let long : length public ≡ 56 =
    omega (
      arith,
      key_size (levels_public below public) message (levels_signature below parts) verifies,
      length-append (to_be_bytes w32 (below + 1)) public,
    ) in
    let found : prefix_length s ≡ Some size =
    rw (append_assoc, prefix_types-append k q public (public ++ parts)) refl in
    let signed : length (lms_signature k q public) ≡ size = length-lms_signature k q public in
    let both : length (lms_signature k q public ++ public) ≡ size + 56 =
    omega (arith, length-append (lms_signature k q public) public, signed) in
    let within : size + 56 ≤ length s =
    omega (arith, both, length-append (lms_signature k q public ++ public) parts) in
    let first : take size s ≡ lms_signature k q public =
    rw append_assoc (take_at (lms_signature k q public) (public ++ parts) size signed) in
    let next : next_public_key size s ≡ public =
    part (lms_signature k q public) public parts size 56 signed long in
    let rest : after_next_key size s ≡ parts =
    drop_at (lms_signature k q public ++ public) parts (size + 56) both in
    let fit : parts_fit (below + 1) s ≡ true =
    rw (parts_fit-pair below (below + 1) size s (omega arith) found within, rest) passed.0 in
    let good : check_refusal (lms_public k) (next_public_key size s) (take size s) ≡ None =
    rw (first, next) (check_refusal-lms_signature k q public id index) in
    let levels : levels_refusal (below + 1) (lms_public k) message s ≡ None =
    rw (
      levels_refusal-passed below (below + 1) size (lms_public k) message s
          (omega arith) found good,
      next,
      rest,
    ) passed.1 in
    let number = number_first (below + 1) s (omega arith) in
    let four = le-leb 4 (length (to_be_bytes w32 (below + 1) ++ s)) (omega (
      arith,
      length-append (to_be_bytes w32 (below + 1)) s,
    )) in
    let same = eq-eqb (below + 1 + 1) (below + 1 + 1) refl in
    rw (hss_key_types-levels_public k (below + 1) id (omega arith), number, four, fit, same) levels
