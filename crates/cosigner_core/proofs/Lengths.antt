-- How long things are that were read or written.
use Rattle.std.proofs.Common.{◌≡◌, ℕ, ◌≤◌, length, take, nat_lt, Ok, ap, sym, ◌∙◌}
use Rattle.std.proofs.Common.{◌<◌, ◌^◌, ◌+◌, arith}
use Rattle.std.proofs.lemmas.Bool.{ltb-false}
use Rattle.std.proofs.lemmas.List.{length-take-le}
use Rattle.byte_formats.specs.Offsets.{At, after}
use Rattle.byte_formats.specs.Types.{Text}
use Rattle.byte_formats.proofs.Steps.{guard_ok, ok_is}
use Rattle.lmots_core.specs.Parameters.{signature_length}
use Rattle.lmots_core.specs.declared.parameters.OtsType.{OtsType}
use Rattle.lmots_core.specs.declared.parameters.OtsType.TheVariants.{W1, W2, W4, W8}
use Rattle.lms_core.specs.Heights.{height, lms_signature_length}
use Rattle.lms_core.specs.declared.heights.LmsType.{LmsType}
use Rattle.lms_core.specs.declared.heights.LmsType.TheVariants.{H5, H10, H15, H20, H25}
use Rattle.tls_wire.specs.Reading.{bytes_at, short}
use Rattle.tls_wire.specs.declared.cursor.Short.{Short}

-- so many bytes were read
pub length-read : (count : ℕ) (a b : At) (bytes : Text) → bytes_at count a ≡ Ok (bytes, b)
    → length bytes ≡ count
length-read count a b bytes is =
    let read = guard_ok (nat_lt (length a.rest) count) (short a) (Ok (
      take count a.rest,
      after count a,
    )) (bytes, b) is in
    let long : count ≤ length a.rest = ltb-false (length a.rest) count read.0 in
    let same : take count a.rest ≡ bytes =
    ap (λ (x : Text × At). x.0) (ok_is Short (take count a.rest, after count a) (
      bytes,
      b,
    ) read.1) in
    sym (ap length same) ∙ length-take-le count a.rest long

-- a signature of one level
pub signature_short : (l : LmsType) (t : OtsType) → 4 + lms_signature_length l t < 2 ^ 14
signature_short l t = let high = low_tree l in let long = short_key t in omega arith
  where
    low_tree : (l : LmsType) → height l ≤ 25
    low_tree H5 = omega arith
    low_tree H10 = omega arith
    low_tree H15 = omega arith
    low_tree H20 = omega arith
    low_tree H25 = omega arith

    short_key : (t : OtsType) → signature_length t ≤ 8516
    short_key W1 = omega arith
    short_key W2 = omega arith
    short_key W4 = omega arith
    short_key W8 = omega arith
