-- What the four widths have in common.
use Rattle.std.proofs.Common.{◌≡◌, ℕ, ◌*◌, ◌/◌, ◌%◌, ◌^◌, ◌<◌, ◌≤◌, arith}
use Rattle.byte_formats.specs.Types.{Text}
use Rattle.lmots_core.specs.Ots.{checksum, checksum_sum}
use Rattle.lmots_core.specs.Parameters.{chains, shift, steps, width}
use Rattle.lmots_core.specs.declared.parameters.OtsType.{OtsType}
use Rattle.lmots_core.specs.declared.parameters.OtsType.TheVariants.{W1, W2, W4, W8}

-- no bit of a checksum is lost where it is shifted into 16 bits
pub sum_fits : (t : OtsType) (sum : ℕ) → sum ≤ 256 / width t * steps t
    → sum * 2 ^ shift t % 65536 ≡ sum * 2 ^ shift t
sum_fits W1 sum few = omega arith
sum_fits W2 sum few = omega arith
sum_fits W4 sum few = omega arith
sum_fits W8 sum few = omega arith

-- each digit lies within the 34 bytes of a hash and its checksum
pub digit_within : (t : OtsType) (i : ℕ) → i < chains t → i * width t < 272
digit_within W1 i below = omega arith
digit_within W2 i below = omega arith
digit_within W4 i below = omega arith
digit_within W8 i below = omega arith

-- the sum over all digits of a hash, shifted, is its checksum
pub checksum_done : (t : OtsType) (s : Text) (sum i : ℕ) → i ≡ 256 / width t
    → sum ≡ checksum_sum s (width t) i → sum ≤ i * steps t
    → sum * 2 ^ shift t % 65536 ≡ checksum t s
checksum_done t s sum i all is few =
    let whole : sum ≡ checksum_sum s (width t) (256 / width t) = rw (← all) is in
    let small : sum ≤ 256 / width t * steps t = rw (← all) few in
    rw (sum_fits t sum small, whole)
