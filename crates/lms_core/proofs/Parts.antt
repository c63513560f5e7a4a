-- The parts of a byte string that is put together from them.
use Rattle.std.proofs.Common.{◌≡◌, ℕ, ◌^◌, ◌<◌, ◌++◌, length, take, drop, refl, append_assoc}
use Rattle.std.proofs.lemmas.List.{take_at, drop_at}
use Rattle.std.proofs.lemmas.Nat.{from_be_bytes-to_be_bytes_4}
use Rattle.std.specs.Int.{w32, to_be_bytes}
use Rattle.byte_formats.specs.Types.{Text}
use Rattle.lmots_core.specs.Strings.{u32_at}

-- a part of m bytes after n bytes
pub part : (before x after : Text) (n m : ℕ) → length before ≡ n → length x ≡ m
    → take m (drop n (before ++ x ++ after)) ≡ x
part before x after n m at size = rw (append_assoc, drop_at before (x ++ after) n at)
    (take_at x after m size)

-- a number after n bytes
pub word_part : (before rest : Text) (n code : ℕ) → length before ≡ n → code < 2 ^ 32
    → u32_at (before ++ to_be_bytes w32 code ++ rest) n ≡ code
unfolding u32_at
word_part before rest n code at small =
    rw (part before (to_be_bytes w32 code) rest n 4 at refl)
    (from_be_bytes-to_be_bytes_4 code small)
