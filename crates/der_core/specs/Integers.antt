-- The encoding of whole numbers from 0 on (X.690, section 8.3).
use Rattle.std.specs.Prelude.{ℕ, zero, suc, ◌+◌, ◌*◌, ◌^◌, nat_lt, if◌then◌else◌}
use Rattle.byte_formats.specs.Types.{Text}
use Rattle.byte_formats.specs.Numbers.{digits}

-- The fewest bytes of a number whose highest bit is 0, at least k + 1 of them.
abbrev pub width_from : ℕ → ℕ → ℕ → ℕ
width_from zero k n = k + 1
width_from (suc fuel) k n = if nat_lt n (0x80 * 256 ^ k) then k + 1 else width_from fuel (k + 1) n

-- The contents for a number below 2 ^ 64: at most nine bytes.
unfoldable pub integer : ℕ → Text
integer n = digits 256 (width_from 8 0 n) n
