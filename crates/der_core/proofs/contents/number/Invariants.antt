use Rattle.std.proofs.Common.{◌≡◌, drop}
use Rattle.byte_formats.specs.Numbers.{value}
use Rattle.der_core.proofs.Loops.{carried}
use Rattle.der_core.proofs.contents.number.Given as goal

-- The number so far and the bytes left make the whole.
abbrev pub invariant-loop-byte : goal.invariant-loop-byte
invariant-loop-byte l = carried l.n (drop l.byte-index l.bytes) ≡ value 256 l.fn.bytes
