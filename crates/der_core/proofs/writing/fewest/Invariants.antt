use Rattle.std.proofs.Common.{◌≡◌, ◌<◌, ◌≤◌, length, slice_index}
use Rattle.byte_formats.specs.Numbers.{value}
use Rattle.der_core.proofs.writing.fewest.Given as goal

-- The number stays as it was.
abbrev pub invariant-loop-rest : goal.invariant-loop-rest
invariant-loop-rest l = record {
  shorter : length l.rest ≤ length l.fn.bytes;
  some : 0 < length l.rest;
  positive : slice_index l.rest 0 < 128;
  same : value 256 l.rest ≡ value 256 l.fn.bytes;
}

abbrev pub decreases-loop-rest : goal.decreases-loop-rest
decreases-loop-rest l = length l.rest
