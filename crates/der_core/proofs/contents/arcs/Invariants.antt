use Rattle.std.proofs.Common.{◌≡◌, true, drop}
use Rattle.der_core.specs.Contents.{are_arcs}
use Rattle.der_core.proofs.contents.arcs.Given as goal

-- What is left decides as the whole does.
abbrev pub invariant-loop-byte : goal.invariant-loop-byte
invariant-loop-byte l = are_arcs l.begins (drop l.byte-index l.bytes) ≡ are_arcs true l.fn.bytes
