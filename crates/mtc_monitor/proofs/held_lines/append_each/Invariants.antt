use Rattle.std.proofs.Common.{◌≡◌, ◌++◌, take}
use Rattle.mtc_io.specs.Streams.{joined}
use Rattle.mtc_monitor.proofs.held_lines.append_each.Given as goal

-- The pieces so far stand after the bytes.
abbrev pub invariant-loop-piece : goal.invariant-loop-piece
invariant-loop-piece l = l.out ≡ l.initial.out ++ joined (take l.piece-index l.pieces)
