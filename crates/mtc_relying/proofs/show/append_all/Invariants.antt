use Rattle.std.proofs.Common.{◌≡◌, ◌++◌, take}
use Rattle.mtc_io.specs.Streams.{joined}
use Rattle.mtc_relying.proofs.show.append_all.Given as goal

-- the pieces so far follow the bytes
abbrev pub invariant-loop-piece : goal.invariant-loop-piece
invariant-loop-piece l = l.out ≡ l.initial.out ++ joined (take l.piece-index l.pieces)
