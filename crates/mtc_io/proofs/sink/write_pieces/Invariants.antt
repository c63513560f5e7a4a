use Rattle.std.proofs.Common.{◌≡◌, take}
use Rattle.std.specs.Io.KnownBytes.{Appends}
use Rattle.mtc_io.specs.Streams.{joined}
use Rattle.mtc_io.proofs.sink.write_pieces.Given as goal

-- the pieces so far were taken
pub record Invariant (g : goal.Over) (l : goal.Live-loop-piece g) : Type 0 where
  pub taken : Appends (g.O.Sink.taken l.initial.sink) (g.O.Sink.taken l.sink)
      (joined (take l.piece-index l.pieces))
  pub count : g.O.Sink.faults l.sink ≡ g.O.Sink.faults l.initial.sink

abbrev pub invariant-loop-piece : goal.invariant-loop-piece
invariant-loop-piece g l = Invariant g l
