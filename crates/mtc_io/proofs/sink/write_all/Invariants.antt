use Rattle.std.proofs.Common.{◌≡◌, ◌≤◌, length, take, ◌-◌}
use Rattle.std.specs.Io.KnownBytes.{Appends}
use Rattle.mtc_io.proofs.sink.write_all.Given as goal

-- the first `done` bytes were taken
pub record Invariant (g : goal.Over) (l : goal.Live-loop-done g) : Type 0 where
  pub within : l.done ≤ length l.piece
  pub taken : Appends (g.O.Sink.taken l.initial.sink) (g.O.Sink.taken l.sink) (take l.done l.piece)
  pub count : g.O.Sink.faults l.sink ≡ g.O.Sink.faults l.initial.sink

abbrev pub invariant-loop-done : goal.invariant-loop-done
invariant-loop-done g l = Invariant g l

abbrev pub decreases-loop-done : goal.decreases-loop-done
decreases-loop-done g l = length l.piece - l.done
