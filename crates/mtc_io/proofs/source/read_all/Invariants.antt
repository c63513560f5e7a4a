use Rattle.std.proofs.Common.{◌≡◌, ◌≤◌, length, ◌-◌}
use Rattle.std.specs.Io.KnownBytes.{Consumes}
use Rattle.mtc_io.proofs.source.read_all.Given as goal

-- what was read so far stands in the buffer, and isn't too long
pub record Invariant (g : goal.Over) (l : goal.Live-loop-bytes g) : Type 0 where
  pub within : length l.bytes ≤ l.limit
  pub gave : Consumes (g.S.Source.left l.initial.source) (g.S.Source.left l.source) l.bytes
  pub count : g.S.Source.faults l.source ≡ g.S.Source.faults l.initial.source

abbrev pub invariant-loop-bytes : goal.invariant-loop-bytes
invariant-loop-bytes g l = Invariant g l

abbrev pub decreases-loop-bytes : goal.decreases-loop-bytes
decreases-loop-bytes g l = l.limit - length l.bytes
