use Rattle.std.proofs.Common.{◌≡◌, ◌≤◌, ◌-◌}
use Rattle.entry_stream.specs.Streams.{HadLeft}
use Rattle.entry_stream.proofs.rest.skip_rest.Given as goal

-- so many bytes were read, and they aren't too many
pub record Invariant (g : goal.Over) (l : goal.Live-each g) : Type 0 where
  pub within : l.total ≤ l.limit
  pub gave : HadLeft (g.S.Source.left l.initial.source) (g.S.Source.left l.source) l.total
  pub count : g.S.Source.faults l.source ≡ g.S.Source.faults l.initial.source

abbrev pub invariant-each : goal.invariant-each
invariant-each g l = Invariant g l

abbrev pub decreases-each : goal.decreases-each
decreases-each g l = l.limit - l.total
