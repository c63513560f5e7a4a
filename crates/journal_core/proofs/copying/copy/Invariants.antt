use Rattle.std.proofs.Common.{◌≡◌, ◌≤◌, ◌-◌, IfSome}
use Rattle.std.specs.Io.KnownBytes.{Appends}
use Rattle.disk_core.specs.Disk.{part}
use Rattle.journal_core.specs.Words.{disk_of}
use Rattle.journal_core.specs.Copies.{AppendsSome, IsOnlyRead}
use Rattle.journal_core.proofs.copying.copy.Given as goal

-- the first `done` bytes were written
pub record Invariant (g : goal.Over) (l : goal.Live-loop-done g) : Type 0 where
  pub within : l.done ≤ l.count
  pub written : IfSome (g.D.Disk.contents (disk_of l.initial.journal))
      (λ bytes. Appends (g.O.Sink.taken l.initial.out) (g.O.Sink.taken l.out)
      (part l.place l.done bytes))
  pub grows : AppendsSome (g.O.Sink.taken l.initial.out) (g.O.Sink.taken l.out)
  pub kept : IsOnlyRead l.initial.journal l.journal
  pub read : g.D.Disk.faults (disk_of l.journal) ≡ g.D.Disk.faults (disk_of l.initial.journal)
  pub took : g.O.Sink.faults l.out ≡ g.O.Sink.faults l.initial.out

abbrev pub invariant-loop-done : goal.invariant-loop-done
invariant-loop-done g l = Invariant g l

abbrev pub decreases-loop-done : goal.decreases-loop-done
decreases-loop-done g l = l.count - l.done
