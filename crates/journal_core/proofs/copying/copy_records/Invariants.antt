use Rattle.std.proofs.Common.{◌≡◌, ◌+◌, ◌-◌, ◌≤◌}
use Rattle.journal_core.specs.Words.{disk_of, end_of}
use Rattle.journal_core.specs.Copies.{AppendsSome, IsOnlyRead, sized_text}
use Rattle.journal_core.proofs.Copies.{IsCopied, OfRecords}
use Rattle.journal_core.proofs.copying.copy_records.Given as goal

-- the records before the commit byte were written
pub record Invariant (g : goal.Over) (l : goal.Live-loop-commit_byte g) : Type 0 where
  pub end : l.end ≡ end_of l.initial.journal
  pub within : l.commit_byte + 1 ≤ l.end
  pub written : OfRecords (g.D.Disk.contents (disk_of l.initial.journal)) l.first
      (end_of l.initial.journal) (λ bytes bodies. IsCopied bytes (sized_text bodies) l.commit_byte
      (end_of l.initial.journal) (g.O.Sink.taken l.initial.out) (g.O.Sink.taken l.out))
  pub grows : AppendsSome (g.O.Sink.taken l.initial.out) (g.O.Sink.taken l.out)
  pub kept : IsOnlyRead l.initial.journal l.journal
  pub read : g.D.Disk.faults (disk_of l.journal) ≡ g.D.Disk.faults (disk_of l.initial.journal)
  pub took : g.O.Sink.faults l.out ≡ g.O.Sink.faults l.initial.out

abbrev pub invariant-loop-commit_byte : goal.invariant-loop-commit_byte
invariant-loop-commit_byte g l = Invariant g l

abbrev pub decreases-loop-commit_byte : goal.decreases-loop-commit_byte
decreases-loop-commit_byte g l = l.end - l.commit_byte
