use Rattle.std.proofs.Common.{◌≡◌}
use Rattle.disk_core.specs.Times.{OnlyReads}
use Rattle.journal_core.specs.Copies.{AppendsSome}
use Rattle.journal_core.specs.Ends.{durable_records}
use Rattle.journal_core.specs.Words.{disk_of, end_of, is_broken}
use Rattle.mirror_core.proofs.Listed.{HaveGone, OfBatches}
use Rattle.mirror_core.proofs.listing.write_first.Given as goal

-- the items of the Batches before this one went out; the disk was only read
pub record Invariant (g : goal.Over) (l : goal.Live-batches g) : Type 0 where
  pub gone : OfBatches (durable_records l.fn.journal) l.places l.size
      (HaveGone (g.O.Sink.taken l.fn.out) (g.O.Sink.taken l.out) l.size l.batch-index)
  pub grows : AppendsSome (g.O.Sink.taken l.fn.out) (g.O.Sink.taken l.out)
  pub records : durable_records l.journal ≡ durable_records l.fn.journal
  pub end : end_of l.journal ≡ end_of l.fn.journal
  pub broken : is_broken l.journal ≡ is_broken l.fn.journal
  pub only_reads : OnlyReads g.D.Disk (disk_of l.fn.journal) (disk_of l.journal)
  pub read : g.D.Disk.faults (disk_of l.journal) ≡ g.D.Disk.faults (disk_of l.fn.journal)
  pub took : g.O.Sink.faults l.out ≡ g.O.Sink.faults l.fn.out

abbrev pub invariant-batches : goal.invariant-batches
invariant-batches g l = Invariant g l
