use Rattle.std.proofs.Common.{◌≡◌, ◌≤◌, IfSome, length}
use Rattle.disk_core.specs.Times.{OnlyReads}
use Rattle.journal_core.specs.Ends.{durable_records}
use Rattle.journal_core.specs.Words.{disk_of, end_of, is_broken}
use Rattle.mirror_core.specs.Places.{places_of_batches}
use Rattle.mirror_core.specs.Refusals.{pairs_of}
use Rattle.mirror_core.proofs.Differing.{Decides}
use Rattle.mirror_core.proofs.comparing.find_difference.Given as goal

-- the Batches from here on decide; the disk was only read
abbrev pub invariant-batches : goal.invariant-batches
invariant-batches g l = record {
  decides : IfSome (durable_records l.fn.journal) (λ list. l.places ≡ places_of_batches list
      → Decides l.batch-index l.count (pairs_of l.items) list);
  within : l.count ≤ length l.items.entries;
  records : durable_records l.journal ≡ durable_records l.fn.journal;
  end : end_of l.journal ≡ end_of l.fn.journal;
  broken : is_broken l.journal ≡ is_broken l.fn.journal;
  only_reads : OnlyReads g.D.Disk (disk_of l.fn.journal) (disk_of l.journal);
  fine : g.D.Disk.faults (disk_of l.journal) ≡ g.D.Disk.faults (disk_of l.fn.journal);
}
