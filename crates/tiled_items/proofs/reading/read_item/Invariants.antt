use Rattle.std.proofs.Common.{◌≡◌, ◌+◌, ◌-◌, ◌<◌, [], IfSome, length}
use Rattle.disk_core.specs.Times.{OnlyReads}
use Rattle.journal_core.specs.Ends.{durable_records}
use Rattle.journal_core.specs.Words.{disk_of, end_of}
use Rattle.tiled_items.specs.Blocks.{all_items}
use Rattle.tiled_items.specs.Walk.{IsWalk}
use Rattle.tiled_items.proofs.reading.read_item.Given as goal

-- the item is so far behind the first of the record at the offset; the disk was only read
abbrev pub invariant-records : goal.invariant-records
invariant-records g l = record {
  walk : IfSome (durable_records l.fn.journal) (λ list.
      IsWalk g.R.ItemRules.first g.R.ItemRules.added list l.index l.fn.start.place
      (l.index - l.fn.start.first)
      → l.index < length (all_items g.R.ItemRules.first g.R.ItemRules.added list)
      → IsWalk g.R.ItemRules.first g.R.ItemRules.added list l.index l.place l.left);
  entry : l.entry ≡ [];
  spki : l.spki ≡ [];
  records : durable_records l.journal ≡ durable_records l.fn.journal;
  end : end_of l.journal ≡ end_of l.fn.journal;
  only_reads : OnlyReads g.D.Disk (disk_of l.fn.journal) (disk_of l.journal);
}

abbrev pub decreases-records : goal.decreases-records
decreases-records g l = end_of l.fn.journal + 1 - l.place
