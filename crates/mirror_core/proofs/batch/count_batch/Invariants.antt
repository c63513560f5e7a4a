use Rattle.std.proofs.Common.{◌+◌, ◌-◌, ◌≤◌, length}
use Rattle.mirror_core.specs.Refusals.{pairs_of}
use Rattle.mirror_core.proofs.Batching.{AreCounted}
use Rattle.mirror_core.proofs.batch.count_batch.Given as goal

-- so many are taken before the rest
abbrev pub invariant-items : goal.invariant-items
invariant-items g l = record {
  counted : AreCounted l.from l.count l.left (pairs_of l.items);
  within : l.from + l.count ≤ length l.items.entries;
}

abbrev pub decreases-items : goal.decreases-items
decreases-items g l = length l.items.entries - l.count
