use Rattle.std.proofs.Common.{◌-◌, ◌<◌, ◌≤◌, length}
use Rattle.std.specs.Prelude.{slice_index_or}
use Rattle.mirror_core.specs.Places.{no_place}
use Rattle.mirror_core.proofs.kept.find.Given as goal

-- the index lies in the Batches from the low one up to the high one
abbrev pub invariant-halves : goal.invariant-halves
invariant-halves l = record {
  order : l.low < l.high;
  there : l.high ≤ length l.places;
  from : (slice_index_or l.places 0 no_place).first ≤ l.index
      → (slice_index_or l.places l.low no_place).first ≤ l.index;
  next : l.high < length l.places → l.index < (slice_index_or l.places l.high no_place).first;
}

abbrev pub decreases-halves : goal.decreases-halves
decreases-halves l = l.high - l.low
