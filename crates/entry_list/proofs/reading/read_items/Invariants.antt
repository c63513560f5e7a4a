use Rattle.std.proofs.Common.{length}
use Rattle.entry_list.specs.Offsets.{lists_at}
use Rattle.entry_list.specs.Reading.{items_in}
use Rattle.entry_list.proofs.Kept.{IsIn}
use Rattle.entry_list.proofs.Loops.{ItemsLeft}
use Rattle.entry_list.proofs.reading.read_items.Given as goal

-- what was read so far and what is left make the whole, and the next item stands in the file
pub record Invariant (g : goal.Over) (l : goal.Live-loop-cursor g) : Type 0 where
  pub left : ItemsLeft g.H.TreeHash.hash (items_in g.H.TreeHash.hash l.fn.bytes)
      (lists_at l.fn.bytes l.offsets.items) l.cursor
  pub stands : IsIn l.fn.bytes l.cursor

abbrev pub invariant-loop-cursor : goal.invariant-loop-cursor
invariant-loop-cursor g l = Invariant g l

abbrev pub decreases-loop-cursor : goal.decreases-loop-cursor
decreases-loop-cursor g l = length l.cursor.rest
