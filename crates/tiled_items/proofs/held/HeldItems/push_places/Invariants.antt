use Rattle.std.proofs.Common.{◌≡◌, ◌+◌, ◌-◌, ◌≤◌, ◌++◌}
use Rattle.std.specs.Prelude.{replicate, vec_capacity, vec_len}
use Rattle.tiled_items.specs.Held.{held_places}
use Rattle.tiled_items.proofs.held.HeldItems.push_places.Given as goal

-- so many copies of the place follow the old places
abbrev pub invariant-places : goal.invariant-places
invariant-places g l = record {
  within : l.done ≤ l.more;
  capacity : 1 ≤ l.more → vec_len l.self.places + l.more ≤ vec_capacity l.self.places + l.done;
  are : held_places l.self ≡ held_places l.fn.self ++ replicate l.done l.place;
  nodes : l.self.nodes ≡ l.fn.self.nodes;
}

abbrev pub decreases-places : goal.decreases-places
decreases-places g l = l.more - l.done
