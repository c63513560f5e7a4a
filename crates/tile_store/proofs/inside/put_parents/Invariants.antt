use Rattle.std.proofs.Common.{◌≡◌, ℕ, ◌+◌, ◌<◌, [], length, get_or}
use Rattle.tile_store.specs.Inside.{ArePaired}
use Rattle.tile_store.proofs.inside.put_parents.Given as goal

abbrev pub invariant-loop-at : goal.invariant-loop-at
invariant-loop-at g l = record {
  count : length l.nodes.items ≡ 256 + l.at;
  kept : (i : ℕ) → i < 256 → get_or l.nodes.items i [] ≡ get_or l.fn.nodes.items i [];
  paired : ArePaired g.H.TreeHash.hash l.at l.nodes.items;
}
