use Rattle.std.proofs.Common.{◌≡◌, ℕ, ◌<◌, [], length, get_or}
use Rattle.tile_store.specs.Contents.{hash_in}
use Rattle.tile_store.proofs.inside.hashes_of.Given as goal

abbrev pub invariant-loop-at : goal.invariant-loop-at
invariant-loop-at l = record {
  count : length l.nodes.items ≡ l.at;
  each : (i : ℕ) → i < l.at → get_or l.nodes.items i [] ≡ hash_in i l.tile;
}
