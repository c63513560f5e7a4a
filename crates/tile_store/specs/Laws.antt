-- What holds of every store of tiles.
use Rattle.std.proofs.Common.{◌≡◌, ℕ, List, length, Option, Some, None, option_map, IfSome, refl}
use Rattle.std.proofs.Common.{◌∙◌}
use Rattle.disk_core.proofs.Times.{only_read_on, nothing_read}
use Rattle.disk_core.specs.declared.disk.Disk.{Ghosts}
use Rattle.frame_pool.specs.Frames.{PoolState}
use Rattle.tile_store.specs.Sound.{IsSoundOver, leaves_with}
use Rattle.tile_store.specs.Store.{TilesStay, tiles_count, tiles_leaves}
use Rattle.tile_store.specs.declared.store.Tiles.{Tiles}
use Rattle.tree_cache.proofs.Filled.{count-rows, filled-on, filled-same}
use Rattle.tree_cache.specs.Rows.{RowsState, count_of}
use Rattle.tree_core.specs.declared.hashing.TreeHash.{Ghosts as Hashes}

-- if the model knows the bytes of the device, there are as many leaf hashes as leaves
counted-when : (h : List ℕ → List ℕ) (adopted stored : ℕ) (rows : RowsState) (pool : PoolState)
    (contents : Option (List ℕ))
    → ((b : List ℕ) → contents ≡ Some b → IsSoundOver h adopted stored rows pool b)
    → IfSome (option_map (leaves_with adopted rows) contents)
    (λ list. count_of rows ≡ length list)
counted-when h adopted stored rows pool None sound = tt
counted-when h adopted stored rows pool (Some b) sound =
    let over = sound b refl in
    count-rows h (leaves_with adopted rows b) rows over.stands

module _ {H T : Type 0} {hashes : Hashes H} {g : Ghosts T} where
  pub counted-tiles : (tiles : Tiles H T hashes g)
      → IfSome (tiles_leaves tiles) (λ list. tiles_count tiles ≡ length list)
  counted-tiles tiles =
      counted-when hashes.hash tiles.adopted tiles.stored tiles.rows tiles.pool
      (g.contents tiles.disk) tiles.contents

  pub stay-same : (tiles : Tiles H T hashes g)
      → ((c : List ℕ) → g.left_since tiles.disk (g.clock_at tiles.disk) c
      → g.may_leave tiles.disk c) → TilesStay tiles tiles
  stay-same tiles only_now = record {
    only_reads = nothing_read g tiles.disk only_now;
    rows = filled-same hashes.hash tiles.rows;
    adopted = refl;
    stored = refl;
  }

  pub stay-on : (old mid new : Tiles H T hashes g) → TilesStay old mid → TilesStay mid new
      → TilesStay old new
  stay-on old mid new first second = record {
    only_reads = only_read_on g old.disk mid.disk new.disk first.only_reads second.only_reads;
    rows = filled-on hashes.hash old.rows mid.rows new.rows first.rows second.rows;
    adopted = second.adopted ∙ first.adopted;
    stored = second.stored ∙ first.stored;
  }
