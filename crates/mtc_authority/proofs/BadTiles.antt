-- The first bad tile of a log is reported: the search of the outcome finds the tile that an opening
-- refuses, and none where an opening finds all.
use Rattle.std.proofs.Common.{◌≡◌, ◌<◌, ◌^◌, ℕ, List, None, Some}
use Rattle.std.specs.Prelude.{map}
use Rattle.byte_formats.specs.Types.{Hash, HashFunction, Text}
use Rattle.issuance_log.specs.Folds.{LogState}
use Rattle.issuance_log.specs.Openings.{HasItsTiles}
use Rattle.tile_store.specs.Causes.{IsFirstBad}
use Rattle.tree_core.specs.Tree.{leaf_hash}
use Rattle.mtc_authority.specs.BadTiles.{first_bad}
use Rattle.mtc_tiled.proofs.BadTiles as tree
pub use Rattle.mtc_tiled.proofs.BadTiles.{none_full}

module _ (h : HashFunction) (s : LogState) (tiles : Text) where
  abbrev leaves : List Hash
  leaves = map (leaf_hash h) s.entries

  -- it has all
  pub none_bad : HasItsTiles h s tiles → first_bad h s tiles ≡ None
  unfolding first_bad
  none_bad = tree.none_bad h leaves s.tiled tiles

  -- and only then there is no bad one
  pub has_all : s.tiled < 2 ^ 32 → first_bad h s tiles ≡ None → HasItsTiles h s tiles
  unfolding first_bad
  has_all = tree.has_all h leaves s.tiled tiles

  -- this is the first one that it has not
  pub bad_is : (level place : ℕ) → s.tiled < 2 ^ 32
      → IsFirstBad h leaves tiles 0 s.tiled level place
      → first_bad h s tiles ≡ Some (level, place)
  unfolding first_bad
  bad_is = tree.bad_is h leaves s.tiled tiles
