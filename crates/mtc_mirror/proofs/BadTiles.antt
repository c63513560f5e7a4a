-- The first bad tile of a mirror is reported: the search of the outcome finds the tile that an
-- opening refuses, and none where an opening finds all.
use Rattle.std.proofs.Common.{◌≡◌, ◌<◌, ◌^◌, ℕ, List, None, Some}
use Rattle.std.specs.Prelude.{map}
use Rattle.byte_formats.specs.Types.{Hash, HashFunction, Text}
use Rattle.mirror_core.specs.Folds.{MirrorState, entries_in_mirror}
use Rattle.mirror_core.specs.Openings.{HasMirrorTiles}
use Rattle.tile_store.specs.Causes.{IsFirstBad}
use Rattle.tree_core.specs.Tree.{leaf_hash}
use Rattle.mtc_mirror.specs.Works.{first_bad_in_mirror}
use Rattle.mtc_tiled.proofs.BadTiles as tree

module _ (h : HashFunction) (s : MirrorState) (tiles : Text) where
  abbrev leaves : List Hash
  leaves = map (leaf_hash h) (entries_in_mirror s)

  -- it has all
  pub mirror_has_all : HasMirrorTiles h s tiles → first_bad_in_mirror h s tiles ≡ None
  unfolding first_bad_in_mirror
  mirror_has_all = tree.none_bad h leaves s.tiled tiles

  -- and only then there is no bad one
  pub mirror_none_bad : s.tiled < 2 ^ 32 → first_bad_in_mirror h s tiles ≡ None
      → HasMirrorTiles h s tiles
  unfolding first_bad_in_mirror
  mirror_none_bad = tree.has_all h leaves s.tiled tiles

  -- this is the first one that it has not
  pub mirror_bad_is : (level place : ℕ) → s.tiled < 2 ^ 32
      → IsFirstBad h leaves tiles 0 s.tiled level place
      → first_bad_in_mirror h s tiles ≡ Some (level, place)
  unfolding first_bad_in_mirror
  mirror_bad_is = tree.bad_is h leaves s.tiled tiles
