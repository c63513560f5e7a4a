-- The first tile of a log that a file of tiles has not.
use Rattle.std.specs.Prelude.{ℕ, map, Option}
use Rattle.byte_formats.specs.Types.{HashFunction, Text}
use Rattle.issuance_log.specs.Folds.{LogState}
use Rattle.tree_core.specs.Tree.{leaf_hash}
use Rattle.mtc_tiled.specs.BadTiles.{first_bad_tile}

-- The level and the index of the first tile of the log's last size that the file has not, if there
-- is one.
unfoldable pub first_bad : HashFunction → LogState → Text → Option (ℕ × ℕ)
first_bad h s tiles = first_bad_tile h (map (leaf_hash h) s.entries) s.tiled tiles
