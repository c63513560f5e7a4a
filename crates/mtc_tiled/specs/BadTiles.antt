-- The first tile of a tree that a file of tiles has not.
use Rattle.std.specs.Prelude.{ℕ, zero, suc, ◌+◌, ◌*◌, ◌/◌, ◌^◌, ◌&&◌, nat_le, nat_lt, Bool, true}
use Rattle.std.specs.Prelude.{List, [], ◌∷◌, ◌++◌, length, Option, None, Some, codes}
use Rattle.std.specs.Prelude.{if◌then◌else◌}
use Rattle.std.specs.Fmt.{decimal}
use Rattle.std.specs.Str.{bytes_eq}
use Rattle.byte_formats.specs.Types.{Hash, HashFunction, Text}
use Rattle.disk_core.specs.Disk.{part}
use Rattle.tile_store.specs.Contents.{hash_in}
use Rattle.tile_store.specs.Layout.{tile_at, tile_number}
use Rattle.tree_core.specs.Path.{part_of}
use Rattle.tree_core.specs.Tree.{root_of}
use Rattle.mtc_command.specs.Answers.{bad_tile}
use Rattle.mtc_command.specs.Steps.{Outcome, answers}

-- The first so many hashes of a tile are those of these leaf hashes.
unfoldable pub has_hashes : HashFunction → List Hash → ℕ → ℕ → Text → ℕ → Bool
has_hashes h leaves level place tile zero = true
has_hashes h leaves level place tile (suc i) =
    bytes_eq (hash_in i tile) (root_of h (part_of leaves ((256 * place + i) * 256 ^ level)
    ((256 * place + i + 1) * 256 ^ level))) && has_hashes h leaves level place tile i

-- The file has the tile.
unfoldable pub has_tile : HashFunction → List Hash → Text → ℕ → ℕ → Bool
has_tile h leaves bytes level place = nat_le (tile_at level place + 8192) (length bytes)
    && has_hashes h leaves level place (part (tile_at level place) 8192 bytes) 256

-- The first so many tiles of a level.
unfoldable pub tiles_at : ℕ → ℕ → List (ℕ × ℕ)
tiles_at level zero = []
tiles_at level (suc place) = (level, place) ∷ tiles_at level place

-- The tiles that so many leaves fill, fewer than 2^32.
unfoldable pub full_tiles : ℕ → List (ℕ × ℕ)
full_tiles size =
    tiles_at 0 (size / 256) ++ (tiles_at 1 (size / 65536) ++ tiles_at 2 (size / 16777216))

-- Of two tiles the one that becomes full first.
abbrev pub sooner_of : ℕ × ℕ → Option (ℕ × ℕ) → Option (ℕ × ℕ)
sooner_of tile None = Some tile
sooner_of tile (Some other) =
    if nat_lt (tile_number other.0 other.1) (tile_number tile.0 tile.1) then Some other
    else Some tile

-- Of the tiles that aren't there the one that becomes full first.
unfoldable pub first_missing : (ℕ → ℕ → Bool) → List (ℕ × ℕ) → Option (ℕ × ℕ)
first_missing has [] = None
first_missing has (tile ∷ tiles) =
    if has tile.0 tile.1 then first_missing has tiles
    else sooner_of tile (first_missing has tiles)

-- Of the tree over these leaf hashes: the level and the index of the first tile up to this size
-- that the file has not, if there is one.
unfoldable pub first_bad_tile : HashFunction → List Hash → ℕ → Text → Option (ℕ × ℕ)
first_bad_tile h leaves size tiles = first_missing (has_tile h leaves tiles) (full_tiles size)

-- A journal whose file of tiles doesn't have this one of them is refused.
abbrev pub unless_missing : Text → Option (ℕ × ℕ) → Outcome → Outcome
unless_missing journal None next = next
unless_missing journal (Some tile) next = answers (bad_tile journal tile.0 tile.1)

-- The line of tiles that were stored, up to this size.
abbrev pub tiled_line : ℕ → Text
tiled_line size = codes "tiled " ++ (decimal size ++ codes "\n")
