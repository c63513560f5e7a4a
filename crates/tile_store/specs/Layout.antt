-- Where tiles stand in their file. A tile of level l and index t has 256 hashes: hash i is that of
-- the full subtree of 256^l leaves with number 256 * t + i.
use Rattle.std.specs.Prelude.{ℕ, zero, suc, ◌+◌, ◌-◌, ◌*◌, ◌/◌, ◌%◌, ◌^◌, ◌≤◌}

-- The number of a tile in the order in which tiles become full. Fewer than 2^32 leaves fill none of
-- level 3.
unfoldable pub tile_number : ℕ → ℕ → ℕ
tile_number zero place = place + place / 256 + place / 65536
tile_number (suc zero) place = 256 * (place + 1) + place + place / 256
tile_number (suc (suc level)) place = 65792 * (place + 1) + place

-- Where the bytes of a tile begin.
abbrev pub tile_at : ℕ → ℕ → ℕ
tile_at level place = 8192 * tile_number level place

-- The first so many leaves fill the tile.
abbrev pub IsFull : ℕ → ℕ → ℕ → Type 0
IsFull size level place = (place + 1) * 256 ^ (level + 1) ≤ size

-- How many tiles the first so many leaves fill, and where these end.
abbrev pub tiles_in : ℕ → ℕ
tiles_in size = size / 256 + size / 65536 + size / 16777216

abbrev pub tiles_end : ℕ → ℕ
tiles_end size = 8192 * tiles_in size

-- The level and the index of the tile of a node. It has 2^(8 - level % 8) nodes of this level.
abbrev pub tile_level : ℕ → ℕ
tile_level level = level / 8

abbrev pub tile_offset : ℕ → ℕ → ℕ
tile_offset level place = place / 2 ^ (8 - level % 8)
