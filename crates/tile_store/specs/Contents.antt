-- What tiles hold (RFC 9162, section 2.1.1, of the hashes).
use Rattle.std.specs.Prelude.{◌≡◌, ℕ, zero, suc, ◌+◌, ◌*◌, ◌/◌, ◌%◌, ◌^◌, ◌<◌, List, [], ◌∷◌, ◌++◌}
use Rattle.std.specs.Prelude.{length}
use Rattle.byte_formats.specs.Types.{Hash, HashFunction, Text}
use Rattle.disk_core.specs.Disk.{part}
use Rattle.tile_store.specs.Layout.{IsFull, tile_at}
use Rattle.tree_core.specs.Path.{part_of}
use Rattle.tree_core.specs.Tree.{root_of}

-- Hash i of some bytes.
abbrev pub hash_in : ℕ → Text → Hash
hash_in i bytes = part (32 * i) 32 bytes

-- The bytes are this tile of these leaf hashes.
pub record IsTile (h : HashFunction) (leaves : List Hash) (level place : ℕ) (tile : Text)
    : Type 0 where
  pub size : length tile ≡ 8192
  pub hashes : (i : ℕ) → i < 256 → hash_in i tile ≡ root_of h
      (part_of leaves ((256 * place + i) * 256 ^ level) ((256 * place + i + 1) * 256 ^ level))

-- The file has each tile that the first so many leaves fill.
abbrev pub HoldsTiles : HashFunction → List Hash → ℕ → Text → Type 0
HoldsTiles h leaves size bytes = (level place : ℕ) → IsFull size level place
    → IsTile h leaves level place (part (tile_at level place) 8192 bytes)

-- The first so many leaf hashes in the tiles of level 0.
unfoldable pub stored_leaves : ℕ → Text → List Hash
stored_leaves zero bytes = []
stored_leaves (suc n) bytes =
    stored_leaves n bytes ++ part (tile_at 0 (n / 256) + 32 * (n % 256)) 32 bytes ∷ []
