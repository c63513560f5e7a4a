-- What reading tiles back finds.
use Rattle.std.specs.Prelude.{◌≡◌, ℕ, ◌+◌, ◌≤◌, ◌<◌, ◌⊎◌, List, length, Some}
use Rattle.byte_formats.specs.Types.{Hash, HashFunction, Text}
use Rattle.disk_core.specs.Disk.{part}
use Rattle.disk_core.specs.Times.{OnlyReads}
use Rattle.disk_core.specs.declared.disk.Disk.{Ghosts}
use Rattle.frame_pool.specs.Frames.{HoldsKey, PoolState}
use Rattle.frame_pool.specs.declared.key.TileKey.{TileKey}
use Rattle.mtc_io.specs.Counts.{Rose}
use Rattle.tile_store.specs.Contents.{IsTile}
use Rattle.tile_store.specs.Frames.{FramesHold, HasNoPins}
use Rattle.tile_store.specs.Layout.{tile_at, tile_number}
use Rattle.tile_store.specs.declared.error.TileError.{TileError}
use Rattle.tile_store.specs.declared.error.TileError.TheVariants.{BadTile, Failed}
use Rattle.tree_cache.specs.Rows.{AreRowsOf, RowsState}

-- The tiles of the numbers from one on up to another are in the file.
abbrev pub HoldsBetween : HashFunction → List Hash → ℕ → ℕ → Text → Type 0
HoldsBetween h leaves from to bytes = (level place : ℕ) → level ≤ 2
    → from ≤ tile_number level place → tile_number level place < to
    → IsTile h leaves level place (part (tile_at level place) 8192 bytes)

-- The device and the pool after tiles were read and compared of which no frame holds one: no frame
-- holds another tile than before, and none is pinned.
pub record HaveCompared {T : Type 0} (g : Ghosts T) (old new : T) (before after : PoolState)
    : Type 0 where
  pub only_reads : OnlyReads g old new
  pub frames : (b : Text) → g.contents old ≡ Some b → FramesHold b before → FramesHold b after
  pub keys : (slot : ℕ) (key : TileKey) → HoldsKey after slot key → HoldsKey before slot key
  pub free : HasNoPins after
  pub count : length after.keys ≡ length before.keys

-- What holds of each list that the rows are those of, over the bytes of the device, as the model
-- knows them, where the frames have what is there.
abbrev pub OverEach : {T : Type 0} → Ghosts T → HashFunction → RowsState → T → PoolState
    → (Text → List Hash → Type 0) → Type 0
OverEach g h rows disk pool P = (b : Text) → g.contents disk ≡ Some b → FramesHold b pool
    → (leaves : List Hash) → AreRowsOf h leaves rows → P b leaves

-- The tiles of these numbers are in the file.
abbrev pub HaveMatched : {T : Type 0} → Ghosts T → HashFunction → RowsState → ℕ → ℕ → T
    → PoolState → Type 0
HaveMatched g h rows from to disk pool =
    OverEach g h rows disk pool (λ b leaves. HoldsBetween h leaves from to b)

-- The tile is the first of these numbers that is not in the file: it ends past its end, or has
-- other hashes.
pub record IsFirstOther {T : Type 0} (g : Ghosts T) (h : HashFunction) (rows : RowsState)
    (from to : ℕ) (disk : T) (pool : PoolState) (level place : ℕ) : Type 0 where
  pub low : level ≤ 2
  pub following : from ≤ tile_number level place
  pub below : tile_number level place < to
  pub before : HaveMatched g h rows from (tile_number level place) disk pool
  pub other : OverEach g h rows disk pool (λ b leaves. (length b < tile_at level place + 8192)
      ⊎ (IsTile h leaves level place (part (tile_at level place) 8192 b) → ⊥))

-- Why the tiles of these numbers were not all found.
abbrev pub HasTileReason : {T : Type 0} → Ghosts T → HashFunction → RowsState → ℕ → ℕ → T → T
    → PoolState → TileError → Type 0
HasTileReason g h rows from to old new pool Failed = Rose (g.faults old) (g.faults new)
HasTileReason g h rows from to old new pool (BadTile level place) =
    (g.faults new ≡ g.faults old) × IsFirstOther g h rows from to old pool level place

-- A tile that was not found begins within the known length.
abbrev pub BeginsBelow : ℕ → TileError → Type 0
BeginsBelow known Failed = Unit {0}
BeginsBelow known (BadTile level place) = tile_at level place ≤ known
