-- What writing tiles leaves of a file.
use Rattle.std.specs.Prelude.{◌≡◌, ℕ, ◌*◌, ◌^◌, ◌≤◌, ◌<◌, min, max, List, length, take, Option}
use Rattle.std.specs.Prelude.{Some, is_some, option_map, drop}
use Rattle.byte_formats.specs.Types.{Hash, HashFunction, Text}
use Rattle.disk_core.specs.Disk.{overwritten, part}
use Rattle.disk_core.specs.Times.{LeavesOnly}
use Rattle.disk_core.specs.declared.disk.Disk.{Ghosts}
use Rattle.tile_store.specs.Contents.{IsTile}
use Rattle.tile_store.specs.Layout.{IsFull, tile_at, tile_number, tiles_in}
use Rattle.tree_cache.specs.Rows.{AreRowsOf, RowsState, count_of, filled_of, gone_at}
use Rattle.tree_cache.specs.Tiled.{gone_of}

-- The bytes before an offset stay, and the file gets no shorter.
pub record KeepsPrefix (place : ℕ) (old new : Text) : Type 0 where
  pub no_shorter : length old ≤ length new
  pub prefix : take (min place (length old)) new ≡ take place old

-- A crash state from before, but for what follows an offset.
pub record IsCrashStateAfter {T : Type 0} (g : Ghosts T) (old : T) (place : ℕ) (crash_state : Text)
    : Type 0 where
  pub before : Text
  pub left : g.may_leave old before
  pub keeps : KeepsPrefix place before crash_state

-- The bytes from an offset on are what they were, as far as the model knows them.
abbrev pub KeepsAfter : {T : Type 0} → Ghosts T → ℕ → T → T → Type 0
KeepsAfter g place old new = (before now : Text) → g.contents old ≡ Some before
    → g.contents new ≡ Some now → drop place now ≡ drop place before

-- What writing from an offset on leaves of a disk, at any time, even if a call fails.
pub record WritesAfter {T : Type 0} (g : Ghosts T) (place : ℕ) (old new : T) : Type 0 where
  pub any_time : LeavesOnly g old new (IsCrashStateAfter g old place)
  pub contents : is_some (g.contents new) ≡ is_some (g.contents old)
  pub known : g.known old ≤ g.known new

-- The rows have the nodes of the tiles of the numbers from one on up to another, and none of them
-- is gone: those that are gone stand in the tiles of other leaves, whose numbers are lower.
pub record HaveTiles (rows : RowsState) (from to : ℕ) : Type 0 where
  pub few : count_of rows < 2 ^ 32
  pub full : to ≤ tiles_in (filled_of rows)
  pub adopted : ℕ
  pub following : tiles_in adopted ≤ from
  pub gone : (level : ℕ) → gone_at rows level ≡ gone_of adopted level

-- The tile of each list for which the rows stand was written over the bytes.
pub record IsTileWritten (h : HashFunction) (rows : RowsState) (level place : ℕ)
    (old new : Option Text) : Type 0 where
  pub tile : Text
  pub size : length tile ≡ 8192
  pub contents : new ≡ option_map (overwritten (tile_at level place) tile) old
  pub is : (leaves : List Hash) → AreRowsOf h leaves rows → IsTile h leaves level place tile

-- The tiles of the first so many numbers, among those that these leaves fill, are in the file.
abbrev pub HoldsFirst : HashFunction → List Hash → ℕ → Text → Type 0
HoldsFirst h leaves count bytes = (level place : ℕ) → level ≤ 2
    → tile_number level place < count → IsFull (length leaves) level place
    → IsTile h leaves level place (part (tile_at level place) 8192 bytes)

-- The tiles of the numbers from one on up to another were written, and the known length comes to
-- their end: where the file had those before them, it has all up to there. The bytes after them
-- stay.
pub record TilesAreWritten {T : Type 0} (g : Ghosts T) (h : HashFunction) (rows : RowsState)
    (from to : ℕ) (old new : T) : Type 0 where
  pub known : g.known new ≡ max (8192 * to) (g.known old)
  pub holds : (before after : Text) → g.contents old ≡ Some before → g.contents new ≡ Some after
      → (leaves : List Hash) → AreRowsOf h leaves rows → HoldsFirst h leaves from before
      → HoldsFirst h leaves to after
  pub after : KeepsAfter g (8192 * max from to) old new
