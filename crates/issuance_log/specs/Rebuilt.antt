-- What writing the tiles of a log again leaves of its journal, which is only read, and of the file
-- of its tiles.
use Rattle.std.specs.Prelude.{◌≡◌, ◌⊎◌, ℕ, ◌≤◌, map, IfSome, Result, Ok, Err}
use Rattle.byte_formats.specs.Types.{HashFunction, Text}
use Rattle.disk_core.specs.Times.{LeavesOnly, OnlyReads}
use Rattle.disk_core.specs.declared.disk.Disk.{Ghosts}
use Rattle.journal_core.specs.Format.{Represents}
use Rattle.journal_core.specs.Words.{AllRepresent}
use Rattle.mtc_io.specs.Counts.{Rose}
use Rattle.tile_store.specs.Causes.{IsFirstBad}
use Rattle.tile_store.specs.Contents.{HoldsTiles}
use Rattle.tile_store.specs.Layout.{tile_at, tiles_end}
use Rattle.tile_store.specs.Writing.{IsCrashStateAfter, KeepsAfter}
use Rattle.tile_store.specs.declared.error.TileError.TheVariants.{BadTile, Failed}
use Rattle.tree_core.specs.Tree.{leaf_hash}
use Rattle.issuance_log.specs.Folds.{LogState}
use Rattle.issuance_log.specs.Opened.{LogIsNotOpened}
use Rattle.issuance_log.specs.Openings.{FoundLog, log_read}
use Rattle.issuance_log.specs.declared.error.LogOpenError.{LogOpenError}
use Rattle.issuance_log.specs.declared.error.LogOpenError.TheVariants.{Tile}

-- ---- the journal

-- Its bytes are read as this log, and each crash leaves its records after that.
pub record IsLogFound {D : Type 0} (g : Ghosts D) (h : HashFunction) (bytes : Text) (journal' : D)
    (found : FoundLog) : Type 0 where
  pub is : log_read h bytes ≡ Ok found
  pub stands : Represents bytes found.records
  pub all : AllRepresent g journal' found.records

-- If the model knows its bytes they are those of a log that is so.
abbrev pub FindsLog : {D : Type 0} → Ghosts D → HashFunction → D → D → (LogState → Type 0) → Type 0
FindsLog g h journal journal' P = IfSome (g.contents journal) (λ bytes.
    (found : FoundLog) × (IsLogFound g h bytes journal' found × P found.state))

-- ---- the file of the tiles

-- The bytes have each tile of the log's last size.
abbrev pub HoldsItsTiles : HashFunction → LogState → Text → Type 0
HoldsItsTiles h s bytes = HoldsTiles h (map (leaf_hash h) s.entries) s.tiled bytes

module _ {T : Type 0} (k : Ghosts T) (h : HashFunction) (file file' : T) (s : LogState)
    (before : Text) where
  -- The tile was the first of the log's last size that the file didn't have. At any time a crash
  -- leaves what it might have left before, but for what follows the start of this tile.
  pub record WritesFromBad : Type 0 where
    pub level : ℕ
    pub place : ℕ
    pub bad : IsFirstBad h (map (leaf_hash h) s.entries) before 0 s.tiled level place
    pub any_time : LeavesOnly k file file' (IsCrashStateAfter k file (tile_at level place))

  -- The file was only read, or written from its first bad tile on. So at any time a crash leaves
  -- the tiles of the log's last size, if it would have left them before.
  pub record RewritesTiles : Type 0 where
    pub writes : OnlyReads k file file' ⊎ WritesFromBad
    pub keeps : ((c : Text) → k.may_leave file c → HoldsItsTiles h s c)
        → LeavesOnly k file file' (HoldsItsTiles h s)

  -- So it was, and each crash leaves the tiles of the log's last size. The bytes after these are as
  -- they were.
  pub record HasRebuiltTiles : Type 0 where
    pub rewrites : RewritesTiles
    pub holds : (c : Text) → k.may_leave file' c → HoldsItsTiles h s c
    pub after : KeepsAfter k (tiles_end s.tiled) file file'

-- ---- both

-- The refusal of a disk of tiles that failed.
abbrev pub tiles_failed : LogOpenError
tiles_failed = Tile Failed

module _ {D T : Type 0} (g : Ghosts D) (k : Ghosts T) (h : HashFunction) (journal journal' : D)
    (file file' : T) where
  -- The tiles of this size stand, without a failure of either disk. The size is the last one of the
  -- log in the journal. Without a size of tiles nothing was written.
  pub record TilesAreRebuilt (size : ℕ) : Type 0 where
    pub fine : g.faults journal' ≡ g.faults journal
    pub fine_tiles : k.faults file' ≡ k.faults file
    pub none : size ≡ 0 → OnlyReads k file file'
    pub reach : tiles_end size ≤ k.known file'
    pub found : FindsLog g h journal journal' (λ s. (s.tiled ≡ size)
        × IfSome (k.contents file) (HasRebuiltTiles k h file file' s))

  -- The disk of the tiles failed. It was only read, or the log in the journal was found, and its
  -- tiles are written from the first bad one on.
  pub record RebuildingFails : Type 0 where
    pub fine : g.faults journal' ≡ g.faults journal
    pub failed : Rose (k.faults file) (k.faults file')
    pub left : OnlyReads k file file' ⊎ FindsLog g h journal journal'
        (λ s. IfSome (k.contents file) (RewritesTiles k h file file' s))

  -- What is left by the answer. What is refused of a journal is what an opening of it refuses. A
  -- bad tile is no refusal.
  abbrev pub LeavesRebuilt : Result ℕ LogOpenError → Type 0
  LeavesRebuilt (Ok size) = TilesAreRebuilt size
  LeavesRebuilt (Err (Tile Failed)) = RebuildingFails
  LeavesRebuilt (Err (Tile (BadTile level place))) = ⊥
  LeavesRebuilt (Err why) = LogIsNotOpened g k h journal journal' file file' why
