-- What is read of a file that is opened as a log.
use Rattle.std.specs.Prelude.{◌≡◌, ◌≢◌, ℕ, ◌<◌, ◌^◌, map, Result, Ok, IfSome}
use Rattle.byte_formats.specs.Types.{Text, HashFunction}
use Rattle.disk_core.specs.declared.disk.Disk.{Ghosts}
use Rattle.journal_core.specs.Folds.{Found, read_by, AreRefused, IsCauseOf}
use Rattle.journal_core.specs.declared.error.OpenError.TheVariants as open_error
use Rattle.mtc_io.specs.Counts.{Rose}
use Rattle.tile_store.specs.Causes.{IsFirstBad, IsNewTile, StandsIn}
use Rattle.tile_store.specs.declared.error.TileError.{TileError}
use Rattle.tile_store.specs.declared.error.TileError.TheVariants as tile_error
use Rattle.tree_core.specs.Tree.{leaf_hash}
use Rattle.issuance_log.specs.Folds.{LogState, log_fold}
use Rattle.issuance_log.specs.declared.error.LogOpenError.{LogOpenError}
use Rattle.issuance_log.specs.declared.error.LogOpenError.TheVariants.{BadRecord, Tile, Open}

-- a log that was read, and the records of its journal
abbrev pub FoundLog : Type 0
FoundLog = Found LogState

-- The log in a file with these bytes, or the first fault.
abbrev pub log_read : HashFunction → Text → Result FoundLog LogOpenError
log_read h bytes = read_by (log_fold h) bytes

-- the file of tiles has those of the last size, each with the hashes of the entries
abbrev pub HasItsTiles : HashFunction → LogState → Text → Type 0
HasItsTiles h s tiles = (level place : ℕ) → IsNewTile 0 s.tiled level place
    → StandsIn h (map (leaf_hash h) s.entries) tiles level place

-- The bytes of the journal are read as a log, and the tile is the first of its last size that the
-- file of tiles has not. That size is below 2^32.
pub record IsBadTile (h : HashFunction) (bytes tiles : Text) (level place : ℕ) : Type 0 where
  pub found : FoundLog
  pub is : log_read h bytes ≡ Ok found
  pub few : found.state.tiled < 2 ^ 32
  pub bad : IsFirstBad h (map (leaf_hash h) found.state.entries) tiles 0 found.state.tiled
      level place

-- the cause of a refusal of the journal, over the disk before the call and after it: the bytes, a
-- failure, or memory that ran out; tiles are none
abbrev pub HasLogCause : {D : Type 0} → Ghosts D → HashFunction → D → D → LogOpenError → Type 0
HasLogCause g h old new (BadRecord k) = AreRefused (log_fold h) (g.contents old) (BadRecord k)
HasLogCause g h old new (Tile why) = ⊥
HasLogCause g h old new (Open why) = IsCauseOf g (log_fold h) old new why

-- the cause of a refusal of the tiles: a failure of their disk, or a bad tile
abbrev pub HasTileCause : {D T : Type 0} → Ghosts D → Ghosts T → HashFunction → D → T → T
    → TileError → Type 0
HasTileCause g k h disk old new tile_error.Failed = Rose (k.faults old) (k.faults new)
HasTileCause g k h disk old new (tile_error.BadTile level place) =
    IfSome (g.contents disk) (λ bytes. IfSome (k.contents old) (λ tiles.
    IsBadTile h bytes tiles level place))

-- the cause of a refusal, by both disks before the call and after it
abbrev pub HasOpenCause : {D T : Type 0} → Ghosts D → Ghosts T → HashFunction → D → D → T → T
    → LogOpenError → Type 0
HasOpenCause g k h old new tiles tiles' (BadRecord n) = HasLogCause g h old new (BadRecord n)
HasOpenCause g k h old new tiles tiles' (Tile why) = HasTileCause g k h old tiles tiles' why
HasOpenCause g k h old new tiles tiles' (Open why) = HasLogCause g h old new (Open why)

-- no failure was counted, unless it is the refusal
abbrev pub LogCountsNoOther : {D : Type 0} → Ghosts D → D → D → LogOpenError → Type 0
LogCountsNoOther g old new why = why ≢ Open open_error.Failed → g.faults new ≡ g.faults old

-- nor of the disk of the tiles
abbrev pub TilesCountNoOther : {T : Type 0} → Ghosts T → T → T → LogOpenError → Type 0
TilesCountNoOther k old new why = why ≢ Tile tile_error.Failed → k.faults new ≡ k.faults old
