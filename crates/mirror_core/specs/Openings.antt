-- What is read of a file that is opened as a mirror.
use Rattle.std.specs.Prelude.{◌≡◌, ◌≢◌, ℕ, ◌<◌, ◌^◌, map, Option, Some, Result, Ok, IfSome}
use Rattle.byte_formats.specs.Types.{HashFunction, Text}
use Rattle.disk_core.specs.declared.disk.Disk.{Ghosts}
use Rattle.journal_core.specs.Folds.{AreRefused, Found, IsCauseOf, read_by}
use Rattle.journal_core.specs.declared.error.OpenError.TheVariants as open_error
use Rattle.mtc_io.specs.Counts.{Rose}
use Rattle.state_journal.specs.declared.error.StateOpenError.{StateOpenError}
use Rattle.state_journal.specs.declared.error.StateOpenError.TheVariants as state
use Rattle.tile_store.specs.Causes.{IsFirstBad, IsNewTile, StandsIn}
use Rattle.tile_store.specs.declared.error.TileError.{TileError}
use Rattle.tile_store.specs.declared.error.TileError.TheVariants as tile_error
use Rattle.tree_core.specs.Tree.{leaf_hash}
use Rattle.mirror_core.specs.Folds.{MirrorState, entries_in_mirror, mirror_fold}
use Rattle.mirror_core.specs.declared.error.MirrorOpenError.{MirrorOpenError}
use Rattle.mirror_core.specs.declared.error.MirrorOpenError.TheVariants.{BadRecord, Open, Tile}

-- Why a journal isn't opened as a mirror's, by why its records aren't read, and why tiles were not
-- adopted.
abbrev pub mirror_open_refusal : StateOpenError → Option TileError → MirrorOpenError
mirror_open_refusal (state.BadRecord number) refusal = BadRecord number
mirror_open_refusal (state.Open open_error.Memory) (Some tile_error.Failed) =
    Tile tile_error.Failed
mirror_open_refusal (state.Open why) refusal = Open why

-- a mirror that was read, and the records of its journal
abbrev pub FoundMirror : Type 0
FoundMirror = Found MirrorState

-- The mirror in a file with these bytes, or the first fault.
abbrev pub mirror_read : HashFunction → Text → Result FoundMirror MirrorOpenError
mirror_read h bytes = read_by (mirror_fold h) bytes

-- the file of tiles has those of the last size, each with the hashes of the entries
abbrev pub HasMirrorTiles : HashFunction → MirrorState → Text → Type 0
HasMirrorTiles h s tiles = (level place : ℕ) → IsNewTile 0 s.tiled level place
    → StandsIn h (map (leaf_hash h) (entries_in_mirror s)) tiles level place

-- The bytes of the journal are read as a mirror, and the tile is the first of its last size that
-- the file of tiles has not. That size is below 2^32.
pub record IsBadMirrorTile (h : HashFunction) (bytes tiles : Text) (level place : ℕ) : Type 0 where
  pub found : FoundMirror
  pub is : mirror_read h bytes ≡ Ok found
  pub few : found.state.tiled < 2 ^ 32
  pub bad : IsFirstBad h (map (leaf_hash h) (entries_in_mirror found.state)) tiles 0
      found.state.tiled level place

-- the cause of a refusal of the journal, over the disk before the call and after it: the bytes, a
-- failure, or memory that ran out; tiles are none
abbrev pub HasMirrorCause : {D : Type 0} → Ghosts D → HashFunction → D → D → MirrorOpenError
    → Type 0
HasMirrorCause g h old new (BadRecord k) =
    AreRefused (mirror_fold h) (g.contents old) (BadRecord k)
HasMirrorCause g h old new (Tile why) = ⊥
HasMirrorCause g h old new (Open why) = IsCauseOf g (mirror_fold h) old new why

-- the cause of a refusal of the tiles: a failure of their disk, or a bad tile
abbrev pub HasMirrorTileCause : {D T : Type 0} → Ghosts D → Ghosts T → HashFunction → D → T → T
    → TileError → Type 0
HasMirrorTileCause g k h disk old new tile_error.Failed = Rose (k.faults old) (k.faults new)
HasMirrorTileCause g k h disk old new (tile_error.BadTile level place) =
    IfSome (g.contents disk) (λ bytes. IfSome (k.contents old) (λ tiles.
    IsBadMirrorTile h bytes tiles level place))

-- the cause of a refusal, by both disks before the call and after it
abbrev pub HasMirrorOpenCause : {D T : Type 0} → Ghosts D → Ghosts T → HashFunction → D → D → T → T
    → MirrorOpenError → Type 0
HasMirrorOpenCause g k h old new tiles tiles' (BadRecord n) =
    HasMirrorCause g h old new (BadRecord n)
HasMirrorOpenCause g k h old new tiles tiles' (Tile why) =
    HasMirrorTileCause g k h old tiles tiles' why
HasMirrorOpenCause g k h old new tiles tiles' (Open why) = HasMirrorCause g h old new (Open why)

-- no failure was counted, unless it is the refusal
abbrev pub MirrorCountsNoOther : {D : Type 0} → Ghosts D → D → D → MirrorOpenError → Type 0
MirrorCountsNoOther g old new why =
    why ≢ Open open_error.Failed → g.faults new ≡ g.faults old

-- nor of the disk of the tiles
abbrev pub MirrorTilesCountNoOther : {T : Type 0} → Ghosts T → T → T → MirrorOpenError → Type 0
MirrorTilesCountNoOther k old new why =
    why ≢ Tile tile_error.Failed → k.faults new ≡ k.faults old
