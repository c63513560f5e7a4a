-- What is read of a file that is opened as a journal of items.
use Rattle.std.specs.Prelude.{◌≡◌, ◌≢◌, ℕ, ◌<◌, ◌^◌, List, Option, Some, Ok, IfSome}
use Rattle.byte_formats.specs.Types.{HashFunction, Text}
use Rattle.disk_core.specs.declared.disk.Disk.{Ghosts}
use Rattle.journal_core.specs.Folds.{AreRefused, Found, IsCauseOf, read_by}
use Rattle.journal_core.specs.declared.error.OpenError.TheVariants as open_error
use Rattle.mtc_io.specs.Counts.{Rose}
use Rattle.state_journal.specs.declared.error.StateOpenError.{StateOpenError}
use Rattle.state_journal.specs.declared.error.StateOpenError.TheVariants as state
use Rattle.tile_store.specs.Causes.{IsFirstBad, IsNewTile, StandsIn}
use Rattle.tile_store.specs.declared.error.TileError.{TileError}
use Rattle.tile_store.specs.declared.error.TileError.TheVariants as tile_error
use Rattle.tiled_items.specs.Blocks.{all_items}
use Rattle.tiled_items.specs.Held.{leaves_of_items}
use Rattle.tiled_items.specs.Rules.{rules_fold}
use Rattle.tiled_items.specs.declared.error.TiledOpenError.{TiledOpenError}
use Rattle.tiled_items.specs.declared.error.TiledOpenError.TheVariants.{BadRecord, Open, Tile}
use Rattle.tiled_items.specs.declared.rules.ItemRules.{Ghosts as Rules}

-- Why a journal isn't opened, by why its records aren't read, and why tiles were not adopted.
abbrev pub tiled_open_refusal : StateOpenError → Option TileError → TiledOpenError
tiled_open_refusal (state.BadRecord number) refusal = BadRecord number
tiled_open_refusal (state.Open open_error.Memory) (Some tile_error.Failed) =
    Tile tile_error.Failed
tiled_open_refusal (state.Open why) refusal = Open why

-- the file of tiles has those of this size, each with the hashes of the entries of these items
abbrev pub HoldsItemTiles : HashFunction → List (Text × Text) → ℕ → Text → Type 0
HoldsItemTiles h items tiled tiles = (level place : ℕ) → IsNewTile 0 tiled level place
    → StandsIn h (leaves_of_items h items) tiles level place

module _ {R : Type 0} (rules : Rules R) where
  -- The bytes of the journal are read, and the tile is the first of its last size that the file of
  -- tiles has not. That size is below 2^32.
  pub record IsBadItemTile (h : HashFunction) (bytes tiles : Text) (level place : ℕ) : Type 0 where
    pub found : Found rules.View
    pub is : read_by (rules_fold rules h) bytes ≡ Ok found
    pub few : rules.tiled found.state < 2 ^ 32
    pub bad : IsFirstBad h (leaves_of_items h (all_items rules.first rules.added found.records))
        tiles 0 (rules.tiled found.state) level place

  module _ {D T : Type 0} (g : Ghosts D) (k : Ghosts T) (h : HashFunction) where
    -- the cause of a refusal of the tiles: a failure of their disk, or a bad tile
    abbrev pub HasTileRefusalCause : D → T → T → TileError → Type 0
    HasTileRefusalCause disk old new tile_error.Failed = Rose (k.faults old) (k.faults new)
    HasTileRefusalCause disk old new (tile_error.BadTile level place) =
        IfSome (g.contents disk) (λ bytes. IfSome (k.contents old) (λ tiles.
        IsBadItemTile h bytes tiles level place))

    -- the cause of a refusal, by both disks before the call and after it: the bytes, a failure, or
    -- memory that ran out
    abbrev pub HasTiledOpenCause : D → D → T → T → TiledOpenError → Type 0
    HasTiledOpenCause old new tiles tiles' (BadRecord n) =
        AreRefused (rules_fold rules h) (g.contents old) (state.BadRecord n)
    HasTiledOpenCause old new tiles tiles' (Tile why) = HasTileRefusalCause old tiles tiles' why
    HasTiledOpenCause old new tiles tiles' (Open why) = IsCauseOf g (rules_fold rules h) old new why

-- no failure was counted, unless it is the refusal
abbrev pub TiledCountsNoOther : {D : Type 0} → Ghosts D → D → D → TiledOpenError → Type 0
TiledCountsNoOther g old new why = why ≢ Open open_error.Failed → g.faults new ≡ g.faults old

-- nor of the disk of the tiles
abbrev pub TileDiskCountsNoOther : {T : Type 0} → Ghosts T → T → T → TiledOpenError → Type 0
TileDiskCountsNoOther k old new why = why ≢ Tile tile_error.Failed → k.faults new ≡ k.faults old
