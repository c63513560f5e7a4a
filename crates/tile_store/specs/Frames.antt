-- What the frames of the pool hold.
use Rattle.std.specs.Prelude.{◌≡◌, ℕ, false}
use Rattle.byte_formats.specs.Types.{Text}
use Rattle.disk_core.specs.Disk.{part}
use Rattle.frame_pool.specs.Frames.{HoldsKey, PoolState, frame_at, pinned_at}
use Rattle.frame_pool.specs.declared.key.TileKey.{TileKey}
use Rattle.tile_store.specs.Layout.{tile_at}

-- Each frame that holds a key has the bytes of that tile in the file.
abbrev pub FramesHold : Text → PoolState → Type 0
FramesHold bytes pool = (slot : ℕ) (key : TileKey) → HoldsKey pool slot key
    → frame_at pool slot ≡ part (tile_at key.level key.place) 8192 bytes

-- No frame is pinned.
abbrev pub HasNoPins : PoolState → Type 0
HasNoPins pool = (slot : ℕ) → pinned_at pool slot ≡ false

-- A frame holds this tile.
pub record IsHeld (pool : PoolState) (level place : ℕ) : Type 0 where
  pub slot : ℕ
  pub holds : HoldsKey pool slot (record { level = level; place = place })
