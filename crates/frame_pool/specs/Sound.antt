-- What holds of every pool.
use Rattle.std.specs.Prelude.{◌≡◌, ℕ, ◌<◌, ◌≤◌, false, length, Some, None}
use Rattle.std.specs.List.{All, Contains}
use Rattle.frame_pool.specs.Frames.{PoolState, key_at, pinned_at}
use Rattle.frame_pool.specs.declared.key.TileKey.{TileKey}

-- There are some frames, and each has a key or none, a pin or none, and one index in the order. No
-- two frames have one key, and a frame without a key has no pin.
pub record IsSoundPool (pool : PoolState) : Type 0 where
  pub some : 1 ≤ length pool.keys
  pub few : length pool.keys ≤ 65536
  pub pins : length pool.pins ≡ length pool.keys
  pub frames : length pool.frames ≡ length pool.keys
  pub indices : length pool.order ≡ length pool.keys
  pub order : (slot : ℕ) → slot < length pool.keys → Contains pool.order slot
  pub slots : All (λ slot. slot < length pool.keys) pool.order
  pub distinct : (one other : ℕ) (key : TileKey) → one < length pool.keys
      → other < length pool.keys → key_at pool one ≡ Some key → key_at pool other ≡ Some key
      → one ≡ other
  pub empty : (slot : ℕ) → key_at pool slot ≡ None → pinned_at pool slot ≡ false
