-- What a pool of frames is to a caller.
use Rattle.std.specs.Prelude.{◌≡◌, ◌≢◌, ℕ, ◌<◌, ◌⊎◌, Bool, true, false, List, [], length}
use Rattle.std.specs.Prelude.{slice_index_or, slice_set, Option, Some, None}
use Rattle.byte_formats.specs.Types.{Text}
use Rattle.frame_pool.specs.Order.{moved_last}
use Rattle.frame_pool.specs.declared.key.TileKey.{TileKey}

-- For each slot the key that its frame holds, whether it is pinned, and its bytes; and the slots,
-- those of later claims after those of earlier ones.
pub record PoolState : Type 0 where
  pub keys : List (Option TileKey)
  pub pins : List Bool
  pub order : List ℕ
  pub frames : List Text

-- The key of a slot.
abbrev pub key_at : PoolState → ℕ → Option TileKey
key_at pool slot = slice_index_or pool.keys slot None

-- The frame of a slot is pinned.
abbrev pub pinned_at : PoolState → ℕ → Bool
pinned_at pool slot = slice_index_or pool.pins slot false

-- The bytes of a slot's frame.
abbrev pub frame_at : PoolState → ℕ → Text
frame_at pool slot = slice_index_or pool.frames slot []

-- The slot's frame holds the key.
pub record HoldsKey (pool : PoolState) (slot : ℕ) (key : TileKey) : Type 0 where
  pub there : slot < length pool.keys
  pub held : key_at pool slot ≡ Some key

-- No frame holds the key.
abbrev pub IsUnheld : PoolState → TileKey → Type 0
IsUnheld pool key = (slot : ℕ) → slot < length pool.keys → key_at pool slot ≢ Some key

-- So many frames, none of which holds a key or has a pin.
pub record IsNew (frames : ℕ) (pool : PoolState) : Type 0 where
  pub count : length pool.keys ≡ frames
  pub empty : (slot : ℕ) → key_at pool slot ≡ None
  pub free : (slot : ℕ) → pinned_at pool slot ≡ false

-- Some frame has no pin.
pub record HasUnpinned (pool : PoolState) : Type 0 where
  pub slot : ℕ
  pub there : slot < length pool.keys
  pub free : pinned_at pool slot ≡ false

-- The slot is the least one whose frame holds no key.
pub record IsLeastEmpty (pool : PoolState) (slot : ℕ) : Type 0 where
  pub there : slot < length pool.keys
  pub empty : key_at pool slot ≡ None
  pub least : (before : ℕ) → before < slot → key_at pool before ≢ None

-- Every frame holds a key, and the slot is the one that was claimed first of those without a pin.
pub record IsFirstClaimed (pool : PoolState) (slot : ℕ) : Type 0 where
  pub full : (each : ℕ) → each < length pool.keys → key_at pool each ≢ None
  pub place : ℕ
  pub there : place < length pool.order
  pub is : slice_index_or pool.order place 0 ≡ slot
  pub free : pinned_at pool slot ≡ false
  pub first : (before : ℕ) → before < place
      → pinned_at pool (slice_index_or pool.order before 0) ≡ true

-- The slot that a claim takes.
abbrev pub IsNextSlot : PoolState → ℕ → Type 0
IsNextSlot pool slot = IsLeastEmpty pool slot ⊎ IsFirstClaimed pool slot

-- The pool once a key is claimed into a slot: that frame holds it without a pin, and all else is as
-- it was.
abbrev pub claimed : PoolState → ℕ → TileKey → PoolState
claimed pool slot key = record {
  keys = slice_set pool.keys slot (Some key);
  pins = slice_set pool.pins slot false;
  order = moved_last slot pool.order;
  frames = pool.frames;
}

-- The pool with this pin in a slot.
abbrev pub with_pin : PoolState → ℕ → Bool → PoolState
with_pin pool slot pin = record pool { pins = slice_set pool.pins slot pin }

-- The pool with no key in a slot.
abbrev pub released : PoolState → ℕ → PoolState
released pool slot = record pool { keys = slice_set pool.keys slot None }
