-- The rules of a mirror's records, each for itself.
use Rattle.std.specs.Prelude.{◌≡◌, ◌⊎◌, ℕ, ◌+◌, ◌%◌, ◌^◌, ◌<◌, ◌≤◌, true, List, length}
use Rattle.std.specs.List.{AllByRecursion}
use Rattle.byte_formats.specs.Types.{HashFunction, Text}
use Rattle.entry_list.specs.Items.{is_key_of}
use Rattle.issuance_log.specs.Records.{CanBeBatch, tiles_record}
use Rattle.issuance_log.specs.Settings.{most_item}
use Rattle.tls_wire.specs.Arcs.{IsAnchorId}
use Rattle.mirror_core.specs.Folds.{MirrorState, new_mirror, view_in_mirror, with_mirror_tiles}
use Rattle.mirror_core.specs.Folds.{with_mirrored}
use Rattle.mirror_core.specs.Kept.{HasMirrorNumbers}
use Rattle.mirror_core.specs.Records.{mirror_batch_record, mirror_record}

-- An item of a mirror: entry and key have at most 65,535 bytes together, and the key is the one
-- that has to stand beside the entry.
pub record IsMirrorItem (h : HashFunction) (x : Text × Text) : Type 0 where
  pub few : length x.0 + length x.1 ≤ most_item
  pub own : is_key_of h x.0 x.1 ≡ true

-- The first record is a Mirror with an anchor id. It makes a mirror with no items.
pub record IsFirstOfMirror (body : Text) (s : MirrorState) : Type 0 where
  pub log : Text
  pub encoded : body ≡ mirror_record log
  pub id : IsAnchorId log
  pub made : s ≡ new_mirror log

-- A Batch has items of a mirror, one at least, and there are fewer than 2^32 items with them. It
-- makes the mirror with these items after the others.
pub record IsMirrorBatch (h : HashFunction) (s : MirrorState) (body : Text) (t : MirrorState)
    : Type 0 where
  pub items : List (Text × Text)
  pub encoded : body ≡ mirror_batch_record items
  pub batch : CanBeBatch items
  pub few : length s.items + length items < 2 ^ 32
  pub each : AllByRecursion (IsMirrorItem h) items
  pub made : t ≡ with_mirrored items s

-- A Tiles is a multiple of 256, above the last one and within the size. It makes the mirror with
-- the tiles of this size.
pub record IsMirrorTiles (s : MirrorState) (body : Text) (t : MirrorState) : Type 0 where
  pub size : ℕ
  pub encoded : body ≡ tiles_record size
  pub fits : size < 2 ^ 64
  pub multiple : size % 256 ≡ 0
  pub above : s.tiled < size
  pub within : size ≤ length s.items
  pub made : t ≡ with_mirror_tiles size s

-- Each later record is one of the two.
abbrev pub IsNextOfMirror : HashFunction → MirrorState → Text → MirrorState → Type 0
IsNextOfMirror h s body t = IsMirrorBatch h s body t ⊎ IsMirrorTiles s body t

-- A mirror has fewer than 2^32 items, and each is one of a mirror. Its tiles are those of a
-- multiple of 256 up to its size.
pub record IsSoundMirror (h : HashFunction) (s : MirrorState) : Type 0 where
  pub numbers : HasMirrorNumbers (view_in_mirror s)
  pub each : AllByRecursion (IsMirrorItem h) s.items
