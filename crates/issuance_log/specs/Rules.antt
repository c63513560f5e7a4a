-- The rules of a log's records, each for itself.
use Rattle.std.specs.Prelude.{◌≡◌, ◌⊎◌, ℕ, ◌%◌, ◌^◌, ◌<◌, ◌≤◌, true, List, length, None}
use Rattle.byte_formats.specs.Types.{Text, HashFunction}
use Rattle.log_entry.specs.Matching.{has_form, matches}
use Rattle.tls_wire.specs.Arcs.{IsAnchorId}
use Rattle.issuance_log.specs.Folds.{LogState, log_form, new_log, takes_items, view_in, with_item}
use Rattle.issuance_log.specs.Folds.{with_items, with_mark, with_switch, with_tiles}
use Rattle.issuance_log.specs.Marks.{last_mark}
use Rattle.issuance_log.specs.Records.{CanBeBatch, batch_record, settings_record, IsShort}
use Rattle.issuance_log.specs.Records.{entry_record, landmark_record, switch_record, tiles_record}
use Rattle.issuance_log.specs.Settings.{Settings, AreAllowed}

-- The first record is a Log with an anchor id and allowed numbers. It makes a log of the null
-- entry.
pub record IsFirst (body : Text) (s : LogState) : Type 0 where
  pub settings : Settings
  pub encoded : body ≡ settings_record settings
  pub id : IsAnchorId settings.id
  pub allowed : AreAllowed settings.max_active settings.limit
  pub made : s ≡ new_log settings

-- An Entry has the form of the next entry and a key that matches, and the log isn't full. It makes
-- the log with that item.
pub record IsEntryRecord (h : HashFunction) (s : LogState) (body : Text)
    (t : LogState) : Type 0 where
  pub entry : Text
  pub key : Text
  pub encoded : body ≡ entry_record entry key
  pub short_entry : IsShort entry
  pub short_key : IsShort key
  pub form : has_form (log_form (view_in s)) entry ≡ true
  pub belongs : matches h entry key ≡ true
  pub capacity : length s.entries < s.settings.limit
  pub made : t ≡ with_item entry key s

-- A Batch has items that the log takes, each by the rule of an Entry, after those before it. It
-- makes the log with these items.
pub record IsBatchRecord (h : HashFunction) (s : LogState) (body : Text)
    (t : LogState) : Type 0 where
  pub items : List (Text × Text)
  pub encoded : body ≡ batch_record items
  pub batch : CanBeBatch items
  pub taken : takes_items h (view_in s) items ≡ true
  pub made : t ≡ with_items items s

-- A Landmark is the size, and above the last one. It makes the log with that landmark.
pub record IsLandmarkRecord (s : LogState) (body : Text) (t : LogState) : Type 0 where
  pub encoded : body ≡ landmark_record (length s.entries)
  pub fits : length s.entries < 2 ^ 64
  pub above : last_mark s.marks < length s.entries
  pub made : t ≡ with_mark s

-- A Tiles is a multiple of 256, above the last one and within the size. It makes the log with the
-- tiles of this size.
pub record IsTilesRecord (s : LogState) (body : Text) (t : LogState) : Type 0 where
  pub size : ℕ
  pub encoded : body ≡ tiles_record size
  pub fits : size < 2 ^ 64
  pub multiple : size % 256 ≡ 0
  pub above : s.tiled < size
  pub within : size ≤ length s.entries
  pub made : t ≡ with_tiles size s

-- A Switch is the size, and the first one. It makes the log whose entries name the algorithm of
-- their key from there on.
pub record IsSwitchRecord (s : LogState) (body : Text) (t : LogState) : Type 0 where
  pub encoded : body ≡ switch_record (length s.entries)
  pub fits : length s.entries < 2 ^ 64
  pub first : s.switched ≡ None
  pub made : t ≡ with_switch s

-- Each later record is one of the five.
abbrev pub IsNext : HashFunction → LogState → Text → LogState → Type 0
IsNext h s body t = IsEntryRecord h s body t
    ⊎ (IsLandmarkRecord s body t ⊎ (IsTilesRecord s body t ⊎ (IsSwitchRecord s body t
    ⊎ IsBatchRecord h s body t)))
